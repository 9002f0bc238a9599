use Rattle.std.proofs.Common.{◌≡◌, ◌+◌, ◌-◌, ◌*◌}
use Rattle.slh_core.specs.Costs.{slh_keygen_cost}
use Rattle.slh_ring.proofs.Scans.{Scan}
use Rattle.slh_ring.specs.Records.{entries_in}
use Rattle.slh_ring.specs.Restores.{first_mismatch}
use Rattle.slh_ring.proofs.records.first_mismatch.Given as goal

abbrev pub invariant-loop-i : goal.invariant-loop-i
invariant-loop-i g l =
    let mismatch = first_mismatch g.P.ForsSizes.scheme g.P.SetSizes.set_name l.master in
    let cost = slh_keygen_cost g.P.ForsSizes.scheme in
    record {
      scan : Scan (l.count - l.i) l.rest;
      same : mismatch 0 (entries_in l.count l.bytes) ≡ mismatch l.i (entries_in (l.count - l.i) l.rest);
      cost : l.steps ≡ l.initial.steps + l.i * cost;
    }
