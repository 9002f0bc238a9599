use Rattle.std.proofs.Common.{◌≡◌, ◌-◌}
use Rattle.std.specs.Prelude.{slice_get}
use Rattle.slh_ring.proofs.Scans.{Scan}
use Rattle.slh_ring.specs.Records.{entries_in}
use Rattle.slh_ring.proofs.recorded.entries_from.Given as goal

abbrev pub invariant-loop-k : goal.invariant-loop-k
invariant-loop-k l = record {
  scan : Scan (l.count - l.k) l.rest;
  same : slice_get (entries_in l.count l.bytes) l.i ≡ slice_get (entries_in (l.count - l.k) l.rest) (l.i - l.k);
}
