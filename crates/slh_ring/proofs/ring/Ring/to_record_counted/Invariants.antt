use Rattle.std.proofs.Common.{◌≡◌, ◌+◌, ◌*◌, ◌++◌, length, map}
use Rattle.slh_core.specs.Costs.{slh_keygen_cost}
use Rattle.slh_ring.specs.Keys.{ring_bytes, tagged}
use Rattle.slh_ring.specs.Records.{entries_bytes}
use Rattle.slh_ring.proofs.ring.Ring.to_record_counted.Given as goal

-- what is written, followed by the entries of the paths that are left, is the whole record
abbrev pub invariant-loop-path : goal.invariant-loop-path
invariant-loop-path g l =
    let Z = g.P.ForsSizes.scheme in
    let name = g.P.SetSizes.set_name in
    record {
      written : l.bytes.items ++ entries_bytes (map (tagged Z name l.master) l.path-iterator) ≡ ring_bytes Z name l.master l.self;
      cost : l.steps + length l.path-iterator * slh_keygen_cost Z ≡ l.initial.steps + length l.self * slh_keygen_cost Z;
    }
