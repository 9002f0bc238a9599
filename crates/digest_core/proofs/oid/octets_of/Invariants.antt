use Rattle.std.proofs.Common.{◌≡◌, ◌+◌, ◌*◌, ◌≤◌, ◌++◌, length, take}
use Rattle.digest_core.specs.Oid.{base_128, base_128_all}
use Rattle.digest_core.proofs.oid.octets_of.Given as goal

abbrev pub invariant-each_arc : goal.invariant-each_arc
invariant-each_arc l =
    record {
      value : l.octets ≡ base_128 (40 * l.first + l.second) ++ base_128_all (take l.i l.rest);
      fits : length l.octets ≤ 39;
    }
