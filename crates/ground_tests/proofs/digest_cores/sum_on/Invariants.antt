use Rattle.std.proofs.Common.{◌≡◌, ◌+◌, ◌%◌, sum, take}
use Rattle.ground_tests.proofs.digest_cores.sum_on.Given as goal

abbrev pub invariant-each_byte : goal.invariant-each_byte
invariant-each_byte l = l.total ≡ (l.start + sum (take l.byte-index l.bytes)) % 256
