use Rattle.std.proofs.Common.{◌≡◌, drop}
use Rattle.digest_core.specs.Oid.{numbers}
use Rattle.digest_core.proofs.oid.read_number.Given as goal

abbrev pub invariant-each_octet : goal.invariant-each_octet
invariant-each_octet l = numbers 0 l.octets ≡ numbers l.begun (drop l.i l.octets)
