use Rattle.std.proofs.Common.{◌≡◌, drop}
use Rattle.slh_log.specs.Reading.{all_origin_bytes}
use Rattle.slh_log.proofs.origin.is_origin.Given as goal

-- what is left decides
abbrev pub invariant-each_byte : goal.invariant-each_byte
invariant-each_byte l = all_origin_bytes l.bytes ≡ all_origin_bytes (drop l.byte-index l.bytes)
