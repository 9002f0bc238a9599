use Rattle.std.proofs.Common.{◌-◌, ◌≡◌, ◌+◌, ◌*◌, ◌%◌, ◌<◌, ◌^◌, length, take}
use Rattle.slh_core.specs.Bytes.{number_of}
use Rattle.slh_core.specs.Digits.{digit, listed}
use Rattle.slh_core.proofs.digits.base_2b.Given as goal

-- what is held are the last bits of the bytes that were read
abbrev pub invariant-loop-bits : goal.invariant-loop-bits
invariant-loop-bits l = record {
  held : l.total ≡ number_of (take l.at l.x) % 2 ^ l.bits;
  place : 8 * l.at ≡ l.b * l.slot-index + l.bits;
  small : l.bits < l.b + 8;
}

abbrev pub decreases-loop-bits : goal.decreases-loop-bits
decreases-loop-bits l = l.b - l.bits

abbrev pub invariant-loop-slot : goal.invariant-loop-slot
invariant-loop-slot l = record {
  held : l.total ≡ number_of (take l.at l.x) % 2 ^ l.bits;
  place : 8 * l.at ≡ l.b * l.slot-index + l.bits;
  small : l.bits < 8;
  done : take l.slot-index l.out ≡ listed (digit l.x l.b (length l.fn.out)) l.slot-index;
}
