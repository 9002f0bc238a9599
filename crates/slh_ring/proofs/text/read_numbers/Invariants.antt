use Rattle.std.proofs.Common.{◌≡◌, ◌≤◌, length, take, Some}
use Rattle.slh_ring.specs.PathTexts.{all_numbers, path_parts}
use Rattle.slh_ring.proofs.text.read_numbers.Given as goal

-- the numbers so far stand at the front
abbrev pub invariant-loop-part : goal.invariant-loop-part
invariant-loop-part l = record {
  few : l.count ≤ 8;
  counted : l.count ≡ length l.yielded;
  front : all_numbers (take l.count (path_parts l.text)) ≡ Some (take l.count l.out);
}
