use Rattle.std.proofs.Common.{◌≡◌, ◌≤◌, ◌*◌, ◌-◌, take}
use Rattle.std.specs.Prelude.{sum_by}
use Rattle.slh_core.proofs.digits.checksum_of.Given as goal

abbrev pub invariant-loop-digit : goal.invariant-loop-digit
invariant-loop-digit l = record {
  value : l.sum ≡ sum_by (λ d. 15 - d) (take l.digit-index l.digits);
  small : l.sum ≤ 15 * l.digit-index;
}
