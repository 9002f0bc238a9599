use Rattle.std.proofs.Common.{◌≡◌, ◌≤◌, length}
use Rattle.std.specs.Prelude.{All}
use Rattle.std.specs.Vec.{vec_capacity}
use Rattle.hybrid_array.proofs.array.Array.default.Given as goal

abbrev pub invariant-loop-i : goal.invariant-loop-i
invariant-loop-i g l = record {
  room : g.U.ArraySize.USIZE ≤ vec_capacity l.items;
  count : length l.items.items ≡ l._i;
  made : All g.T.Default.is_default l.items.items;
}
