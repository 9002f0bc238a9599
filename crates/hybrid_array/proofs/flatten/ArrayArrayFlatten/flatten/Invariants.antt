use Rattle.std.proofs.Common.{◌≡◌, ◌++◌, ◌*◌, length}
use Rattle.std.specs.Vec.Iter.{into_iter_items}
use Rattle.hybrid_array.specs.Runs.{joined}
use Rattle.hybrid_array.proofs.flatten.ArrayArrayFlatten.flatten.Given as goal

-- the items so far, and those that are left
abbrev pub invariant-loop-row : goal.invariant-loop-row
invariant-loop-row g l = record {
  flat : l.items.items ++ joined (into_iter_items l.row-iterator) ≡ joined l.fn.self;
  whole : l.yielded ++ into_iter_items l.row-iterator ≡ l.fn.self;
  full : length l.fn.self ≡ g.N.ArraySize.USIZE;
  count : length l.items.items ≡ length l.yielded * g.M.ArraySize.USIZE;
}
