use Rattle.std.proofs.Common.{◌≡◌, ◌++◌, ◌-◌, ◌*◌, ◌≤◌, length}
use Rattle.std.specs.Vec.{vec_capacity}
use Rattle.hybrid_array.specs.Runs.{runs}
use Rattle.hybrid_array.proofs.flatten.ArrayUnflatten.unflatten.Given as goal

-- the runs so far, and those that are left
abbrev pub invariant-loop-i : goal.invariant-loop-i
invariant-loop-i g l = record {
  room : g.M.ArraySize.USIZE ≤ vec_capacity l.rows;
  count : length l.rows.items ≡ l.i;
  left : length l.rest.items ≡ (g.M.ArraySize.USIZE - l.i) * g.Q.ArraySize.USIZE;
  cut : l.rows.items ++ runs g.Q.ArraySize.USIZE (g.M.ArraySize.USIZE - l.i) l.rest.items ≡ runs g.Q.ArraySize.USIZE g.M.ArraySize.USIZE l.fn.self;
}
