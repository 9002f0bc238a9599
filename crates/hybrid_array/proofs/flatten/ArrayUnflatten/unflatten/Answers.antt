use Rattle.std.proofs.Common.{◌≡◌, ℕ, suc, ◌+◌, ◌-◌, ◌*◌, List, [], ◌∷◌, ◌++◌, length, take, drop, arith, append_assoc, length-drop}
use Rattle.std.proofs.lemmas.Grind.{common_steps}
use Rattle.hybrid_array.specs.Runs.{runs}
use Rattle.std.proofs.lemmas.Result.{IfOk-from_err}
use Rattle.hybrid_array.proofs.flatten.ArrayUnflatten.unflatten.Goals as goal

more : {X : Type 0} (q m i k : ℕ) (rows : List (List X)) (rest later : List X) (all : List (List X)) → m - i ≡ suc k → later ≡ drop q rest → rows ++ runs q (m - i) rest ≡ all → (rows ++ take q rest ∷ []) ++ runs q k later ≡ all
more q m i k rows rest later all e d h = rw (append_assoc, d) (rw e at h)

shorter : {X : Type 0} (q m i k : ℕ) (rest later : List X) → m - i ≡ suc k → later ≡ drop q rest → length rest ≡ (m - i) * q → length later ≡ k * q
shorter q m i k rest later e d h =
    let whole : length rest ≡ suc k * q = rw e at h in rw (d, length-drop, whole) (omega arith)

pub loop-i-preserved : goal.loop-i-preserved
loop-i-preserved g c =
    let q : ℕ = g.Q.ArraySize.USIZE in
    let m : ℕ = g.M.ArraySize.USIZE in
    let one : m - c.loop-i.i ≡ suc (m - (c.loop-i.i + 1)) = omega arith in
    record {
      room = rw c.push_reserved.ensures.capacity c.loop-i.invariant.room;
      count = rw c.push_reserved.ensures.items (grind (arith, common_steps));
      left = shorter q m c.loop-i.i (m - (c.loop-i.i + 1)) c.loop-i.rest.items c.in_ok-later.later.items one (rw (← c.USIZE-in-loop-i.ensures) c.in_ok-later.ensures.tail) c.loop-i.invariant.left;
      cut = rw (c.push_reserved.ensures.items, c.of.ensures, c.in_ok-later.ensures.items, c.USIZE-in-loop-i.ensures) (more q m c.loop-i.i (m - (c.loop-i.i + 1)) c.loop-i.rows.items c.loop-i.rest.items c.in_ok-later.later.items _ one (rw (← c.USIZE-in-loop-i.ensures) c.in_ok-later.ensures.tail) c.loop-i.invariant.cut);
    }

pub returns-in_err-rows : goal.returns-in_err-rows
returns-in_err-rows g c = IfOk-from_err _ _ c.from_residual.ensures.0

pub returns-in_err-later : goal.returns-in_err-later
returns-in_err-later g c = IfOk-from_err _ _ c.from_residual-in_err-later.ensures.0

pub of-requires-2 : goal.of-requires-2
of-requires-2 g c = omega arith

pub push_reserved-requires : goal.push_reserved-requires
push_reserved-requires g c = omega arith

pub split_off-requires : goal.split_off-requires
split_off-requires g c =
    let one : g.M.ArraySize.USIZE - c.loop-i.i ≡ suc (g.M.ArraySize.USIZE - (c.loop-i.i + 1)) = omega arith in
    rw c.USIZE-in-loop-i.ensures (omega (arith, rw one at c.loop-i.invariant.left))

pub of-requires : goal.of-requires
of-requires g c = grind (arith, common_steps)

pub returns : goal.returns
returns g c = grind (arith, common_steps)
