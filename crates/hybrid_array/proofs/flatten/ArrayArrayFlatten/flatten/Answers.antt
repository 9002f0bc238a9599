use Rattle.std.proofs.Common.{◌≡◌, ℕ, ◌+◌, ◌*◌, List, [], ◌∷◌, ◌++◌, length, arith, append_assoc, length-append}
use Rattle.std.specs.Vec.Iter.{into_iter_items}
use Rattle.hybrid_array.specs.Runs.{joined}
use Rattle.std.proofs.lemmas.Grind.{common_steps}
use Rattle.std.proofs.lemmas.Result.{IfOk-from_err}
use Rattle.hybrid_array.proofs.flatten.ArrayArrayFlatten.flatten.Goals as goal

more : {X : Type 0} (xs row xs' : List X) (left all : List (List X)) (rows : List (List X)) → xs' ≡ xs ++ row → rows ≡ row ∷ left → xs ++ joined rows ≡ joined all → xs' ++ joined left ≡ joined all
more xs row xs' left all rows e r h = rw (e, append_assoc) (rw r at h)

counted : {X : Type 0} (n m : ℕ) (xs row xs' : List X) → xs' ≡ xs ++ row → length row ≡ m → length xs ≡ n * m → length xs' ≡ (n + 1) * m
counted n m xs row xs' e r h = rw (e, length-append, r, h) (omega arith)

pub loop-row-preserved : goal.loop-row-preserved
loop-row-preserved g c = record {
  flat = more c.loop-row.items.items c.in-Some.row c.append.new.self.items (into_iter_items c.next.new.self) c.args.self (into_iter_items c.loop-row.row-iterator) (rw (← c.into_vec-row.ensures.value) c.in_ok-append.ensures.items) c.in-Some.ensures.steps.0 c.loop-row.invariant.flat;
  whole = rw (append_assoc, ← c.in-Some.ensures.steps.0) c.loop-row.invariant.whole;
  full = c.loop-row.invariant.full;
  count = rw (length-append c.loop-row.yielded (c.in-Some.row ∷ [])) (counted (length c.loop-row.yielded) g.M.ArraySize.USIZE c.loop-row.items.items c.into_vec-row.result.items _ c.in_ok-append.ensures.items (omega arith) c.loop-row.invariant.count);
}

pub returns-in_err-items : goal.returns-in_err-items
returns-in_err-items g c = IfOk-from_err _ _ c.from_residual.ensures.0

pub returns-in_err-append : goal.returns-in_err-append
returns-in_err-append g c = IfOk-from_err _ _ c.from_residual-in_err-append.ensures.0

pub returns : goal.returns
returns g c = grind (arith, common_steps)

pub of-requires : goal.of-requires
of-requires g c = grind (arith, common_steps)
