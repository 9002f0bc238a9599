-- One more call of a closure, or of an iterator's `next`.
use Rattle.std.proofs.Common.{◌≡◌, ℕ, ◌+◌, List, [], ◌∷◌, ◌++◌, length, refl, subst, arith, sym}
use Rattle.std.specs.Prelude.{Option, Some}
use Rattle.std.specs.Iterator.{Yields}
use Rattle.hybrid_array.specs.declared.iter.IterError.{IterError}
use Rattle.hybrid_array.specs.declared.iter.IterError.TheVariants.{Count, Memory}
use Rattle.hybrid_array.specs.Calls.{Answers, Maps}
use Rattle.hybrid_array.specs.Refusals.{OnCount}

-- a call after those on n, n + 1 and so on
pub Answers-push : {F X : Type 0} (step : F → ℕ → X → F → Type 0) (n : ℕ) (f : F) (xs : List X) (p : F) (x : X) (q : F) → Answers step n f xs p → step p (n + length xs) x q → Answers step n f (xs ++ x ∷ []) q
Answers-push {F} {X} step n f [] p x q before call =
    let P : F → Type 0 = λ h. step h n x q in
    let there : n + length {A = X} [] ≡ n = omega arith in
    let call' : step p n x q = rw there at call in
    (q, subst P (sym before) call', refl)
Answers-push {F} {X} step n f (y ∷ ys) p x q before call =
    let there : n + length (y ∷ ys) ≡ n + 1 + length ys = omega arith in
    let call' : step p (n + 1 + length ys) x q = rw there at call in
    (before.0, before.1, Answers-push step (n + 1) before.0 ys p x q before.2 call')

-- a call after those on items
pub Maps-push : {F X Y : Type 0} (step : F → X → Y → F → Type 0) (f : F) (xs : List X) (ys : List Y) (p : F) (x : X) (y : Y) (q : F) → Maps step f xs ys p → step p x y q → Maps step f (xs ++ x ∷ []) (ys ++ y ∷ []) q
Maps-push {F} {X} {Y} step f [] [] p x y q before call =
    let P : F → Type 0 = λ h. step h x y q in (q, subst P (sym before) call, refl)
Maps-push step f [] (b ∷ ys) p x y q before call = absurd before
Maps-push step f (a ∷ xs) [] p x y q before call = absurd before
Maps-push step f (a ∷ xs) (b ∷ ys) p x y q before call =
    (before.0, before.1, Maps-push step before.0 xs ys p x y q before.2 call)

-- an item after those that were given
pub Yields-push : {S X : Type 0} (steps : S → Option X → S → Type 0) (s : S) (xs : List X) (t : S) (x : X) (u : S) → Yields steps s xs t → steps t (Some x) u → Yields steps s (xs ++ x ∷ []) u
Yields-push {S} {X} steps s [] t x u before next =
    let P : S → Type 0 = λ v. steps v (Some x) u in (u, subst P (sym before) next, refl)
Yields-push steps s (y ∷ ys) t x u before next =
    (before.0, before.1, Yields-push steps before.0 ys t x u before.2 next)

-- what follows from the cause of a refused number
pub OnCount-map : (P Q : Type 0) (error : IterError) → (P → Q) → OnCount P error → OnCount Q error
OnCount-map P Q (Count e) f cause = f cause
OnCount-map P Q (Memory e) f cause = cause
