-- Tests of numbers, and results, as a walk meets them.
use mathlib.Core.Bool.{Bool, true, false, not, ◌&&◌}
use mathlib.Core.Path.{◌≡◌, refl, sym, subst}
use Rattle.std.specs.Prelude.{Result, None, IsOk, IfOk, IsSome, IfSome, Ok, Err, ◌↔◌}
use Rattle.std.specs.Borrow.{GName, name_if_ok, name_if_some}
use Rattle.std.specs.Result.{result_ok}
use Prim.Native.Nat.{ℕ}
use lib.Dec.{T, T_not, eqb, eqb_refl, eqb→eq}

pub and_tt : (b : Bool) → T b → T (b && true)
and_tt true t = tt
and_tt false t = absurd t

pub is_not : (n m : ℕ) → T (not (eqb n m)) → n ≡ m → ⊥
is_not n m t e = T_not (eqb n m) t (subst (λ (k : ℕ). T (eqb n k)) e (eqb_refl n))

twice_not : (y : Bool) → T (not (not y)) → T y
twice_not true t = tt
twice_not false t = t

pub is_so : (n m : ℕ) → T (not (not (eqb n m))) → n ≡ m
is_so n m t = eqb→eq n m (twice_not (eqb n m) t)

-- nor is an error a value
pub is_err : (X E : Type 0) {P : Type 0} (e : E) → (P → ⊥) → IsOk {T = X} {E = E} (Err e) ↔ P
is_err X E e never = ((λ q. absurd (subst T (sym q) tt)), (λ p. absurd (never p)))

pub is_ok : (X E : Type 0) {P : Type 0} (x : X) → P → IsOk {T = X} {E = E} (Ok x) ↔ P
is_ok X E x p = ((λ q. p), (λ q. refl))

-- the value of a result, if it is one
pub ok_is_some : {X E P : Type 0} (r : Result X E) → IsOk r ↔ P → IsSome (result_ok r) ↔ P
ok_is_some (Ok x) iff = iff
ok_is_some (Err e) iff = iff

pub ok_if_some : {X E : Type 0} (P : X → Type 0) (r : Result X E) → IfOk r P → IfSome (result_ok r) P
ok_if_some P (Ok x) p = p
ok_if_some P (Err e) p = p

pub ok_name : {X E : Type 0} (name : X → GName) (r : Result X E) → name_if_some name (result_ok r) ≡ name_if_ok name r
ok_name name (Ok x) = refl
ok_name name (Err e) = refl

-- tests of a truth value
pub is_true : (b : Bool) → T b → b ≡ true
is_true true t = refl
is_true false t = absurd t

pub is_false : (b : Bool) → T (not b) → b ≡ true → ⊥
is_false true t e = t
is_false false t e = subst T (sym e) tt

pub none_is : (X : Type 0) {P : Type 0} → (P → ⊥) → IsSome {T = X} None ↔ P
none_is X never = ((λ q. absurd (subst T (sym q) tt)), (λ p. absurd (never p)))
