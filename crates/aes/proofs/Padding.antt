-- Where a message ends, by its last byte.
use Rattle.std.proofs.Common.{◌≡◌, ℕ, ◌-◌, ◌<◌, ◌≤◌, List, [], ◌∷◌, length, drop, replicate, Bool, true, false, nat_lt, slice_index, None, Some, refl, arith, inl, inr, if◌then◌else◌}
use Rattle.std.specs.Bool.{◌==◌}
use Rattle.std.specs.Str.{bytes_eq}
use Rattle.std.proofs.lemmas.Bool.{eq-eqb, lt-ltb, le-ltb}
use Rattle.std.proofs.lemmas.Bool.Decides.{eqb_tells}
use Rattle.aes.specs.Cbc.{unpadded_len}

abbrev pub last_of : List ℕ → ℕ
last_of p = slice_index p (length p - 1)

neq-eqb : (a b : ℕ) → (a ≡ b → ⊥) → (a == b) ≡ false
neq-eqb a b apart = elim (eqb_tells a b) [ inl same ↦ absurd (apart same.1) | inr differ ↦ differ.0 ]

pub no_count : (p : List ℕ) → last_of p ≡ 0 → None ≡ unpadded_len p
unfolding unpadded_len
no_count p h =
    let first : (last_of p == 0) ≡ true = eq-eqb (last_of p) 0 h in
    rw first refl

pub large_count : (p : List ℕ) → (last_of p ≡ 0 → ⊥) → 16 < last_of p → None ≡ unpadded_len p
unfolding unpadded_len
large_count p some h =
    let first : (last_of p == 0) ≡ false = neq-eqb (last_of p) 0 some in
    let second : nat_lt 16 (last_of p) ≡ true = lt-ltb 16 (last_of p) h in
    rw (first, second) refl

pub past_count : (p : List ℕ) → (last_of p ≡ 0 → ⊥) → last_of p ≤ 16 → length p < last_of p
    → None ≡ unpadded_len p
unfolding unpadded_len
past_count p some low h =
    let first : (last_of p == 0) ≡ false = neq-eqb (last_of p) 0 some in
    let second : nat_lt 16 (last_of p) ≡ false = le-ltb 16 (last_of p) low in
    let third : nat_lt (length p) (last_of p) ≡ true = lt-ltb (length p) (last_of p) h in
    rw (first, second, third) refl

pub by_rest : (p : List ℕ) (same : Bool) → (last_of p ≡ 0 → ⊥) → last_of p ≤ 16 → last_of p ≤ length p
    → bytes_eq (drop (length p - last_of p) p) (replicate (last_of p) (last_of p)) ≡ same
    → (if same then Some (length p - last_of p) else None) ≡ unpadded_len p
unfolding unpadded_len
by_rest p same some low within is =
    let first : (last_of p == 0) ≡ false = neq-eqb (last_of p) 0 some in
    let second : nat_lt 16 (last_of p) ≡ false = le-ltb 16 (last_of p) low in
    let third : nat_lt (length p) (last_of p) ≡ false = le-ltb (length p) (last_of p) within in
    rw (first, second, third, is) refl

pub no_bytes : (p : List ℕ) → length p ≡ 0 → None ≡ unpadded_len p
unfolding unpadded_len
no_bytes [] h = refl
no_bytes (x ∷ xs) h = absurd (omega arith)
