-- Facts on each byte, by trying all of them.
use Rattle.std.proofs.Common.{◌≡◌, ℕ, zero, suc, ◌<◌, Bool, true, ◌&&◌, get_or, refl, inl, inr, subst, arith}
use Rattle.std.specs.Bool.{◌==◌}
use Rattle.std.proofs.lemmas.Bool.{and_parts, cases_lt, eqb-true}
use Rattle.aes.specs.Field.{s_box, times_bits, power, inverse, times}
use Rattle.aes.specs.Table.{s_box_table}

abbrev pub all_below : ℕ → (ℕ → Bool) → Bool
all_below zero p = true
all_below (suc n) p = p n && all_below n p

pub each_below : (n : ℕ) (p : ℕ → Bool) (k : ℕ) → all_below n p ≡ true → k < n → p k ≡ true
each_below zero p k all below = absurd (omega arith)
each_below (suc n) p k all below =
    let both = and_parts _ _ all in
    elim (cases_lt k n) [
      | inl less ↦ each_below n p k both.1 less
      | inr above ↦
          let same : n ≡ k = omega arith in
          subst (λ (j : ℕ). p j ≡ true) same both.0
    ]

-- the inverse by fewer products
abbrev pub chain : ℕ → ℕ
chain a =
    let a3 = times (times a a) a in
    let a12 = times (times a3 a3) (times a3 a3) in
    let a15 = times a12 a3 in
    let a30 = times a15 a15 in
    let a60 = times a30 a30 in
    let a120 = times a60 a60 in
    times (times (times a120 a120) a12) (times a a)

chain_checked : all_below 256 (λ b. chain b == inverse b) ≡ true
unfolding times_bits power
chain_checked = refl

pub inverse_by_chain : (a : ℕ) → a < 256 → chain a ≡ inverse a
inverse_by_chain a small = eqb-true (chain a) (inverse a) (each_below 256 (λ b. chain b == inverse b) a chain_checked small)

box_checked : all_below 256 (λ b. s_box b == get_or s_box_table b 0) ≡ true
unfolding s_box times_bits power
box_checked = refl

pub box_by_table : (b : ℕ) → b < 256 → s_box b ≡ get_or s_box_table b 0
box_by_table b small = eqb-true (s_box b) (get_or s_box_table b 0) (each_below 256 (λ k. s_box k == get_or s_box_table k 0) b box_checked small)
