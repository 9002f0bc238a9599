-- Where a node's hashes are, in the log that has them.
use Rattle.std.proofs.Common.{◌≡◌, ℕ, ◌+◌, ◌*◌, ◌/◌, ◌%◌, ◌^◌, ◌<◌, ◌≤◌, inl, inr, sym, ap, ◌∙◌, arith}
use Rattle.std.proofs.Math.Nat.{div-lt_iff_lt-mul}
use Rattle.std.proofs.Math.Pow.{pow_mono}
use Rattle.std.proofs.lemmas.Bool.{cases_lt}
use Rattle.std.proofs.lemmas.Nat.{pow_pos, pow-add}

-- a run in a list of fewer than 2^64 digests has a height below 64
pub height_fits : (height index size : ℕ) → (index + 1) * 2 ^ height ≤ size → size < 2 ^ 64 → height < 64
height_fits height index size inside few = elim (cases_lt height 64) [
  | inl below ↦ below
  | inr high ↦ (let large : 2 ^ 64 ≤ 2 ^ height = pow_mono high in
      let all : (index + 1) * 2 ^ height ≡ index * 2 ^ height + 2 ^ height = omega arith in
      absurd (omega (arith, inside, few, large, all)))
]

-- the hashes under a node are among those of their level
pub hashes_inside : (height index size : ℕ) → (index + 1) * 2 ^ height ≤ size
    → 256 * (index * 2 ^ (height % 8) / 256) + (index * 2 ^ (height % 8) % 256 + 2 ^ (height % 8)) ≤ size / 2 ^ (8 * (height / 8))
hashes_inside height index size inside =
    let l = height / 8 in
    let r = height % 8 in
    let p = 2 ^ r in
    let b = 2 ^ (8 * l) in
    let parts : height ≡ 8 * l + r = omega arith in
    let pow : 2 ^ height ≡ b * p = ap (λ h. 2 ^ h) parts ∙ pow-add 2 (8 * l) r in
    let product : (index + 1) * p * b ≡ (index + 1) * 2 ^ height = sym (ap (λ n. (index + 1) * n) pow ∙ omega arith) in
    let below : (index + 1) * p ≤ size / b = elim (cases_lt (size / b) ((index + 1) * p)) [
      | inl less ↦ (let short : size < (index + 1) * p * b = (div-lt_iff_lt-mul (pow_pos (8 * l))).0 less in absurd (omega (arith, short, product, inside)))
      | inr more ↦ more
    ] in
    let all : (index + 1) * p ≡ index * p + p = omega arith in
    omega (arith, below, all)
