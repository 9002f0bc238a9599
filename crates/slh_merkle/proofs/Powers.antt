-- Powers of two along the heights of a tree.
use Rattle.std.proofs.Common.{◌≡◌, ℕ, zero, suc, ◌+◌, ◌-◌, ◌*◌, ◌/◌, ◌^◌, ◌<◌, arith, add-one, ap, sym, ◌∙◌}
use Rattle.std.proofs.Math.Nat.{pow-suc, div-div-eq-div-mul}
use Rattle.std.proofs.lemmas.Nat.{div_below, pow_pos, pow-add}
use Rattle.std.proofs.lemmas.Bool.Decides.{nat_tests}
use Rattle.slh_merkle.specs.Merkle.{sibling_of}

-- what a level costs is twice what the one below costs
pub twice : (z x : ℕ) → 0 < z → 2 ^ z * x ≡ 2 ^ (z - 1) * x + 2 ^ (z - 1) * x
twice zero x h = absurd (omega arith)
twice (suc z) x h = let e : suc z - 1 ≡ z = omega arith in rw (e, pow-suc 2 z) (omega arith)

-- the next bit
pub half : (y z : ℕ) → y / 2 ^ (z + 1) ≡ y / 2 ^ z / 2
half y z = rw (add-one, pow-suc 2 z) (sym (div-div-eq-div-mul y (2 ^ z) 2))

pub twice_more : (z x : ℕ) → 2 ^ (z + 1) * x ≡ 2 ^ z * x + 2 ^ z * x
twice_more z x = rw (add-one, pow-suc 2 z) (omega arith)

-- the other child of the same node is of the trees too
pub sibling_below_of : (y z top k : ℕ) → z < top → y < k * 2 ^ top → sibling_of (y / 2 ^ z) < k * 2 ^ (top - z)
sibling_below_of y z top k h b =
    let whole : (top - z) + z ≡ top = omega arith in
    let product : 2 ^ top ≡ 2 ^ (top - z) * 2 ^ z = ap (λ e. 2 ^ e) (sym whole) ∙ pow-add 2 (top - z) z in
    let turned : k * 2 ^ top ≡ (k * 2 ^ (top - z)) * 2 ^ z = rw product (omega arith) in
    let inside : y / 2 ^ z < k * 2 ^ (top - z) = div_below y (2 ^ z) (k * 2 ^ (top - z)) (pow_pos z) (rw (← turned) b) in
    let even = twice (top - z) k (omega arith) in
    grind (arith, nat_tests)
