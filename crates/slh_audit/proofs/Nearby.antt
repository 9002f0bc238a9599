-- Facts of places in a tree, in the forms that the descents and the tests want.
use Rattle.std.proofs.Common.{◌≡◌, ℕ, suc, ◌-◌, ◌*◌, ◌/◌, ◌^◌, ◌<◌, arith, sym}
use Rattle.std.proofs.Math.Nat.{pow-suc, div-div-eq-div-mul}
use Rattle.slh_merkle.proofs.Powers.{sibling_below_of}
use Rattle.slh_merkle.specs.Merkle.{sibling_of}

pub half : (y z : ℕ) → y / 2 ^ suc z ≡ y / 2 ^ z / 2
half y z = rw (pow-suc 2 z) (sym (div-div-eq-div-mul y (2 ^ z) 2))

pub sibling_below : (y z top : ℕ) → z < top → y < 2 ^ top → sibling_of (y / 2 ^ z) < 2 ^ (top - z)
sibling_below y z top h k =
    let one : 1 * 2 ^ (top - z) ≡ 2 ^ (top - z) = omega arith in
    rw one at (sibling_below_of y z top 1 h (omega (arith, k)))
