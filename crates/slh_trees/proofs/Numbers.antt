-- The number of a byte string, byte by byte.
use Rattle.std.proofs.Common.{◌≡◌, ℕ, ◌+◌, ◌*◌, ◌^◌, ◌<◌, ◌≤◌, arith}
use Rattle.std.proofs.lemmas.Nat.{pow-add}
use Rattle.std.proofs.Math.Pow.{pow_mono}

-- it fits into as many bytes
pub byte_step : (total i byte : ℕ) → total < 2 ^ (8 * i) → byte < 256 → total * 256 + byte < 2 ^ (8 * (i + 1))
byte_step total i byte h small =
    let next : 8 * (i + 1) ≡ 8 * i + 8 = omega arith in
    rw (next, pow-add 2 (8 * i) 8) (omega arith)

-- there is room for one more of eight
pub shifted_below : (total i : ℕ) → total < 2 ^ (8 * i) → i < 8 → total * 256 < 18446744073709551616
shifted_below total i h few =
    let most : 2 ^ (8 * i) ≤ 2 ^ 56 = pow_mono (let less : 8 * i ≤ 56 = omega arith in less) in
    omega arith
