-- How many bytes a buffer hands out.
use Rattle.std.proofs.Common.{◌≡◌, ℕ, ◌+◌, ◌-◌, ◌*◌, ◌/◌, ◌%◌, ◌<◌, ◌≤◌, arith, refl}
use Rattle.std.proofs.Math.Nat.{add-div_left, div-eq_of_lt, div-mul-le_self, mod-add-div', mul-div_cancel}
use Rattle.block_buffer.specs.Blocks.{handed}

-- no more than there are
pub handed_within : (waiting size count : ℕ) → handed waiting size count ≤ count
handed_within waiting size count = omega (arith, div-mul-le_self (count - waiting) size)

-- fewer than a block are kept, beside those that wait
pub handed_short : (waiting size count : ℕ) → 1 ≤ size → count - handed waiting size count < size + waiting
handed_short waiting size count some =
    let parts : (count - waiting) % size + handed waiting size count ≡ count - waiting = mod-add-div' (count - waiting) size in
    let low : (count - waiting) % size < size = omega arith in
    omega (arith, parts, low)

-- whole blocks
pub handed_whole : (waiting size count : ℕ) → 1 ≤ size → handed waiting size count / size * size ≡ handed waiting size count
handed_whole waiting size count some =
    let positive : 0 < size = omega arith in rw (mul-div_cancel ((count - waiting) / size) positive) refl

-- those that wait are kept
pub handed_waits : (waiting size count : ℕ) → waiting ≤ count → waiting ≤ count - handed waiting size count
handed_waits waiting size count enough = omega (arith, div-mul-le_self (count - waiting) size)

pub ruleset handed_steps = (handed_within, handed_short, handed_whole, handed_waits)

-- none of too few
pub handed_none : (waiting size count : ℕ) → 1 ≤ size → count < size + waiting → handed waiting size count ≡ 0
handed_none waiting size count some short =
    let below : count - waiting < size = omega arith in
    let none : (count - waiting) / size ≡ 0 = div-eq_of_lt below in
    rw none (omega arith)

-- one block more
pub handed_more : (waiting size count : ℕ) → 1 ≤ size → waiting ≤ count → handed waiting size (size + count) ≡ size + handed waiting size count
handed_more waiting size count some enough =
    let positive : 0 < size = omega arith in
    let out : size + count - waiting ≡ size + (count - waiting) = omega arith in
    let step : (size + (count - waiting)) / size ≡ (count - waiting) / size + 1 = add-div_left (count - waiting) positive in
    rw (out, step) (omega arith)
