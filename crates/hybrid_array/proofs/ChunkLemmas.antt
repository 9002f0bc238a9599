-- Chunks of one length.
use Rattle.std.proofs.Common.{◌≡◌, ℕ, ◌+◌, ◌*◌, ◌/◌, ◌<◌, ◌≤◌, List, length, take, arith, refl}
use Rattle.std.proofs.lemmas.List.{take_all, length-take-le}
use Rattle.std.proofs.Math.Nat.{mul-div_cancel, div-mul-le_self}
use Rattle.hybrid_array.specs.Chunks.{IsWholeChunks, whole_count}

-- each of the chunks ends within the list
pub chunk_fits : (i count size : ℕ) → i < count → i * size + size ≤ count * size
chunk_fits i count size below = grind arith

-- a list of whole chunks is all taken
pub take-whole_count : {X : Type 0} (count size : ℕ) (xs : List X) → 0 < size → length xs ≡ count * size → take (whole_count size (length xs)) xs ≡ xs
take-whole_count count size xs some whole =
    let chunks : count * size / size * size ≡ count * size = rw (mul-div_cancel count some) refl in
    let all : whole_count size (length xs) ≡ length xs = rw (whole, chunks) refl in
    take_all (whole_count size (length xs)) xs (omega (arith, all))

-- what a list's whole chunks are taken of are whole chunks
pub taken-whole : {X : Type 0} (size : ℕ) (xs : List X) → 0 < size → IsWholeChunks size (length (take (whole_count size (length xs)) xs))
taken-whole size xs some =
    let n : ℕ = length xs / size in
    let taken = length-take-le (n * size) xs (div-mul-le_self (length xs) size) in
    record { some = some; whole = rw (taken, mul-div_cancel n some) refl }

-- a chunk that is there starts and ends within the list
pub chunk_starts : (i size n : ℕ) → i < n / size → i * size + size ≤ n
chunk_starts i size n below =
    let whole = div-mul-le_self n size in
    let fits = chunk_fits i (n / size) size below in
    omega (arith, whole, fits)
