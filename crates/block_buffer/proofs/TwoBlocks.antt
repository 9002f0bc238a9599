-- A padding that needs two blocks.
use Rattle.std.proofs.Common.{◌≡◌, ℕ, ◌+◌, ◌-◌, ◌*◌, ◌<◌, ◌≤◌, List, [], ◌++◌, length, arith, refl, append_assoc, length-append}
use Rattle.std.specs.Prelude.{nat_le, false}
use Rattle.std.proofs.lemmas.List.{append-nil, length-replicate, replicate-append-replicate}
use Rattle.block_buffer.specs.Blocks.{filled, padded}

pub padded_twice : (size : ℕ) (head suffix : List ℕ) → length head ≤ size → length suffix ≤ size → size < length head + length suffix → padded size head suffix ≡ filled size head [] ++ filled size [] suffix
padded_twice size head suffix head_fits suffix_fits long =
    let two : nat_le (length head + length suffix) size ≡ false = grind arith in
    let zeros : 2 * size - (length head + length suffix) ≡ (size - (length head + 0)) + (size - (0 + length suffix)) = omega arith in
    rw (two, zeros, append-nil) (simp (append_assoc, ← replicate-append-replicate) refl)

-- a block with nothing left out
pub length-filled : (size : ℕ) (head : List ℕ) → length head ≤ size → length (filled size head []) ≡ size
length-filled size head fits = rw (length-append, length-append, length-replicate) (omega arith)
