-- Buffers and their bytes.
use Rattle.std.proofs.Common.{◌≡◌, ℕ, ◌+◌, ◌-◌, ◌<◌, ◌≤◌, List, [], ◌∷◌, ◌++◌, length, drop, take, replicate, add-one, arith, refl, ap, sym, ◌∙◌}
use Rattle.std.proofs.lemmas.List.{length-drop, length-take-le, take-append-drop}
use Rattle.std.proofs.lemmas.Slice.{take-put_mid}
use Rattle.std.proofs.Math.Seq.{drop-append-add}
use Rattle.std.specs.Prelude.{slice_index}
use Rattle.block_buffer.specs.Serial.{IsReadSerialized, IsSerialized, read_serialized, serialized}
use borrow.Rule.Slice.PartMut.{put_mid}

-- the bytes of a read buffer that are accepted: those of a buffer with the bytes from the position on
pub read_parts : (size : ℕ) (bytes : List ℕ) → 1 ≤ size → length bytes ≡ size → IsReadSerialized size bytes → bytes ≡ read_serialized size (drop (slice_index bytes 0) bytes)
read_parts size [] some total s = absurd (omega (arith, total, some))
read_parts size (first ∷ rest) some total s =
    let count : 1 + (first - 1) ≡ first = omega (arith, s.low) in
    let left : drop first (first ∷ rest) ≡ drop (first - 1) rest =
    ap (λ n. drop n (first ∷ rest)) (sym count) ∙ drop-append-add (first ∷ []) rest (first - 1) in
    let len : size - length (drop (first - 1) rest) ≡ first = omega (arith, total, s.low, s.high, length-drop (first - 1) rest) in
    let split : rest ≡ replicate (first - 1) 0 ++ drop (first - 1) rest = rw (← s.consumed) (sym (take-append-drop (first - 1) rest)) in
    rw (left, len) (ap (λ (xs : List ℕ). first ∷ xs) split)

-- bytes that are accepted: a position, so many bytes, and zeros
pub serialized_parts : (size : ℕ) (bytes : List ℕ) → length bytes ≡ size → IsSerialized size bytes → (held : List ℕ) × (length held < size) × (bytes ≡ serialized size held)
serialized_parts size [] total s = absurd (omega (arith, total, s.position))
serialized_parts size (first ∷ rest) total s =
    let fits : first ≤ length rest = omega (arith, total, s.position) in
    let count : length (take first rest) ≡ first = length-take-le first rest fits in
    let unused : drop first rest ≡ replicate (size - (first + 1)) 0 = rw (← total, ← s.unused, add-one) refl in
    let parts : take first rest ++ replicate (size - (first + 1)) 0 ≡ rest = rw (← unused) (take-append-drop first rest) in
    (take first rest, omega (arith, count, s.position), rw (count, parts) refl)

-- bytes that were written at the end of a block
pub written_last : (size pos : ℕ) (store piece unread : List ℕ) → piece ≡ unread → pos + length unread ≡ size → pos ≤ length store → drop pos (take size (put_mid pos (size - pos) store piece)) ≡ unread
written_last size pos store piece unread e total fits =
    let n : size ≡ pos + length piece = rw e (sym total) in
    let front : pos ≡ length (take pos store) + 0 = omega (arith, length-take-le pos store fits) in
    let split : drop (length (take pos store) + 0) (take pos store ++ piece) ≡ piece = drop-append-add (take pos store) piece 0 in
    rw (take-put_mid pos (size - pos) store piece size n fits) (ap (λ n. drop n (take pos store ++ piece)) front ∙ (split ∙ e))
