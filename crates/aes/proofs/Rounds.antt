-- A step of each loop.
use Rattle.std.proofs.Common.{◌≡◌, ℕ, zero, suc, ◌+◌, ◌-◌, ◌*◌, ◌/◌, ◌≤◌, List, ◌++◌, length, map, take, drop, refl, sym, ap, ◌∙◌, arith, inl, inr}
use borrow.Rule.Slice.PartMut.{put_mid}
use Rattle.std.proofs.lemmas.List.{take-take, drop-take}
use Rattle.std.proofs.lemmas.Slice.{take-put_mid}
use Rattle.std.proofs.Math.Seq.{take-append_seam}
use Rattle.aes.specs.Field.{s_box, inverse_s_box}
use Rattle.aes.specs.Block.{added, shift_rows, inverse_shift_rows, mix_columns, inverse_mix_columns}
use Rattle.aes.specs.Cipher.{round_key, rounds_done, rounds_undone}
use Rattle.aes.specs.Schedule.{IsKeyLength, added_words, expanded, next_word}

pub first_done : (w block k : List ℕ) → k ≡ round_key w 0 → added block k ≡ rounds_done w block 0
unfolding rounds_done
first_done w block k e = ap (added block) e

pub one_done : (w block state k : List ℕ) (r : ℕ) → 1 ≤ r → k ≡ round_key w r
    → state ≡ rounds_done w block (r - 1)
    → added (mix_columns (shift_rows (map s_box state))) k ≡ rounds_done w block (r + 1 - 1)
unfolding rounds_done
one_done w block state k zero some e h = absurd (omega arith)
one_done w block state k (suc m) some e h =
    let before : suc m - 1 ≡ m = omega arith in
    let after : suc m ≡ suc m + 1 - 1 = omega arith in
    let now : state ≡ rounds_done w block m = h ∙ ap (rounds_done w block) before in
    ap (λ (t : List ℕ). added (mix_columns (shift_rows (map s_box t))) k) now
    ∙ ap (added (mix_columns (shift_rows (map s_box (rounds_done w block m))))) e
    ∙ ap (rounds_done w block) after

pub first_undone : (w block k : List ℕ) (n : ℕ) → k ≡ round_key w n → added block k ≡ rounds_undone w n block 0
unfolding rounds_undone
first_undone w block k n e = ap (added block) e

pub one_undone : (w block state k : List ℕ) (n r : ℕ) → 1 ≤ r → k ≡ round_key w (n - r)
    → state ≡ rounds_undone w n block (r - 1)
    → inverse_mix_columns (added (map inverse_s_box (inverse_shift_rows state)) k)
    ≡ rounds_undone w n block (r + 1 - 1)
unfolding rounds_undone
one_undone w block state k n zero some e h = absurd (omega arith)
one_undone w block state k n (suc m) some e h =
    let before : suc m - 1 ≡ m = omega arith in
    let after : suc m ≡ suc m + 1 - 1 = omega arith in
    let now : state ≡ rounds_undone w n block m = h ∙ ap (rounds_undone w n block) before in
    ap (λ (t : List ℕ). inverse_mix_columns (added (map inverse_s_box (inverse_shift_rows t)) k)) now
    ∙ ap (λ (t : List ℕ). inverse_mix_columns (added (map inverse_s_box (inverse_shift_rows (rounds_undone w n block m))) t)) e
    ∙ ap (rounds_undone w n block) after

pub key_at : (bytes w : List ℕ) (r n : ℕ) → r ≤ n → take (16 * (n + 1)) bytes ≡ w
    → take 16 (drop (16 * r) bytes) ≡ round_key w r
unfolding round_key
key_at bytes w r n low e =
    let more : 16 * (n + 1) ≡ 16 * r + (16 * (n + 1) - 16 * r) = omega arith in
    let enough : 16 ≤ 16 * (n + 1) - 16 * r = omega arith in
    sym
    (ap (λ (t : List ℕ). take 16 (drop (16 * r) t)) (sym e)
    ∙ ap (λ m. take 16 (drop (16 * r) (take m bytes))) more
    ∙ ap (take 16) (drop-take (16 * r) (16 * (n + 1) - 16 * r) bytes)
    ∙ take-take 16 (16 * (n + 1) - 16 * r) (drop (16 * r) bytes) enough)

pub whole_words : (n : ℕ) → IsKeyLength n → 4 * (n / 4) ≡ n
whole_words n size = elim size [ inl e ↦ rw e refl | inr more ↦ elim more [ inl e ↦ rw e refl | inr e ↦ rw e refl ] ]

pub most_bytes : (n : ℕ) → IsKeyLength n → n ≤ 32
most_bytes n size = elim size [ inl e ↦ omega arith | inr more ↦ elim more [ inl e ↦ omega arith | inr e ↦ omega arith ] ]

pub begun : (key rest : List ℕ) (k : ℕ) → 4 * k ≡ length key
    → take (4 * k) (key ++ rest) ≡ expanded k key (k - k)
unfolding expanded
begun key rest k e =
    let none : k - k ≡ 0 = omega arith in
    ap (λ n. take n (key ++ rest)) e ∙ take-append_seam key rest ∙ ap (expanded k key) (sym none)

pub one_word : (bytes key word : List ℕ) (k i : ℕ) → k ≤ i → 4 * i + 4 ≤ length bytes
    → take (4 * i) bytes ≡ expanded k key (i - k) → word ≡ next_word k (take (4 * i) bytes)
    → take (4 * (i + 1)) (put_mid (4 * i) (4 * i + 4 - 4 * i) bytes word) ≡ expanded k key (i + 1 - k)
unfolding expanded next_word added_words
one_word bytes key word k i low fits before is =
    let four : length word ≡ 4 = ap length is in
    let next : i + 1 - k ≡ suc (i - k) = omega arith in
    take-put_mid (4 * i) (4 * i + 4 - 4 * i) bytes word (4 * (i + 1)) (omega arith) (omega arith)
    ∙ ap (λ (t : List ℕ). take (4 * i) bytes ++ t) is
    ∙ ap (λ (t : List ℕ). t ++ next_word k t) before
    ∙ sym (ap (expanded k key) next)
