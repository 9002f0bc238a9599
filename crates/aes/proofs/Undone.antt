-- The inverse cipher gives back what the cipher took.
use Rattle.std.proofs.Common.{◌≡◌, ℕ, zero, suc, ◌+◌, ◌-◌, ◌*◌, ◌/◌, ◌%◌, ◌≤◌, List, map, length, length-append, length-take-le, length-drop, drop, Bool, true, false, ◌&&◌, nat_lt, refl, sym, ap, ◌∙◌, arith, if◌then◌else◌}
use Rattle.std.specs.Bool.{◌==◌}
use Rattle.std.proofs.lemmas.Nat.{xor_of_8}
use Rattle.aes.specs.Field.{inverse_s_box, s_box}
use Rattle.aes.specs.Block.{added, inverse_mix_columns, inverse_shift_rows, mix_columns, shift_rows}
use Rattle.aes.specs.Cipher.{cipher, inverse_cipher, round_key, rounds_done, rounds_undone}
use Rattle.aes.specs.Schedule.{IsKeyLength, added_words, changed_word, expanded, expanded_key, next_word, rotated_word, round_constants, rounds_of, substituted_word, word_at}
use Rattle.aes.proofs.Bytes.{AllBytes, IsBlock}
use Rattle.aes.proofs.Blocks.{added_block, added_undone, box_small, boxes_block, boxes_undone, byte_at, dropped_bytes, joined_bytes, mix_block, mix_undone, shift_block, shift_undone, taken_bytes}
use Rattle.aes.proofs.Rounds.{whole_words}

-- the keys of n rounds and of the start are blocks
pub record AreKeys (w : List ℕ) (n : ℕ) : Type 0 where
  pub each : (r : ℕ) → r ≤ n → IsBlock (round_key w r)

done_block : (w block : List ℕ) (n r : ℕ) → AreKeys w n → r ≤ n → IsBlock block → IsBlock (rounds_done w block r)
unfolding rounds_done
done_block w block n zero keys low h = added_block block (round_key w 0) h (keys.each 0 (omega arith))
done_block w block n (suc r) keys low h =
    let before = done_block w block n r keys (omega arith) h in
    added_block _ (round_key w (suc r))
    (mix_block _ (shift_block _ (boxes_block (rounds_done w block r) before))) (keys.each (suc r) low)

-- the last round's state, before its key is added
abbrev turned : List ℕ → List ℕ
turned s = shift_rows (map s_box s)

turned_block : (s : List ℕ) → IsBlock s → IsBlock (turned s)
turned_block s h = shift_block (map s_box s) (boxes_block s h)

turned_back : (s : List ℕ) → IsBlock s → map inverse_s_box (inverse_shift_rows (turned s)) ≡ s
turned_back s h =
    ap (map inverse_s_box) (shift_undone (map s_box s) (boxes_block s h)) ∙ boxes_undone s h.bytes

undone_at : (w block : List ℕ) (n r m : ℕ) → AreKeys w n → IsBlock block → n ≡ r + m + 1
    → rounds_undone w n (added (turned (rounds_done w block (n - 1))) (round_key w n)) r
    ≡ turned (rounds_done w block m)
unfolding rounds_undone rounds_done
undone_at w block n zero m keys h e =
    let last : n - 1 ≡ m = omega arith in
    let state = rounds_done w block (n - 1) in
    let is_block = turned_block state (done_block w block n (n - 1) keys (omega arith) h) in
    added_undone (turned state) (round_key w n) (is_block.size ∙ sym (keys.each n (omega arith)).size)
    ∙ ap (λ k. turned (rounds_done w block k)) last
undone_at w block n (suc r) m keys h e =
    let place : n - suc r ≡ suc m = omega arith in
    let before = undone_at w block n r (suc m) keys h (omega arith) in
    let state = rounds_done w block m in
    let block_here = done_block w block n m keys (omega arith) h in
    let turned_here = turned_block state block_here in
    let mixed_here = mix_block (turned state) turned_here in
    let next_here = done_block w block n (suc m) keys (omega arith) h in
    ap (λ (t : List ℕ). inverse_mix_columns (added (map inverse_s_box (inverse_shift_rows t)) (round_key w (n - suc r)))) before
    ∙ ap (λ (t : List ℕ). inverse_mix_columns (added t (round_key w (n - suc r)))) (turned_back (rounds_done w block (suc m)) next_here)
    ∙ ap (λ k. inverse_mix_columns (added (rounds_done w block (suc m)) (round_key w k))) place
    ∙ ap inverse_mix_columns (added_undone (mix_columns (turned state)) (round_key w (suc m)) (mixed_here.size ∙ sym (keys.each (suc m) (omega arith)).size))
    ∙ mix_undone (turned state) turned_here

rounds_back : (w block : List ℕ) (n : ℕ) → 1 ≤ n → AreKeys w n → IsBlock block
    → added (map inverse_s_box (inverse_shift_rows (rounds_undone w n (added (turned (rounds_done w block (n - 1))) (round_key w n)) (n - 1)))) (round_key w 0)
    ≡ block
unfolding rounds_done
rounds_back w block n some keys h =
    let start = done_block w block n 0 keys (omega arith) h in
    ap (λ (t : List ℕ). added (map inverse_s_box (inverse_shift_rows t)) (round_key w 0)) (undone_at w block n (n - 1) 0 keys h (omega arith))
    ∙ ap (λ (t : List ℕ). added t (round_key w 0)) (turned_back (rounds_done w block 0) start)
    ∙ added_undone block (round_key w 0) (h.size ∙ sym (keys.each 0 (omega arith)).size)

-- the words of a key
word_bytes_at : (w : List ℕ) (k : ℕ) → AllBytes w → AllBytes (word_at w k)
unfolding word_at
word_bytes_at w k h = (byte_at w k h, (byte_at w (k + 1) h, (byte_at w (k + 2) h, (byte_at w (k + 3) h, tt))))

rotated_bytes : (w : List ℕ) → AllBytes w → AllBytes (rotated_word w)
unfolding rotated_word
rotated_bytes w h = (byte_at w 1 h, (byte_at w 2 h, (byte_at w 3 h, (byte_at w 0 h, tt))))

substituted_bytes : (w : List ℕ) → AllBytes w → AllBytes (substituted_word w)
unfolding substituted_word
substituted_bytes w h =
    (box_small _ (byte_at w 0 h), (box_small _ (byte_at w 1 h), (box_small _ (byte_at w 2 h), (box_small _ (byte_at w 3 h), tt))))

added_words_bytes : (x y : List ℕ) → AllBytes x → AllBytes y → AllBytes (added_words x y)
unfolding added_words
added_words_bytes x y h g =
    (xor_of_8 _ _ (byte_at x 0 h) (byte_at y 0 g), (xor_of_8 _ _ (byte_at x 1 h) (byte_at y 1 g), (xor_of_8 _ _ (byte_at x 2 h) (byte_at y 2 g), (xor_of_8 _ _ (byte_at x 3 h) (byte_at y 3 g), tt))))

constants_bytes : AllBytes round_constants
constants_bytes = (omega arith, (omega arith, (omega arith, (omega arith, (omega arith, (omega arith, (omega arith, (omega arith, (omega arith, (omega arith, tt))))))))))

if_bytes : (b : Bool) (x y : List ℕ) → AllBytes x → AllBytes y → AllBytes (if b then x else y)
if_bytes true x y h g = h
if_bytes false x y h g = g

changed_bytes : (k i : ℕ) (before : List ℕ) → AllBytes before → AllBytes (changed_word k i before)
unfolding changed_word
changed_bytes k i before h =
    if_bytes (i % k == 0) _ _
    (added_words_bytes _ _ (substituted_bytes _ (rotated_bytes before h)) (byte_at round_constants (i / k - 1) constants_bytes, (omega arith, (omega arith, (omega arith, tt)))))
    (if_bytes (nat_lt 6 k && i % k == 4) _ _ (substituted_bytes before h) h)

next_bytes : (k : ℕ) (w : List ℕ) → AllBytes w → AllBytes (next_word k w)
unfolding next_word
next_bytes k w h = added_words_bytes _ _ (word_bytes_at w _ h) (changed_bytes k _ _ (word_bytes_at w _ h))

length-next_word : (k : ℕ) (w : List ℕ) → length (next_word k w) ≡ 4
unfolding next_word added_words
length-next_word k w = refl

expanded_bytes : (k : ℕ) (key : List ℕ) (n : ℕ) → AllBytes key → AllBytes (expanded k key n)
unfolding expanded
expanded_bytes k key zero h = h
expanded_bytes k key (suc n) h =
    let before = expanded_bytes k key n h in
    joined_bytes (expanded k key n) (next_word k (expanded k key n)) before (next_bytes k (expanded k key n) before)

length-expanded : (k : ℕ) (key : List ℕ) (n : ℕ) → length (expanded k key n) ≡ length key + 4 * n
unfolding expanded
length-expanded k key zero = omega arith
length-expanded k key (suc n) =
    omega (arith, length-append (expanded k key n) (next_word k (expanded k key n)), length-next_word k (expanded k key n), length-expanded k key n)

round_keys : (key : List ℕ) → IsKeyLength (length key) → AllBytes key → AreKeys (expanded_key key) (rounds_of key)
unfolding round_key
round_keys key size h = record {
  each = λ r low.
      let k = length key / 4 in
      let w = expanded_key key in
      let all : length w ≡ length key + 4 * (4 * (k + 6 + 1) - k) = length-expanded k key (4 * (k + 6 + 1) - k) in
      let whole : 4 * k ≡ length key = whole_words (length key) size in
      let enough : 16 ≤ length (drop (16 * r) w) = omega (arith, length-drop (16 * r) w) in
      record {
        size = length-take-le 16 (drop (16 * r) w) enough;
        bytes = taken_bytes 16 (drop (16 * r) w) (dropped_bytes (16 * r) w (expanded_bytes k key (4 * (k + 6 + 1) - k) h));
      };
}

pub cipher_undone : (key block : List ℕ) → IsKeyLength (length key) → AllBytes key → IsBlock block
    → inverse_cipher key (cipher key block) ≡ block
unfolding cipher inverse_cipher
cipher_undone key block size h is_block =
    rounds_back (expanded_key key) block (rounds_of key) (omega arith) (round_keys key size h) is_block

pub cipher_block : (key block : List ℕ) → IsKeyLength (length key) → AllBytes key → IsBlock block → IsBlock (cipher key block)
unfolding cipher
cipher_block key block size h is_block =
    let keys = round_keys key size h in
    let n = rounds_of key in
    let w = expanded_key key in
    added_block _ (round_key w n) (turned_block _ (done_block w block n (n - 1) keys (omega arith) is_block)) (keys.each n (omega arith))
