-- Blocks stay blocks of bytes, and each step of a round is undone by its inverse.
use Rattle.std.proofs.Common.{◌≡◌, ℕ, zero, suc, ◌<◌, List, [], ◌∷◌, ◌++◌, map, length, take, drop, slice_index, true, nat_lt, bit_xor, refl, sym, ap, ◌∙◌, arith, subst}
use Rattle.std.specs.Bool.{◌==◌}
use Rattle.std.specs.Int.Bits.{xor_assoc, xor_self, xor_zero_r}
use Rattle.std.proofs.lemmas.Bool.{eqb-true, ltb-true}
use Rattle.std.proofs.lemmas.List.{length-map}
use Rattle.std.proofs.lemmas.Nat.{xor_of_8}
use Rattle.aes.specs.Field.{affine, inverse, inverse_affine, inverse_s_box, s_box, times_bits}
use Rattle.aes.specs.Block.{added, columns, inverse_mix_columns, inverse_shift_rows, mixed, mix_columns, shift_rows}
use Rattle.aes.proofs.Bytes.{AllBytes, IsBlock}
use Rattle.aes.proofs.Adding.{cons_is}
use Rattle.aes.proofs.Linear.{mixed_small, unmixed}
use Rattle.aes.proofs.Tables.{all_below, chain, each_below, inverse_by_chain}

pub byte_at : (s : List ℕ) (k : ℕ) → AllBytes s → slice_index s k < 256
byte_at [] k h = omega arith
byte_at (x ∷ xs) zero h = h.0
byte_at (x ∷ xs) (suc k) h = byte_at xs k h.1

pub joined_bytes : (xs ys : List ℕ) → AllBytes xs → AllBytes ys → AllBytes (xs ++ ys)
joined_bytes [] ys h g = g
joined_bytes (x ∷ xs) ys h g = (h.0, joined_bytes xs ys h.1 g)

pub taken_bytes : (n : ℕ) (xs : List ℕ) → AllBytes xs → AllBytes (take n xs)
taken_bytes zero xs h = tt
taken_bytes (suc n) [] h = tt
taken_bytes (suc n) (x ∷ xs) h = (h.0, taken_bytes n xs h.1)

pub dropped_bytes : (n : ℕ) (xs : List ℕ) → AllBytes xs → AllBytes (drop n xs)
dropped_bytes zero xs h = h
dropped_bytes (suc n) [] h = tt
dropped_bytes (suc n) (x ∷ xs) h = dropped_bytes n xs h.1

-- the substitution box
box_checked : all_below 256 (λ b. nat_lt (affine (chain b)) 256) ≡ true
unfolding times_bits
box_checked = refl

back_checked : all_below 256 (λ b. nat_lt (inverse_affine (affine (chain b))) 256) ≡ true
unfolding times_bits
back_checked = refl

undone_checked : all_below 256 (λ b. chain (inverse_affine (affine (chain b))) == b) ≡ true
unfolding times_bits
undone_checked = refl

box_by_chain : (b : ℕ) → b < 256 → s_box b ≡ affine (chain b)
unfolding s_box
box_by_chain b h = ap affine (sym (inverse_by_chain b h))

pub box_small : (b : ℕ) → b < 256 → s_box b < 256
box_small b h =
    let P : ℕ → Type 0 = λ n. n < 256 in
    subst P (sym (box_by_chain b h))
    (ltb-true (affine (chain b)) 256 (each_below 256 (λ k. nat_lt (affine (chain k)) 256) b box_checked h))

box_undone : (b : ℕ) → b < 256 → inverse_s_box (s_box b) ≡ b
unfolding inverse_s_box
box_undone b h =
    let back = inverse_affine (affine (chain b)) in
    let small : back < 256 = ltb-true back 256 (each_below 256 (λ k. nat_lt (inverse_affine (affine (chain k))) 256) b back_checked h) in
    ap (λ t. inverse (inverse_affine t)) (box_by_chain b h)
    ∙ sym (inverse_by_chain back small)
    ∙ eqb-true (chain back) b (each_below 256 (λ k. chain (inverse_affine (affine (chain k))) == k) b undone_checked h)

pub boxes_bytes : (s : List ℕ) → AllBytes s → AllBytes (map s_box s)
boxes_bytes [] h = tt
boxes_bytes (x ∷ xs) h = (box_small x h.0, boxes_bytes xs h.1)

pub boxes_undone : (s : List ℕ) → AllBytes s → map inverse_s_box (map s_box s) ≡ s
boxes_undone [] h = refl
boxes_undone (x ∷ xs) h = cons_is (box_undone x h.0) (boxes_undone xs h.1)

pub boxes_block : (s : List ℕ) → IsBlock s → IsBlock (map s_box s)
boxes_block s h = record { size = simp length-map h.size; bytes = boxes_bytes s h.bytes }

-- the sum of two blocks
pub added_bytes : (x y : List ℕ) → AllBytes x → AllBytes y → AllBytes (added x y)
unfolding added
added_bytes [] ys h g = tt
added_bytes (x ∷ xs) [] h g = tt
added_bytes (x ∷ xs) (y ∷ ys) h g = (xor_of_8 x y h.0 g.0, added_bytes xs ys h.1 g.1)

pub length-added : (x y : List ℕ) → length x ≡ length y → length (added x y) ≡ length x
unfolding added
length-added [] ys e = refl
length-added (x ∷ xs) [] e = absurd (omega arith)
length-added (x ∷ xs) (y ∷ ys) e = ap suc (length-added xs ys (omega arith))

pub added_block : (x y : List ℕ) → IsBlock x → IsBlock y → IsBlock (added x y)
added_block x y h g = record {
  size = length-added x y (h.size ∙ sym g.size) ∙ h.size;
  bytes = added_bytes x y h.bytes g.bytes;
}

pub added_undone : (x y : List ℕ) → length x ≡ length y → added (added x y) y ≡ x
unfolding added
added_undone [] ys e = refl
added_undone (x ∷ xs) [] e = absurd (omega arith)
added_undone (x ∷ xs) (y ∷ ys) e =
    cons_is (xor_assoc x y y ∙ ap (bit_xor x) (xor_self y) ∙ xor_zero_r x) (added_undone xs ys (omega arith))

-- the sixteen bytes of a block
abbrev sixteen : List ℕ → List ℕ
sixteen s =
    let at : ℕ → ℕ = λ k. slice_index s k in
    at 0 ∷ at 1 ∷ at 2 ∷ at 3 ∷ at 4 ∷ at 5 ∷ at 6 ∷ at 7 ∷ at 8 ∷ at 9 ∷ at 10 ∷ at 11 ∷ at 12 ∷ at 13 ∷ at 14 ∷ at 15 ∷ []

-- the first n elements, read one by one
abbrev spelled_from : List ℕ → ℕ → ℕ → List ℕ
spelled_from s k zero = []
spelled_from s k (suc n) = slice_index s k ∷ spelled_from s (suc k) n

shifted : (x : ℕ) (xs : List ℕ) (k n : ℕ) → spelled_from xs k n ≡ spelled_from (x ∷ xs) (suc k) n
shifted x xs k zero = refl
shifted x xs k (suc n) = ap (λ (t : List ℕ). slice_index xs k ∷ t) (shifted x xs (suc k) n)

spelled : (s : List ℕ) (n : ℕ) → length s ≡ n → s ≡ spelled_from s 0 n
spelled [] zero e = refl
spelled [] (suc n) e = absurd (omega arith)
spelled (x ∷ xs) zero e = absurd (omega arith)
spelled (x ∷ xs) (suc n) e = ap (λ (t : List ℕ). x ∷ t) (spelled xs n (omega arith) ∙ shifted x xs 0 n)

is_sixteen : (s : List ℕ) → length s ≡ 16 → s ≡ sixteen s
is_sixteen s e = spelled s 16 e

pub shift_block : (s : List ℕ) → IsBlock s → IsBlock (shift_rows s)
unfolding shift_rows
shift_block s h =
    let at : (k : ℕ) → slice_index s k < 256 = λ k. byte_at s k h.bytes in
    record {
      size = refl;
      bytes = (at 0, (at 5, (at 10, (at 15, (at 4, (at 9, (at 14, (at 3, (at 8, (at 13, (at 2, (at 7, (at 12, (at 1, (at 6, (at 11, tt))))))))))))))));
    }

pub shift_undone : (s : List ℕ) → IsBlock s → inverse_shift_rows (shift_rows s) ≡ s
unfolding shift_rows inverse_shift_rows
shift_undone s h = sym (is_sixteen s h.size)

pub mix_block : (s : List ℕ) → IsBlock s → IsBlock (mix_columns s)
unfolding columns
mix_block s h =
    let m : (i j k l : ℕ) → mixed (slice_index s i) (slice_index s j) (slice_index s k) (slice_index s l) < 256 =
    λ i j k l. mixed_small _ _ _ _ (byte_at s i h.bytes) (byte_at s j h.bytes) (byte_at s k h.bytes) (byte_at s l h.bytes) in
    record {
      size = refl;
      bytes = (m 0 1 2 3, (m 1 2 3 0, (m 2 3 0 1, (m 3 0 1 2, (m 4 5 6 7, (m 5 6 7 4, (m 6 7 4 5, (m 7 4 5 6, (m 8 9 10 11, (m 9 10 11 8, (m 10 11 8 9, (m 11 8 9 10, (m 12 13 14 15, (m 13 14 15 12, (m 14 15 12 13, (m 15 12 13 14, tt))))))))))))))));
    }

pub mix_undone : (s : List ℕ) → IsBlock s → inverse_mix_columns (mix_columns s) ≡ s
unfolding columns
mix_undone s h =
    let u = λ (i j k l : ℕ). unmixed (slice_index s i) (slice_index s j) (slice_index s k) (slice_index s l) (byte_at s i h.bytes) (byte_at s j h.bytes) (byte_at s k h.bytes) (byte_at s l h.bytes) in
    cons_is (u 0 1 2 3) (cons_is (u 1 2 3 0) (cons_is (u 2 3 0 1) (cons_is (u 3 0 1 2)
    (cons_is (u 4 5 6 7) (cons_is (u 5 6 7 4) (cons_is (u 6 7 4 5) (cons_is (u 7 4 5 6)
    (cons_is (u 8 9 10 11) (cons_is (u 9 10 11 8) (cons_is (u 10 11 8 9) (cons_is (u 11 8 9 10)
    (cons_is (u 12 13 14 15) (cons_is (u 13 14 15 12) (cons_is (u 14 15 12 13) (cons_is (u 15 12 13 14) refl)))))))))))))))
    ∙ sym (is_sixteen s h.size)
