-- How many bytes a key has, and that each is a byte.
use Rattle.std.proofs.Common.{inl, inr, ◌≡◌, ℕ, zero, suc, ◌-◌, ◌/◌, ◌^◌, ◌<◌, ◌≤◌, List, [], ◌∷◌, ◌++◌, length, length-take-le, take, slice_index, refl, subst, sym, ap, ◌∙◌, arith, lit<}
use Rattle.std.proofs.lemmas.Bool.{cases_lt}
use Rattle.std.proofs.lemmas.List.{get_or_append_left, get_or-append_right}
use Rattle.std.proofs.lemmas.Nat.{mod_below, xor_of_8}
use Rattle.std.specs.Int.{byte_at, bytes_high_first, to_be_bytes, w32}
use Rattle.hmac_sha256.specs.Hmac.{hmac_sha256, inner_block, outer_block}
use Rattle.hmac_sha256.proofs.Codes.{length-hmac_sha256}
use Rattle.sha256_lanes.specs.Sha256.{fold_blocks, initial_words, pad, sha256, word_bytes}
use Rattle.pbkdf2.specs.Pbkdf2.{added, first_code, iterated, pbkdf2, summed}
use Rattle.pbkdf2.proofs.Deriving.{derived}

abbrev pub AreBytes : List ℕ → Type 0
AreBytes xs = (i : ℕ) → slice_index xs i < 256

byte_at_small : (k n : ℕ) → byte_at k n < 256
byte_at_small zero n = mod_below n 256 (lit< tt)
byte_at_small (suc k) n = mod_below (n / 256 ^ suc k) 256 (lit< tt)

number_bytes : (k n : ℕ) → AreBytes (bytes_high_first k n)
number_bytes zero n i = lit< tt
number_bytes (suc k) n zero = byte_at_small k n
number_bytes (suc k) n (suc i) = number_bytes k n i

append_bytes : (xs ys : List ℕ) → AreBytes xs → AreBytes ys → AreBytes (xs ++ ys)
append_bytes xs ys first second i =
    elim (cases_lt i (length xs)) [
      | inl inside ↦
          subst (λ (b : ℕ). b < 256) (sym (get_or_append_left xs ys 0 i inside)) (first i)
      | inr past ↦
          subst (λ (b : ℕ). b < 256) (sym (get_or-append_right xs ys (length xs) i 0 refl past)) (second _)
    ]

take_bytes : (n : ℕ) (xs : List ℕ) → AreBytes xs → AreBytes (take n xs)
take_bytes zero xs all i = lit< tt
take_bytes (suc n) [] all i = lit< tt
take_bytes (suc n) (x ∷ xs) all zero = all zero
take_bytes (suc n) (x ∷ xs) all (suc i) = take_bytes n xs (λ k. all (suc k)) i

word_bytes_are : (words : List ℕ) → AreBytes (word_bytes words)
word_bytes_are [] = λ i. lit< tt
word_bytes_are (x ∷ words) =
    append_bytes (to_be_bytes w32 x) (word_bytes words) (number_bytes 4 x) (word_bytes_are words)

sha256_bytes : (m : List ℕ) → AreBytes (sha256 m)
unfolding sha256
sha256_bytes m = word_bytes_are (fold_blocks initial_words (pad m) (length (pad m) / 64))

code_bytes : (key m : List ℕ) → AreBytes (hmac_sha256 key m)
unfolding hmac_sha256
code_bytes key m = sha256_bytes (outer_block key ++ sha256 (inner_block key ++ m))

added_bytes : (xs ys : List ℕ) → AreBytes xs → AreBytes ys → AreBytes (added xs ys)
unfolding added
added_bytes [] ys h g i = lit< tt
added_bytes (x ∷ xs) [] h g i = lit< tt
added_bytes (x ∷ xs) (y ∷ ys) h g zero = xor_of_8 x y (h zero) (g zero)
added_bytes (x ∷ xs) (y ∷ ys) h g (suc i) = added_bytes xs ys (λ k. h (suc k)) (λ k. g (suc k)) i

length-added : (xs ys : List ℕ) → length xs ≡ length ys → length (added xs ys) ≡ length xs
unfolding added
length-added [] ys e = refl
length-added (x ∷ xs) [] e = absurd (omega arith)
length-added (x ∷ xs) (y ∷ ys) e = ap suc (length-added xs ys (omega arith))

-- a code: 32 bytes
record IsCode (s : List ℕ) : Type 0 where
  pub size : length s ≡ 32
  pub bytes : AreBytes s

code : (key m : List ℕ) → IsCode (hmac_sha256 key m)
code key m = record { size = length-hmac_sha256 key m; bytes = code_bytes key m }

iterated_code : (password first : List ℕ) (k : ℕ) → IsCode first → IsCode (iterated password first k)
unfolding iterated
iterated_code password first zero h = h
iterated_code password first (suc k) h = code password (iterated password first k)

summed_code : (password first : List ℕ) (k : ℕ) → IsCode first → IsCode (summed password first k)
unfolding summed
summed_code password first zero h = h
summed_code password first (suc k) h =
    let sum = summed_code password first k h in
    let next = iterated_code password first (suc k) h in
    record {
      size = length-added (summed password first k) (iterated password first (suc k)) (sum.size ∙ sym next.size) ∙ sum.size;
      bytes = added_bytes (summed password first k) (iterated password first (suc k)) sum.bytes next.bytes;
    }

-- the only block of which a key is
only : List ℕ → List ℕ → ℕ → List ℕ
only password salt count = summed password (first_code password salt 1) (count - 1)

only_code : (password salt : List ℕ) (count : ℕ) → IsCode (only password salt count)
unfolding only
only_code password salt count = summed_code password (first_code password salt 1) (count - 1) (code password _)

key_is : (password salt : List ℕ) (count n : ℕ) → n ≤ 32 → pbkdf2 password salt count n ≡ take n (only password salt count)
unfolding only
key_is password salt count n small =
    derived password salt (summed password (first_code password salt 1) (count - 1)) count n small refl

pub length-key : (password salt : List ℕ) (count n : ℕ) → n ≤ 32 → length (pbkdf2 password salt count n) ≡ n
length-key password salt count n small =
    let whole = only_code password salt count in
    let enough : n ≤ length (only password salt count) = omega (arith, whole.size) in
    ap length (key_is password salt count n small) ∙ length-take-le n (only password salt count) enough

pub key_bytes : (password salt : List ℕ) (count n : ℕ) → n ≤ 32 → AreBytes (pbkdf2 password salt count n)
key_bytes password salt count n small =
    subst AreBytes (sym (key_is password salt count n small))
    (take_bytes n (only password salt count) (only_code password salt count).bytes)
