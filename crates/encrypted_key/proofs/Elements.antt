-- An element is cut off as it was written, and a number read.
use Rattle.std.proofs.Common.{◌≡◌, ℕ, zero, suc, ◌+◌, ◌*◌, ◌/◌, ◌%◌, ◌<◌, ◌≤◌, List, [], ◌∷◌, ◌++◌, length, length-append, drop, true, false, ◌&&◌, nat_lt, Some, refl, sym, ap, ◌∙◌, arith, inl, inr}
use Rattle.std.specs.Prelude.{nat_le}
use Rattle.std.specs.Bool.{◌==◌}
use Rattle.std.proofs.lemmas.Bool.{cases_lt, eq-eqb, le-ltb, lt-ltb}
use Rattle.std.proofs.lemmas.Bool.Decides.{eqb_tells, leb_tells}
use Rattle.std.proofs.lemmas.List.{append-nil}
use Rattle.std.proofs.Math.Seq.{drop-append_seam, take-append_seam}
use Rattle.encrypted_key.specs.Der.{alone, cut, element, if_alone, length_bytes, number_of, parted, sized}
use Rattle.encrypted_key.specs.Writing.{number_bytes}

pub differs : (a b : ℕ) → (a ≡ b → ⊥) → (a == b) ≡ false
differs a b apart = elim (eqb_tells a b) [ inl same ↦ absurd (apart same.1) | inr other ↦ other.0 ]

is_le : (a b : ℕ) → a ≤ b → nat_le a b ≡ true
is_le a b h = elim (leb_tells a b) [ inl low ↦ low.0 | inr high ↦ absurd (omega (arith, high.1)) ]

parted_front : (content rest : List ℕ) → parted (length content) (content ++ rest) ≡ Some (content, rest)
parted_front content rest =
    let within : nat_le (length content) (length (content ++ rest)) ≡ true =
    is_le (length content) (length (content ++ rest)) (omega (arith, length-append content rest)) in
    rw within
    (ap (λ (t : List ℕ). Some (t, drop (length content) (content ++ rest))) (take-append_seam content rest)
    ∙ ap (λ (t : List ℕ). Some (content, t)) (drop-append_seam content rest))

sized_short : (n : ℕ) (bytes : List ℕ) → n < 128 → sized (n ∷ bytes) ≡ parted n bytes
unfolding sized
sized_short n bytes h =
    let some : (length (n ∷ bytes) == 0) ≡ false = differs (length (n ∷ bytes)) 0 (λ e. omega (arith, e)) in
    let low : nat_lt n 128 ≡ true = lt-ltb n 128 h in
    rw (some, low) refl

sized_middle : (n : ℕ) (bytes : List ℕ) → 128 ≤ n → sized (0x81 ∷ n ∷ bytes) ≡ parted n bytes
unfolding sized
sized_middle n bytes h =
    let some : (length (0x81 ∷ n ∷ bytes) == 0) ≡ false = differs (length (0x81 ∷ n ∷ bytes)) 0 (λ e. omega (arith, e)) in
    let two : nat_lt (length (0x81 ∷ n ∷ bytes)) 2 ≡ false = le-ltb (length (0x81 ∷ n ∷ bytes)) 2 (omega arith) in
    let high : nat_lt n 128 ≡ false = le-ltb n 128 h in
    rw (some, two, high) refl

sized_long : (a b : ℕ) (bytes : List ℕ) → (a ≡ 0 → ⊥) → sized (0x82 ∷ a ∷ b ∷ bytes) ≡ parted (256 * a + b) bytes
unfolding sized
sized_long a b bytes h =
    let some : (length (0x82 ∷ a ∷ b ∷ bytes) == 0) ≡ false = differs (length (0x82 ∷ a ∷ b ∷ bytes)) 0 (λ e. omega (arith, e)) in
    let three : nat_lt (length (0x82 ∷ a ∷ b ∷ bytes)) 3 ≡ false = le-ltb (length (0x82 ∷ a ∷ b ∷ bytes)) 3 (omega arith) in
    let high : (a == 0) ≡ false = differs a 0 h in
    rw (some, three, high) refl

pub short_bytes : (n : ℕ) → n < 128 → length_bytes n ≡ n ∷ []
unfolding length_bytes
short_bytes n h = let low : nat_lt n 128 ≡ true = lt-ltb n 128 h in rw low refl

pub middle_bytes : (n : ℕ) → 128 ≤ n → n < 256 → length_bytes n ≡ 0x81 ∷ n ∷ []
unfolding length_bytes
middle_bytes n h g =
    let high : nat_lt n 128 ≡ false = le-ltb n 128 h in
    let low : nat_lt n 256 ≡ true = lt-ltb n 256 g in
    rw (high, low) refl

pub long_bytes : (n : ℕ) → 256 ≤ n → length_bytes n ≡ 0x82 ∷ n / 256 ∷ n % 256 ∷ []
unfolding length_bytes
long_bytes n h =
    let high : nat_lt n 128 ≡ false = le-ltb n 128 (omega arith) in
    let higher : nat_lt n 256 ≡ false = le-ltb n 256 h in
    rw (high, higher) refl

sized_element : (content rest : List ℕ) → sized ((length_bytes (length content) ++ content) ++ rest) ≡ Some (content, rest)
sized_element content rest =
    let n = length content in
    elim (cases_lt n 128) [
      | inl low ↦
          ap (λ (l : List ℕ). sized ((l ++ content) ++ rest)) (short_bytes n low)
          ∙ sized_short n (content ++ rest) low ∙ parted_front content rest
      | inr high ↦
          elim (cases_lt n 256) [
            | inl less ↦
                ap (λ (l : List ℕ). sized ((l ++ content) ++ rest)) (middle_bytes n high less)
                ∙ sized_middle n (content ++ rest) high ∙ parted_front content rest
            | inr more ↦
                let whole : 256 * (n / 256) + n % 256 ≡ n = omega arith in
                ap (λ (l : List ℕ). sized ((l ++ content) ++ rest)) (long_bytes n more)
                ∙ sized_long (n / 256) (n % 256) (content ++ rest) (λ e. omega (arith, e))
                ∙ ap (λ k. parted k (content ++ rest)) whole ∙ parted_front content rest
          ]
    ]

cut_tag : (tag : ℕ) (bytes : List ℕ) → cut tag (tag ∷ bytes) ≡ sized bytes
unfolding cut
cut_tag tag bytes =
    let some : (length (tag ∷ bytes) == 0) ≡ false = differs (length (tag ∷ bytes)) 0 (λ e. omega (arith, e)) in
    let same : (tag == tag) ≡ true = eq-eqb tag tag refl in
    rw (some, same) refl

pub cut_element : (tag : ℕ) (content rest : List ℕ) → cut tag (element tag content ++ rest) ≡ Some (content, rest)
unfolding element
cut_element tag content rest =
    cut_tag tag ((length_bytes (length content) ++ content) ++ rest) ∙ sized_element content rest

pub alone_element : (tag : ℕ) (content : List ℕ) → alone tag (element tag content) ≡ Some content
alone_element tag content =
    ap (λ (t : List ℕ). alone tag t) (sym (append-nil (element tag content))) ∙ ap if_alone (cut_element tag content [])

not_le : (a b : ℕ) → b < a → nat_le a b ≡ false
not_le a b h = elim (leb_tells a b) [ inl low ↦ absurd (omega (arith, low.1)) | inr high ↦ high.0 ]

-- no byte of zeros stands before a byte below 128
shortest : (a b : ℕ) → (a ≡ 0 → 128 ≤ b) → (a == 0 && nat_lt b 128) ≡ false
shortest zero b h = le-ltb b 128 (h refl)
shortest (suc a) b h = let some : (suc a == 0) ≡ false = differs (suc a) 0 (λ e. omega (arith, e)) in rw some refl

number_one : (a : ℕ) → a < 128 → number_of (a ∷ []) ≡ Some a
unfolding number_of
number_one a h = let low : nat_le 128 a ≡ false = not_le 128 a h in rw low refl

number_two : (a b : ℕ) → a < 128 → (a ≡ 0 → 128 ≤ b) → number_of (a ∷ b ∷ []) ≡ Some (256 * a + b)
unfolding number_of
number_two a b h g = let low : nat_le 128 a ≡ false = not_le 128 a h in rw (low, shortest a b g) refl

number_three : (a b c : ℕ) → a < 128 → (a ≡ 0 → 128 ≤ b) → number_of (a ∷ b ∷ c ∷ []) ≡ Some (256 * (256 * a + b) + c)
unfolding number_of
number_three a b c h g = let low : nat_le 128 a ≡ false = not_le 128 a h in rw (low, shortest a b g) refl

number_four : (a b c d : ℕ) → a < 128 → (a ≡ 0 → 128 ≤ b)
    → number_of (a ∷ b ∷ c ∷ d ∷ []) ≡ Some (256 * (256 * (256 * a + b) + c) + d)
unfolding number_of
number_four a b c d h g = let low : nat_le 128 a ≡ false = not_le 128 a h in rw (low, shortest a b g) refl

pub one_byte : (n : ℕ) → n < 0x80 → number_bytes n ≡ n % 256 ∷ []
unfolding number_bytes
one_byte n h = let low : nat_lt n 0x80 ≡ true = lt-ltb n 0x80 h in rw low refl

pub two_bytes : (n : ℕ) → 0x80 ≤ n → n < 0x8000 → number_bytes n ≡ n / 256 % 256 ∷ n % 256 ∷ []
unfolding number_bytes
two_bytes n g h =
    let high : nat_lt n 0x80 ≡ false = le-ltb n 0x80 g in
    let low : nat_lt n 0x8000 ≡ true = lt-ltb n 0x8000 h in
    rw (high, low) refl

pub three_bytes : (n : ℕ) → 0x8000 ≤ n → n < 0x800000 → number_bytes n ≡ n / 65536 % 256 ∷ n / 256 % 256 ∷ n % 256 ∷ []
unfolding number_bytes
three_bytes n g h =
    let first : nat_lt n 0x80 ≡ false = le-ltb n 0x80 (omega arith) in
    let high : nat_lt n 0x8000 ≡ false = le-ltb n 0x8000 g in
    let low : nat_lt n 0x800000 ≡ true = lt-ltb n 0x800000 h in
    rw (first, high, low) refl

pub four_bytes_of : (n : ℕ) → 0x800000 ≤ n → number_bytes n ≡ n / 16777216 ∷ n / 65536 % 256 ∷ n / 256 % 256 ∷ n % 256 ∷ []
unfolding number_bytes
four_bytes_of n g =
    let first : nat_lt n 0x80 ≡ false = le-ltb n 0x80 (omega arith) in
    let second : nat_lt n 0x8000 ≡ false = le-ltb n 0x8000 (omega arith) in
    let high : nat_lt n 0x800000 ≡ false = le-ltb n 0x800000 g in
    rw (first, second, high) refl

pub number_back : (n : ℕ) → 1 ≤ n → n ≤ 10000000 → number_of (number_bytes n) ≡ Some n
number_back n some most =
    elim (cases_lt n 0x80) [
      | inl low ↦
          let value : n % 256 ≡ n = omega arith in
          ap number_of (one_byte n low) ∙ number_one (n % 256) (omega arith) ∙ ap Some value
      | inr high ↦
          elim (cases_lt n 0x8000) [
            | inl low ↦
                let value : 256 * (n / 256 % 256) + n % 256 ≡ n = omega arith in
                ap number_of (two_bytes n high low)
                ∙ number_two (n / 256 % 256) (n % 256) (omega arith) (λ e. omega (arith, e)) ∙ ap Some value
            | inr higher ↦
                elim (cases_lt n 0x800000) [
                  | inl low ↦
                      let value : 256 * (256 * (n / 65536 % 256) + n / 256 % 256) + n % 256 ≡ n = omega arith in
                      ap number_of (three_bytes n higher low)
                      ∙ number_three (n / 65536 % 256) (n / 256 % 256) (n % 256) (omega arith) (λ e. omega (arith, e)) ∙ ap Some value
                  | inr highest ↦
                      let value : 256 * (256 * (256 * (n / 16777216) + n / 65536 % 256) + n / 256 % 256) + n % 256 ≡ n = omega arith in
                      ap number_of (four_bytes_of n highest)
                      ∙ number_four (n / 16777216) (n / 65536 % 256) (n / 256 % 256) (n % 256) (omega arith) (λ e. omega (arith, e)) ∙ ap Some value
                ]
          ]
    ]
