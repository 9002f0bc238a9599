-- Byte strings that are put together of pieces: the pieces of equal strings are equal.
use Rattle.std.proofs.Common.{◌≡◌, ◌≢◌, ◌⊎◌, inl, inr, ℕ, zero, suc, ◌+◌, ◌-◌, ◌*◌, ◌<◌, ◌≤◌, List, ◌++◌, length, take, drop, arith, refl, sym, ap, ◌∙◌, bytes_eq, length-append, length-take, length-drop}
use Rattle.std.proofs.lemmas.Bool.{cases_Bool, cases_lt}
use Rattle.std.proofs.lemmas.Bool.Decides.{not_from_Decides}
use Rattle.std.proofs.lemmas.Slice.Eq.{bytes_eq-Decides}
use Rattle.std.proofs.lemmas.List.{take_all}
use Rattle.std.proofs.Math.Seq.{take-add}
use Rattle.slh_core.specs.Bytes.{joined, part}
use Rattle.slh_core.proofs.Joins.{take_front, drop_front}

pub same_or_not : (xs ys : List ℕ) → (xs ≡ ys) ⊎ (xs ≢ ys)
same_or_not xs ys =
    let tells = bytes_eq-Decides xs ys in
    elim (cases_Bool (bytes_eq xs ys)) [
      | inl t ↦ inl (tells.0 t)
      | inr f ↦ inr (not_from_Decides (bytes_eq xs ys) tells f)
    ]

-- something is found below k, or all below k holds
pub found_or_all : (E : Type 0) (P : ℕ → Type 0) (k : ℕ) → ((c : ℕ) → c < k → E ⊎ P c) → E ⊎ ((c : ℕ) → c < k → P c)
found_or_all E P zero each = inr (λ c below. absurd (omega arith))
found_or_all E P (suc k) each =
    elim (found_or_all E P k (λ c below. each c (omega arith))) [
      | inl found ↦ inl found
      | inr all ↦
          elim (each k (omega arith)) [
            | inl found ↦ inl found
            | inr here ↦ inr (λ c below. elim (cases_lt c k) [
              | inl inside ↦ all c inside
              | inr last ↦ (let same : c ≡ k = omega arith in rw same here)
            ])
          ]
    ]

-- two pieces
pub same_pieces : (n : ℕ) (a b c d : List ℕ) → length a ≡ n → length c ≡ n → a ++ b ≡ c ++ d → (a ≡ c) × (b ≡ d)
same_pieces n a b c d la lc e = (
  sym (take_front n a b la) ∙ ap (take n) e ∙ take_front n c d lc,
  sym (drop_front n a b la) ∙ ap (drop n) e ∙ drop_front n c d lc,
)

length-joined_below : (f : ℕ → List ℕ) (n k : ℕ) → ((c : ℕ) → c < k → length (f c) ≡ n) → length (joined f k) ≡ k * n
unfolding joined
length-joined_below f n zero h = omega arith
length-joined_below f n (suc k) h =
    rw (length-append (joined f k) (f k), length-joined_below f n k (λ c below. h c (omega arith)), h k (omega arith)) (omega arith)

-- many pieces of n bytes
pub same_joined : (f g : ℕ → List ℕ) (n k : ℕ) → ((c : ℕ) → c < k → length (f c) ≡ n) → ((c : ℕ) → c < k → length (g c) ≡ n) → joined f k ≡ joined g k → (c : ℕ) → c < k → f c ≡ g c
unfolding joined
same_joined f g n zero lf lg e c below = absurd (omega arith)
same_joined f g n (suc k) lf lg e c below =
    let front_f = length-joined_below f n k (λ i b. lf i (omega arith)) in
    let front_g = length-joined_below g n k (λ i b. lg i (omega arith)) in
    let both = same_pieces (k * n) (joined f k) (f k) (joined g k) (g k) front_f front_g e in
    elim (cases_lt c k) [
      | inl inside ↦ same_joined f g n k (λ i b. lf i (omega arith)) (λ i b. lg i (omega arith)) both.0 c inside
      | inr last ↦ (let same : c ≡ k = omega arith in rw same both.1)
    ]

pub length-part : (n c : ℕ) (xs : List ℕ) → (c + 1) * n ≤ length xs → length (part n xs c) ≡ n
length-part n c xs fits =
    omega (arith, length-take ((c + 1) * n - c * n) (drop (c * n) xs), length-drop (c * n) xs)

-- a string of k pieces of n bytes is its pieces
joined_front : (n k : ℕ) (xs : List ℕ) → joined (part n xs) k ≡ take (k * n) xs
unfolding joined
joined_front n zero xs = let none : 0 * n ≡ 0 = omega arith in rw none refl
joined_front n (suc k) xs =
    let whole : suc k * n ≡ k * n + n = omega arith in
    let width : (k + 1) * n - k * n ≡ n = omega arith in
    rw (whole, take-add (k * n) n xs, joined_front n k xs, width) refl

pub joined_parts : (n k : ℕ) (xs : List ℕ) → length xs ≡ k * n → joined (part n xs) k ≡ xs
joined_parts n k xs len = joined_front n k xs ∙ take_all (k * n) xs (omega arith)
