-- Parts that are joined, and found again.
use Rattle.std.proofs.Common.{◌≡◌, ℕ, zero, suc, ◌+◌, ◌-◌, ◌*◌, ◌<◌, ◌≤◌, List, ◌++◌, length, take, drop, arith, ap, sym, refl, ◌∙◌, add-one, length-append, take-add, inl, inr}
use Rattle.std.specs.Prelude.{slice_range}
use Rattle.std.proofs.lemmas.List.{drop-append-le, drop-drop, take-append-le, length-drop, length-take, take_all}
use Rattle.std.proofs.lemmas.Bool.{cases_lt}
use Rattle.std.proofs.lemmas.Nat.{mul-le}
use Rattle.std.proofs.Math.Seq.{drop-append_seam, take-append_seam, take-length}
use Rattle.slh_core.specs.Bytes.{joined, part}

pub joined_more : (f : ℕ → List ℕ) (k : ℕ) → joined f (k + 1) ≡ joined f k ++ f k
unfolding joined
joined_more f k = rw add-one refl

-- parts of n bytes, joined
pub length-joined : (f : ℕ → List ℕ) (n k : ℕ) → ((c : ℕ) → length (f c) ≡ n) → length (joined f k) ≡ k * n
unfolding joined
length-joined f n zero h = omega arith
length-joined f n (suc k) h =
    rw (length-append (joined f k) (f k), length-joined f n k h, h k) (omega arith)

-- parts that agree make the same whole
pub joined_same : (f g : ℕ → List ℕ) (k : ℕ) → ((c : ℕ) → c < k → f c ≡ g c) → joined f k ≡ joined g k
unfolding joined
joined_same f g zero h = refl
joined_same f g (suc k) h =
    rw (joined_same f g k (λ c below. h c (omega arith)), h k (omega arith)) refl

-- a range within the front, and the range that is the back
pub range_left : (xs ys : List ℕ) (a b : ℕ) → a ≤ b → b ≤ length xs → slice_range (xs ++ ys) a b ≡ slice_range xs a b
range_left xs ys a b h k =
    let inside : b - a ≤ length (drop a xs) = rw (length-drop a xs) (omega arith) in
    rw (drop-append-le a xs ys (omega arith), take-append-le (b - a) (drop a xs) ys inside) refl

pub range_right : (xs ys : List ℕ) (a b : ℕ) → length xs ≡ a → a + length ys ≡ b → slice_range (xs ++ ys) a b ≡ ys
range_right xs ys a b h k =
    let size : b - a ≡ length ys = omega arith in
    rw (size, ← h, drop-append_seam xs ys, take-length ys) refl

-- each part is found again
pub part-joined : (f : ℕ → List ℕ) (n k c : ℕ) → ((c : ℕ) → length (f c) ≡ n) → c < k → part n (joined f k) c ≡ f c
unfolding joined
part-joined f n zero c h below = absurd (omega arith)
part-joined f n (suc k) c h below =
    let size = length-joined f n k h in
    elim (cases_lt c k) [
      | inl inside ↦ (let fits : (c + 1) * n ≤ k * n = mul-le (c + 1) n k n (omega arith) (omega arith) in
          range_left (joined f k) (f k) (c * n) ((c + 1) * n) (omega arith) (omega arith) ∙ part-joined f n k c h inside)
      | inr past ↦ (let last : c ≡ k = omega arith in
          rw last (range_right (joined f k) (f k) (k * n) ((k + 1) * n) size (rw (h k) (omega arith))))
    ]

-- the front of a known length, and what follows it
pub take_front : (n : ℕ) (xs ys : List ℕ) → length xs ≡ n → take n (xs ++ ys) ≡ xs
take_front n xs ys size = rw (← size) (take-append_seam xs ys)

pub drop_front : (n : ℕ) (xs ys : List ℕ) → length xs ≡ n → drop n (xs ++ ys) ≡ ys
drop_front n xs ys size = rw (← size) (drop-append_seam xs ys)

-- lists that agree from a place on agree from each later one
pub drop_later : (xs ys : List ℕ) (a b : ℕ) → a ≤ b → drop a xs ≡ drop a ys → drop b xs ≡ drop b ys
drop_later xs ys a b after same =
    let whole : a + (b - a) ≡ b = omega arith in
    ap (λ k. drop k xs) (sym whole) ∙ sym (drop-drop (b - a) a xs) ∙ ap (drop (b - a)) same ∙ drop-drop (b - a) a ys ∙ ap (λ k. drop k ys) whole

-- and so do their parts
pub part_later : (n : ℕ) (xs ys : List ℕ) (c : ℕ) → drop (c * n) xs ≡ drop (c * n) ys → part n xs c ≡ part n ys c
part_later n xs ys c same = ap (take ((c + 1) * n - c * n)) same

-- the front, one part longer
pub take_part : (n : ℕ) (xs : List ℕ) (c : ℕ) → take ((c + 1) * n) xs ≡ take (c * n) xs ++ part n xs c
take_part n xs c =
    let whole : (c + 1) * n ≡ c * n + ((c + 1) * n - c * n) = omega arith in
    ap (λ k. take k xs) whole ∙ take-add (c * n) ((c + 1) * n - c * n) xs

-- the length of a part; and parts that are joined, where only their own lengths are known
pub length-part : (n c : ℕ) (xs : List ℕ) → (c + 1) * n ≤ length xs → length (part n xs c) ≡ n
length-part n c xs fits = omega (arith, length-take ((c + 1) * n - c * n) (drop (c * n) xs), length-drop (c * n) xs)

pub length-joined_below : (f : ℕ → List ℕ) (n k : ℕ) → ((i : ℕ) → i < k → length (f i) ≡ n) → length (joined f k) ≡ k * n
unfolding joined
length-joined_below f n zero sizes = omega arith
length-joined_below f n (suc k) sizes =
    rw (length-append (joined f k) (f k), length-joined_below f n k (λ i low. sizes i (omega (arith, low))), sizes k (omega arith)) (omega arith)

pub part-joined_below : (f : ℕ → List ℕ) (n k c : ℕ) → ((i : ℕ) → i < k → length (f i) ≡ n) → c < k → part n (joined f k) c ≡ f c
unfolding joined
part-joined_below f n zero c sizes below = absurd (omega arith)
part-joined_below f n (suc k) c sizes below =
    let inner : (i : ℕ) → i < k → length (f i) ≡ n = λ i low. sizes i (omega (arith, low)) in
    let size = length-joined_below f n k inner in
    elim (cases_lt c k) [
      | inl inside ↦ (let fits : (c + 1) * n ≤ k * n = mul-le (c + 1) n k n (omega arith) (omega arith) in
          range_left (joined f k) (f k) (c * n) ((c + 1) * n) (omega arith) (omega arith) ∙ part-joined_below f n k c inner inside)
      | inr past ↦ (let last : c ≡ k = omega arith in
          rw last (range_right (joined f k) (f k) (k * n) ((k + 1) * n) size (rw (sizes k (omega arith)) (omega arith))))
    ]

-- all parts of a list, joined
joined_front : (n k : ℕ) (xs : List ℕ) → joined (part n xs) k ≡ take (k * n) xs
unfolding joined
joined_front n zero xs = let none : 0 * n ≡ 0 = omega arith in rw none refl
joined_front n (suc k) xs =
    let whole : suc k * n ≡ (k + 1) * n = omega arith in
    rw (whole, joined_front n k xs) (sym (take_part n xs k))

pub joined_parts : (n k : ℕ) (xs : List ℕ) → length xs ≡ k * n → joined (part n xs) k ≡ xs
joined_parts n k xs size = joined_front n k xs ∙ take_all (k * n) xs (omega (arith, size))

-- when all parts are put in they are the whole
pub whole_joined : (f : ℕ → List ℕ) (n count at : ℕ) (out : List ℕ) → at ≡ count → length out ≡ count * n → take (at * n) out ≡ joined f at → out ≡ joined f count
whole_joined f n count at out last size front =
    sym (take_all (count * n) out (omega (arith, size))) ∙ rw last at front
