-- Sums of products of bytes with powers of x, as lists: the mixing of a column is undone.
use Rattle.std.proofs.Common.{◌≡◌, ℕ, zero, suc, ◌<◌, List, [], ◌∷◌, ◌++◌, map, Bool, true, false, ◌&&◌, nat_lt, bit_xor, refl, sym, ap, ◌∙◌, arith, inl, inr, subst, ◌⊎◌, if◌then◌else◌}
use Rattle.std.specs.Bool.{◌==◌}
use Rattle.std.specs.Int.Bits.{xor_assoc, xor_self, xor_zero_l, xor_zero_r}
use Rattle.std.proofs.lemmas.Bool.{and_parts, eqb-true, ltb-true}
use Rattle.std.proofs.lemmas.Nat.{xor_comm, xor_of_8}
use Rattle.aes.specs.Field.{times, times_bits, times_x}
use Rattle.aes.specs.Block.{inverse_mixed, mixed}
use Rattle.aes.proofs.Tables.{all_below, each_below}

-- the product with x, whose definition only a few proofs open
pub x_of : ℕ → ℕ
x_of b = times_x b

linear_checked : all_below 256 (λ a. all_below 256 (λ b. x_of (bit_xor a b) == bit_xor (x_of a) (x_of b))) ≡ true
unfolding x_of
linear_checked = refl

pub x_sum : (a b : ℕ) → a < 256 → b < 256 → x_of (bit_xor a b) ≡ bit_xor (x_of a) (x_of b)
x_sum a b ha hb =
    eqb-true (x_of (bit_xor a b)) (bit_xor (x_of a) (x_of b))
    (each_below 256 (λ k. x_of (bit_xor a k) == bit_xor (x_of a) (x_of k)) b
    (each_below 256 (λ j. all_below 256 (λ k. x_of (bit_xor j k) == bit_xor (x_of j) (x_of k))) a linear_checked ha) hb)

small_checked : all_below 256 (λ b. nat_lt (x_of b) 256) ≡ true
unfolding x_of
small_checked = refl

pub x_small : (b : ℕ) → b < 256 → x_of b < 256
x_small b h = ltb-true (x_of b) 256 (each_below 256 (λ k. nat_lt (x_of k) 256) b small_checked h)

nothing_x : x_of 0 ≡ 0
unfolding x_of
nothing_x = refl

-- the p-th product of a byte with x
power_x : ℕ → ℕ → ℕ
power_x zero a = a
power_x (suc p) a = x_of (power_x p a)

-- one of four bytes
abbrev one_of : ℕ → ℕ → ℕ → ℕ → ℕ → ℕ
one_of a b c d zero = a
one_of a b c d (suc zero) = b
one_of a b c d (suc (suc zero)) = c
one_of a b c d (suc (suc (suc zero))) = d
one_of a b c d (suc (suc (suc (suc _)))) = 0

-- the sum of the products of f's values: each index is a pair of a byte and a power
abbrev total : (ℕ → ℕ → ℕ) → List (ℕ × ℕ) → ℕ
total f [] = 0
total f (k ∷ ks) = bit_xor (f k.0 k.1) (total f ks)

-- the product of byte v and the p-th power of x
abbrev term : ℕ → ℕ → ℕ → ℕ → ℕ → ℕ → ℕ
term a b c d v p = power_x p (one_of a b c d v)

-- each term times x
abbrev raised : List (ℕ × ℕ) → List (ℕ × ℕ)
raised ks = map (λ k. (k.0, suc k.1)) ks

record Bytes (a b c d : ℕ) : Type 0 where
  at0 : a < 256
  at1 : b < 256
  at2 : c < 256
  at3 : d < 256

one_small : (a b c d v : ℕ) → Bytes a b c d → one_of a b c d v < 256
one_small a b c d zero h = h.at0
one_small a b c d (suc zero) h = h.at1
one_small a b c d (suc (suc zero)) h = h.at2
one_small a b c d (suc (suc (suc zero))) h = h.at3
one_small a b c d (suc (suc (suc (suc _)))) h = omega arith

power_small : (p a : ℕ) → a < 256 → power_x p a < 256
unfolding power_x
power_small zero a h = h
power_small (suc p) a h = x_small (power_x p a) (power_small p a h)

term_small : (a b c d v p : ℕ) → Bytes a b c d → term a b c d v p < 256
term_small a b c d v p h = power_small p (one_of a b c d v) (one_small a b c d v h)

total_small : (a b c d : ℕ) (ks : List (ℕ × ℕ)) → Bytes a b c d → total (term a b c d) ks < 256
total_small a b c d [] h = omega arith
total_small a b c d (k ∷ ks) h =
    xor_of_8 (term a b c d k.0 k.1) (total (term a b c d) ks) (term_small a b c d k.0 k.1 h) (total_small a b c d ks h)

total_append : (f : ℕ → ℕ → ℕ) (ks js : List (ℕ × ℕ)) → total f (ks ++ js) ≡ bit_xor (total f ks) (total f js)
total_append f [] js = sym (xor_zero_l (total f js))
total_append f (k ∷ ks) js =
    ap (bit_xor (f k.0 k.1)) (total_append f ks js) ∙ sym (xor_assoc (f k.0 k.1) (total f ks) (total f js))

total_raised : (a b c d : ℕ) (ks : List (ℕ × ℕ)) → Bytes a b c d
    → x_of (total (term a b c d) ks) ≡ total (term a b c d) (raised ks)
unfolding power_x
total_raised a b c d [] h = nothing_x
total_raised a b c d (k ∷ ks) h =
    x_sum (term a b c d k.0 k.1) (total (term a b c d) ks) (term_small a b c d k.0 k.1 h) (total_small a b c d ks h)
    ∙ ap (bit_xor (x_of (term a b c d k.0 k.1))) (total_raised a b c d ks h)

-- a term put to a sum, or taken out where it stands in it
abbrev toggled : (ℕ × ℕ) → List (ℕ × ℕ) → List (ℕ × ℕ)
toggled k [] = k ∷ []
toggled k (j ∷ js) = if k.0 == j.0 && k.1 == j.1 then js else j ∷ toggled k js

abbrev normal : List (ℕ × ℕ) → List (ℕ × ℕ)
normal [] = []
normal (k ∷ ks) = toggled k (normal ks)

swapped : (x y z : ℕ) → bit_xor x (bit_xor y z) ≡ bit_xor y (bit_xor x z)
swapped x y z = sym (xor_assoc x y z) ∙ ap (λ t. bit_xor t z) (xor_comm x y) ∙ xor_assoc y x z

cancelled : (x z : ℕ) → z ≡ bit_xor x (bit_xor x z)
cancelled x z = sym (sym (xor_assoc x x z) ∙ ap (λ t. bit_xor t z) (xor_self x) ∙ xor_zero_l z)

same_pair : (f : ℕ → ℕ → ℕ) (k j : ℕ × ℕ) → (k.0 == j.0 && k.1 == j.1) ≡ true → f j.0 j.1 ≡ f k.0 k.1
same_pair f k j h =
    let both = and_parts (k.0 == j.0) (k.1 == j.1) h in
    let first : k.0 ≡ j.0 = eqb-true k.0 j.0 both.0 in
    let second : k.1 ≡ j.1 = eqb-true k.1 j.1 both.1 in
    sym (ap (λ v. f v k.1) first ∙ ap (f j.0) second)

bool_cases : (b : Bool) → (b ≡ true) ⊎ (b ≡ false)
bool_cases true = inl refl
bool_cases false = inr refl

total_toggled : (f : ℕ → ℕ → ℕ) (k : ℕ × ℕ) (ks : List (ℕ × ℕ)) → total f (toggled k ks) ≡ bit_xor (f k.0 k.1) (total f ks)
total_toggled f k [] = refl
total_toggled f k (j ∷ js) =
    elim (bool_cases (k.0 == j.0 && k.1 == j.1)) [
      | inl same ↦
          rw same
          (cancelled (f k.0 k.1) (total f js) ∙ ap (λ t. bit_xor (f k.0 k.1) (bit_xor t (total f js))) (sym (same_pair f k j same)))
      | inr other ↦
          rw other
          (ap (bit_xor (f j.0 j.1)) (total_toggled f k js) ∙ swapped (f j.0 j.1) (f k.0 k.1) (total f js))
    ]

total_normal : (f : ℕ → ℕ → ℕ) (ks : List (ℕ × ℕ)) → total f (normal ks) ≡ total f ks
total_normal f [] = refl
total_normal f (k ∷ ks) = total_toggled f k (normal ks) ∙ ap (bit_xor (f k.0 k.1)) (total_normal f ks)

-- products with the matrices' entries
by_2 : (a : ℕ) → times a 0x02 ≡ x_of a
unfolding times_bits x_of
by_2 a = xor_zero_r (x_of a)

by_3 : (a : ℕ) → times a 0x03 ≡ bit_xor a (x_of a)
unfolding times_bits x_of
by_3 a = ap (bit_xor a) (xor_zero_r (x_of a))

by_9 : (a : ℕ) → times a 0x09 ≡ bit_xor a (x_of (x_of (x_of a)))
unfolding times_bits x_of
by_9 a = ap (bit_xor a) (xor_zero_r (x_of (x_of (x_of a))))

by_11 : (a : ℕ) → times a 0x0b ≡ bit_xor a (bit_xor (x_of a) (x_of (x_of (x_of a))))
unfolding times_bits x_of
by_11 a = ap (λ t. bit_xor a (bit_xor (x_of a) t)) (xor_zero_r (x_of (x_of (x_of a))))

by_13 : (a : ℕ) → times a 0x0d ≡ bit_xor a (bit_xor (x_of (x_of a)) (x_of (x_of (x_of a))))
unfolding times_bits x_of
by_13 a = ap (λ t. bit_xor a (bit_xor (x_of (x_of a)) t)) (xor_zero_r (x_of (x_of (x_of a))))

by_14 : (a : ℕ) → times a 0x0e ≡ bit_xor (x_of a) (bit_xor (x_of (x_of a)) (x_of (x_of (x_of a))))
unfolding times_bits x_of
by_14 a = ap (λ t. bit_xor (x_of a) (bit_xor (x_of (x_of a)) t)) (xor_zero_r (x_of (x_of (x_of a))))

-- the same of lists of terms
abbrev list_2 : List (ℕ × ℕ) → List (ℕ × ℕ)
list_2 ks = raised ks

abbrev list_3 : List (ℕ × ℕ) → List (ℕ × ℕ)
list_3 ks = ks ++ raised ks

abbrev list_9 : List (ℕ × ℕ) → List (ℕ × ℕ)
list_9 ks = ks ++ raised (raised (raised ks))

abbrev list_11 : List (ℕ × ℕ) → List (ℕ × ℕ)
list_11 ks = ks ++ (raised ks ++ raised (raised (raised ks)))

abbrev list_13 : List (ℕ × ℕ) → List (ℕ × ℕ)
list_13 ks = ks ++ (raised (raised ks) ++ raised (raised (raised ks)))

abbrev list_14 : List (ℕ × ℕ) → List (ℕ × ℕ)
list_14 ks = raised ks ++ (raised (raised ks) ++ raised (raised (raised ks)))

-- terms stand for a number
record Stands (f : ℕ → ℕ → ℕ) (n : ℕ) (ks : List (ℕ × ℕ)) : Type 0 where
  is : n ≡ total f ks

sum_stands : (f : ℕ → ℕ → ℕ) (m n : ℕ) (ks js : List (ℕ × ℕ)) → Stands f m ks → Stands f n js → Stands f (bit_xor m n) (ks ++ js)
sum_stands f m n ks js h g = record {
  is = ap (λ t. bit_xor t n) h.is ∙ ap (bit_xor (total f ks)) g.is ∙ sym (total_append f ks js);
}

x_stands : (a b c d n : ℕ) (ks : List (ℕ × ℕ)) → Bytes a b c d → Stands (term a b c d) n ks → Stands (term a b c d) (x_of n) (raised ks)
x_stands a b c d n ks s h = record { is = ap x_of h.is ∙ total_raised a b c d ks s }

like : (f : ℕ → ℕ → ℕ) (m n : ℕ) (ks : List (ℕ × ℕ)) → m ≡ n → Stands f n ks → Stands f m ks
like f m n ks e h = record { is = e ∙ h.is }

abbrev mixed_list : List (ℕ × ℕ) → List (ℕ × ℕ) → List (ℕ × ℕ) → List (ℕ × ℕ) → List (ℕ × ℕ)
mixed_list a b c d = ((list_2 a ++ list_3 b) ++ c) ++ d

abbrev inverse_list : List (ℕ × ℕ) → List (ℕ × ℕ) → List (ℕ × ℕ) → List (ℕ × ℕ) → List (ℕ × ℕ)
inverse_list a b c d = ((list_14 a ++ list_11 b) ++ list_13 c) ++ list_9 d

mixed_stands : (a b c d : ℕ) → Bytes a b c d → (k l m n : ℕ) (ks ls ms ns : List (ℕ × ℕ))
    → Stands (term a b c d) k ks → Stands (term a b c d) l ls → Stands (term a b c d) m ms → Stands (term a b c d) n ns
    → Stands (term a b c d) (mixed k l m n) (mixed_list ks ls ms ns)
unfolding mixed
mixed_stands a b c d s k l m n ks ls ms ns hk hl hm hn =
    let f = term a b c d in
    let two = like f (times k 0x02) (x_of k) (raised ks) (by_2 k) (x_stands a b c d k ks s hk) in
    let three = like f (times l 0x03) (bit_xor l (x_of l)) (list_3 ls) (by_3 l)
    (sum_stands f l (x_of l) ls (raised ls) hl (x_stands a b c d l ls s hl)) in
    sum_stands f _ n _ ns (sum_stands f _ m _ ms (sum_stands f _ _ _ _ two three) hm) hn

inverse_stands : (a b c d : ℕ) → Bytes a b c d → (k l m n : ℕ) (ks ls ms ns : List (ℕ × ℕ))
    → Stands (term a b c d) k ks → Stands (term a b c d) l ls → Stands (term a b c d) m ms → Stands (term a b c d) n ns
    → Stands (term a b c d) (inverse_mixed k l m n) (inverse_list ks ls ms ns)
unfolding inverse_mixed
inverse_stands a b c d s k l m n ks ls ms ns hk hl hm hn =
    let f = term a b c d in
    let up : (v : ℕ) (vs : List (ℕ × ℕ)) → Stands f v vs → Stands f (x_of v) (raised vs) = λ v vs h. x_stands a b c d v vs s h in
    let k1 = up k ks hk in
    let k2 = up _ _ k1 in
    let l1 = up l ls hl in
    let l3 = up _ _ (up _ _ l1) in
    let m2 = up _ _ (up m ms hm) in
    let n3 = up _ _ (up _ _ (up n ns hn)) in
    let fourteen = like f (times k 0x0e) _ (list_14 ks) (by_14 k) (sum_stands f _ _ _ _ k1 (sum_stands f _ _ _ _ k2 (up _ _ k2))) in
    let eleven = like f (times l 0x0b) _ (list_11 ls) (by_11 l) (sum_stands f _ _ _ _ hl (sum_stands f _ _ _ _ l1 l3)) in
    let thirteen = like f (times m 0x0d) _ (list_13 ms) (by_13 m) (sum_stands f _ _ _ _ hm (sum_stands f _ _ _ _ m2 (up _ _ m2))) in
    let nine = like f (times n 0x09) _ (list_9 ns) (by_9 n) (sum_stands f _ _ _ _ hn n3) in
    sum_stands f _ _ _ _ (sum_stands f _ _ _ _ (sum_stands f _ _ _ _ fourteen eleven) thirteen) nine

abbrev single : ℕ → List (ℕ × ℕ)
single v = (v, 0) ∷ []

pub unmixed : (a b c d : ℕ) → a < 256 → b < 256 → c < 256 → d < 256
    → inverse_mixed (mixed a b c d) (mixed b c d a) (mixed c d a b) (mixed d a b c) ≡ a
unfolding power_x
unmixed a b c d ha hb hc hd =
    let s : Bytes a b c d = record { at0 = ha; at1 = hb; at2 = hc; at3 = hd } in
    let f = term a b c d in
    let sa : Stands f a (single 0) = record { is = sym (xor_zero_r a) } in
    let sb : Stands f b (single 1) = record { is = sym (xor_zero_r b) } in
    let sc : Stands f c (single 2) = record { is = sym (xor_zero_r c) } in
    let sd : Stands f d (single 3) = record { is = sym (xor_zero_r d) } in
    let whole = inverse_stands a b c d s _ _ _ _ _ _ _ _
    (mixed_stands a b c d s a b c d _ _ _ _ sa sb sc sd)
    (mixed_stands a b c d s b c d a _ _ _ _ sb sc sd sa)
    (mixed_stands a b c d s c d a b _ _ _ _ sc sd sa sb)
    (mixed_stands a b c d s d a b c _ _ _ _ sd sa sb sc) in
    let all = inverse_list
    (mixed_list (single 0) (single 1) (single 2) (single 3)) (mixed_list (single 1) (single 2) (single 3) (single 0))
    (mixed_list (single 2) (single 3) (single 0) (single 1)) (mixed_list (single 3) (single 0) (single 1) (single 2)) in
    whole.is ∙ sym (total_normal f all) ∙ xor_zero_r a

pub mixed_small : (a b c d : ℕ) → a < 256 → b < 256 → c < 256 → d < 256 → mixed a b c d < 256
unfolding mixed
mixed_small a b c d ha hb hc hd =
    let P : ℕ → Type 0 = λ n. n < 256 in
    let two = subst P (sym (by_2 a)) (x_small a ha) in
    let three = subst P (sym (by_3 b)) (xor_of_8 b (x_of b) hb (x_small b hb)) in
    xor_of_8 _ d (xor_of_8 _ c (xor_of_8 (times a 0x02) (times b 0x03) two three) hc) hd
