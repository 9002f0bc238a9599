-- How proofs of growth split, from the height of the whole.
use Rattle.std.proofs.Common.{◌≡◌, ℕ, zero, suc, ◌+◌, ◌-◌, ◌^◌, ◌<◌, ◌≤◌, List, [], ◌∷◌, ◌++◌, length, take, drop, get_or, Bool, false, refl, sym, ap, ◌∙◌, arith, inl, inr, length-take}
use Rattle.std.proofs.Math.Pow.{pow_mono}
use Rattle.std.proofs.lemmas.Bool.{cases_lt}
use Rattle.merkle_tree.proofs.Grown.{grown_front, grown_low, grown_rest}
use Rattle.merkle_tree.proofs.Growing.{len_all, len_front, len_low, len_rest, roots_front, roots_low, roots_rest}
use Rattle.merkle_tree.proofs.Ways.{last_apart}
use Rattle.merkle_tree.specs.Binding.{grown_within, left_pairs, right_pair, tree_pairs}
use Rattle.merkle_tree.specs.Consistency.{proof_len_within, roots_within, with_left, with_right}
use Rattle.merkle_tree.specs.Hashes.{HashFunction}

-- where there are digests to split, there is a height
pub tall : (h m n : ℕ) → 0 < m → m < n → n ≤ 2 ^ h → h ≡ suc (h - 1)
tall zero m n some less few = absurd (omega arith)
tall (suc h) m n some less few = omega arith

pub low_len : (h z m n : ℕ) (whole : Bool) → h ≡ suc z → m < n → n ≤ 2 ^ z → proof_len_within h m n whole ≡ proof_len_within z m n whole
low_len h z m n whole e less low = rw e (len_low z m n whole less low)

pub front_len : (h z m n : ℕ) (whole : Bool) → h ≡ suc z → m < n → 2 ^ z < n → m ≤ 2 ^ z → proof_len_within h m n whole ≡ proof_len_within z m (2 ^ z) whole + 1
front_len h z m n whole e less high inside = rw e (len_front z m n whole less high inside)

pub rest_len : (h z m n : ℕ) (whole : Bool) → h ≡ suc z → m < n → 2 ^ z < m → proof_len_within h m n whole ≡ proof_len_within z (m - 2 ^ z) (n - 2 ^ z) false + 1
rest_len h z m n whole e less past = rw e (len_rest z m n whole less past)

pub low_roots : (H : HashFunction) (h z m n : ℕ) (whole : Bool) (old : List ℕ) (proof : List (List ℕ)) → h ≡ suc z → m < n → n ≤ 2 ^ z
    → roots_within H h m n whole old proof ≡ roots_within H z m n whole old proof
low_roots H h z m n whole old proof e less low = rw e (roots_low H z m n whole old proof less low)

pub front_roots : (H : HashFunction) (h z m n : ℕ) (whole : Bool) (old : List ℕ) (proof : List (List ℕ)) (k : ℕ) → h ≡ suc z → m < n → 2 ^ z < n → m ≤ 2 ^ z → length proof ≡ k + 1
    → roots_within H h m n whole old proof ≡ with_right H (get_or proof k []) (roots_within H z m (2 ^ z) whole old (take k proof))
front_roots H h z m n whole old proof k e less high inside size = rw e (ap (roots_within H (suc z) m n whole old) (last_apart proof k size) ∙ roots_front H z m n whole old (take k proof) (get_or proof k []) less high inside)

pub rest_roots : (H : HashFunction) (h z m n : ℕ) (whole : Bool) (old : List ℕ) (proof : List (List ℕ)) (k : ℕ) → h ≡ suc z → m < n → 2 ^ z < m → length proof ≡ k + 1
    → roots_within H h m n whole old proof ≡ with_left H (get_or proof k []) (roots_within H z (m - 2 ^ z) (n - 2 ^ z) false old (take k proof))
rest_roots H h z m n whole old proof k e less past size = rw e (ap (roots_within H (suc z) m n whole old) (last_apart proof k size) ∙ roots_rest H z m n whole old (take k proof) (get_or proof k []) less past)

pub low_grown : (H : HashFunction) (h z : ℕ) (p q : List (List ℕ)) (whole : Bool) (old : List ℕ) (proof : List (List ℕ)) → h ≡ suc z → length p < length q → length q ≤ 2 ^ z
    → grown_within H h p q whole old proof ≡ grown_within H z p q whole old proof
low_grown H h z p q whole old proof e less low = rw e (grown_low H z p q whole old proof less low)

pub front_grown : (H : HashFunction) (h z : ℕ) (p q : List (List ℕ)) (whole : Bool) (old : List ℕ) (proof : List (List ℕ)) (k : ℕ) → h ≡ suc z → length p < length q → 2 ^ z < length q → length p ≤ 2 ^ z → length proof ≡ k + 1
    → grown_within H h p q whole old proof
    ≡ (right_pair H z q (get_or proof k []) (roots_within H z (length p) (2 ^ z) whole old (take k proof)) ∷ []) ++ grown_within H z p (take (2 ^ z) q) whole old (take k proof)
front_grown H h z p q whole old proof k e less high inside size = rw e (ap (grown_within H (suc z) p q whole old) (last_apart proof k size) ∙ grown_front H z p q whole old (take k proof) (get_or proof k []) less high inside)

pub rest_grown : (H : HashFunction) (h z : ℕ) (p q : List (List ℕ)) (whole : Bool) (old : List ℕ) (proof : List (List ℕ)) (k : ℕ) → h ≡ suc z → length p < length q → 2 ^ z < length p → length proof ≡ k + 1
    → grown_within H h p q whole old proof
    ≡ left_pairs H z p q (get_or proof k []) (roots_within H z (length p - 2 ^ z) (length q - 2 ^ z) false old (take k proof))
    ++ tree_pairs H z (take (2 ^ z) p) (take (2 ^ z) q) ++ grown_within H z (drop (2 ^ z) p) (drop (2 ^ z) q) false old (take k proof)
rest_grown H h z p q whole old proof k e less past size = rw e (ap (grown_within H (suc z) p q whole old) (last_apart proof k size) ∙ grown_rest H z p q whole old (take k proof) (get_or proof k []) less past)

-- ---- all but the last digest of a proof

pub some_digest : (h m n : ℕ) (whole : Bool) → 0 < m → m < n → n ≤ 2 ^ h → 2 ^ (h - 1) < n → 0 < proof_len_within h m n whole
some_digest h m n whole some less few high =
    let e = tall h m n some less few in
    elim (cases_lt (2 ^ (h - 1)) m) [
      | inl past ↦ omega (arith, rest_len h (h - 1) m n whole e less past)
      | inr inside ↦ omega (arith, front_len h (h - 1) m n whole e less high inside)
    ]

pub front_size : (h m n : ℕ) (whole : Bool) (proof : List (List ℕ)) → 0 < m → m < n → n ≤ 2 ^ h → 2 ^ (h - 1) < n → m ≤ 2 ^ (h - 1) → length proof ≡ proof_len_within h m n whole
    → length (take (length proof - 1) proof) ≡ proof_len_within (h - 1) m (2 ^ (h - 1)) whole
front_size h m n whole proof some less few high inside size =
    omega (arith, size, front_len h (h - 1) m n whole (tall h m n some less few) less high inside, length-take (length proof - 1) proof)

pub rest_size : (h m n : ℕ) (whole : Bool) (proof : List (List ℕ)) → 0 < m → m < n → n ≤ 2 ^ h → 2 ^ (h - 1) < m → length proof ≡ proof_len_within h m n whole
    → length (take (length proof - 1) proof) ≡ proof_len_within (h - 1) (m - 2 ^ (h - 1)) (n - 2 ^ (h - 1)) false
rest_size h m n whole proof some less few past size =
    omega (arith, size, rest_len h (h - 1) m n whole (tall h m n some less few) less past, length-take (length proof - 1) proof)

-- ---- any height that is enough gives the same

len_enough : (z w m n : ℕ) (whole : Bool) → m < n → n ≤ 2 ^ z → z ≤ w → proof_len_within w m n whole ≡ proof_len_within z m n whole
len_enough z zero m n whole less few more = let same : z ≡ 0 = omega arith in rw same refl
len_enough z (suc w) m n whole less few more = elim (cases_lt w z) [
  | inl top ↦ (let same : z ≡ suc w = omega arith in rw same refl)
  | inr above ↦ (let high : 2 ^ z ≤ 2 ^ w = pow_mono above in len_low w m n whole less (omega arith) ∙ len_enough z w m n whole less few above)
]

pub len_any : (z w m n : ℕ) (whole : Bool) → m ≤ n → n ≤ 2 ^ z → n ≤ 2 ^ w → proof_len_within z m n whole ≡ proof_len_within w m n whole
len_any z w m n whole more h k = elim (cases_lt m n) [
  | inr top ↦ (let all : m ≡ n = omega arith in len_all z m n whole all ∙ sym (len_all w m n whole all))
  | inl less ↦ elim (cases_lt z w) [
    | inl lower ↦ sym (len_enough z w m n whole less h (omega arith))
    | inr higher ↦ len_enough w z m n whole less k higher
  ]
]
