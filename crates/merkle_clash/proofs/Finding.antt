-- The first clash of lists that are joined, and where a call finds it.
use Rattle.std.proofs.Common.{◌≡◌, ℕ, zero, suc, ◌^◌, ◌<◌, ◌≤◌, List, [], ◌∷◌, ◌++◌, length, take, drop, get_or, Bool, Option, None, Some, refl, sym, ◌∙◌, arith, inl, inr}
use Rattle.std.specs.Option.{option_or}
use Rattle.std.specs.Prelude.{MatchOption}
use Rattle.std.proofs.lemmas.Bool.{cases_Bool, cases_lt}
use Rattle.std.proofs.Math.Pow.{pow_mono}
use Rattle.merkle_tree.proofs.Binding.{pairs_high, pairs_low}
use Rattle.merkle_tree.proofs.Splits.{tree_high, tree_low}
use Rattle.std.proofs.lemmas.List.{get_or_default}
use Rattle.merkle_tree.proofs.Grown.{grown_all, grown_low}
use Rattle.merkle_tree.specs.Binding.{grown_within, top_input, tree_pairs}
use Rattle.merkle_tree.specs.Clashes.{Inputs, first_clash, is_clash}
use Rattle.merkle_tree.specs.Tree.{node_hash, tree_within}
use Rattle.merkle_tree.specs.Hashes.{HashFunction}

-- a call answers the first clash of some pairs
abbrev pub IsFirst : HashFunction → Option Inputs → List Inputs → Type 0
IsFirst H o ps = MatchOption o (first_clash H ps ≡ None) (λ c. first_clash H ps ≡ Some c)

first_front : (H : HashFunction) (c : Inputs) (ps qs : List Inputs) → first_clash H ps ≡ Some c → first_clash H (ps ++ qs) ≡ Some c
unfolding first_clash
first_front H c [] qs is = absurd (cc is)
first_front H c (p ∷ ps) qs is = elim (cases_Bool (is_clash H p)) [
  | inl here ↦ rw here (rw here at is)
  | inr past ↦ rw past (first_front H c ps qs (rw past at is))
]

first_rest : (H : HashFunction) (ps qs : List Inputs) → first_clash H ps ≡ None → first_clash H (ps ++ qs) ≡ first_clash H qs
unfolding first_clash
first_rest H [] qs none = refl
first_rest H (p ∷ ps) qs none = elim (cases_Bool (is_clash H p)) [
  | inl here ↦ (let some : Some p ≡ None = rw here at none in absurd (cc some))
  | inr past ↦ rw past (first_rest H ps qs (rw past at none))
]

same_first : (H : HashFunction) (o : Option Inputs) (ps qs : List Inputs) → first_clash H ps ≡ first_clash H qs → IsFirst H o qs → IsFirst H o ps
same_first H o ps qs same is = rw same is

pub joined : (H : HashFunction) (o r : Option Inputs) (ps qs : List Inputs) → IsFirst H o ps → IsFirst H r qs → IsFirst H (option_or o r) (ps ++ qs)
joined H None r ps qs is rest = same_first H r (ps ++ qs) qs (first_rest H ps qs is) rest
joined H (Some c) r ps qs is rest = first_front H c ps qs is

pub joined_both : (H : HashFunction) (o r t u v : Option Inputs) (ps qs rs : List Inputs) → u ≡ option_or o r → v ≡ option_or u t
    → IsFirst H o ps → IsFirst H r qs → IsFirst H t rs → IsFirst H v ((ps ++ qs) ++ rs)
joined_both H o r t u v ps qs rs first second in_ps in_qs in_rs =
    rw (second, first) (joined H (option_or o r) t (ps ++ qs) rs (joined H o r ps qs in_ps in_qs) in_rs)

-- what is hashed at the tops of two trees
abbrev pub tops : HashFunction → ℕ → List (List ℕ) → List (List ℕ) → List Inputs
tops H z p q = record { first = top_input H z p; second = top_input H z q } ∷ []

pub trees_split : (H : HashFunction) (h z : ℕ) (p q : List (List ℕ)) → h ≡ suc z → 2 ^ z < length q
    → tree_pairs H h p q ≡ tops H z p q ++ tree_pairs H z (take (2 ^ z) p) (take (2 ^ z) q) ++ tree_pairs H z (drop (2 ^ z) p) (drop (2 ^ z) q)
trees_split H h z p q e high = rw e (pairs_high H z p q high)

pub trees_low : (H : HashFunction) (h z : ℕ) (p q : List (List ℕ)) → h ≡ suc z → length q ≤ 2 ^ z → tree_pairs H h p q ≡ tree_pairs H z p q
trees_low H h z p q e low = rw e (pairs_low H z p q low)

pairs_enough : (H : HashFunction) (z w : ℕ) (p q : List (List ℕ)) → length q ≤ 2 ^ z → z ≤ w → tree_pairs H w p q ≡ tree_pairs H z p q
pairs_enough H z zero p q few more = let same : z ≡ 0 = omega arith in rw same refl
pairs_enough H z (suc w) p q few more = elim (cases_lt w z) [
  | inl top ↦ (let same : z ≡ suc w = omega arith in rw same refl)
  | inr above ↦ (let high : 2 ^ z ≤ 2 ^ w = pow_mono above in pairs_low H w p q (omega arith) ∙ pairs_enough H z w p q few above)
]

-- the same for two heights, both enough
pub pairs_any : (H : HashFunction) (z w : ℕ) (p q : List (List ℕ)) → length q ≤ 2 ^ z → length q ≤ 2 ^ w → tree_pairs H z p q ≡ tree_pairs H w p q
pairs_any H z w p q h k = elim (cases_lt z w) [
  | inl less ↦ sym (pairs_enough H z w p q h (omega arith))
  | inr more ↦ pairs_enough H w z p q k more
]

grown_enough : (H : HashFunction) (z w : ℕ) (p q : List (List ℕ)) (whole : Bool) (old : List ℕ) (proof : List (List ℕ)) → length p < length q → length q ≤ 2 ^ z → z ≤ w
    → grown_within H w p q whole old proof ≡ grown_within H z p q whole old proof
grown_enough H z zero p q whole old proof less few more = let same : z ≡ 0 = omega arith in rw same refl
grown_enough H z (suc w) p q whole old proof less few more = elim (cases_lt w z) [
  | inl top ↦ (let same : z ≡ suc w = omega arith in rw same refl)
  | inr above ↦ (let high : 2 ^ z ≤ 2 ^ w = pow_mono above in grown_low H w p q whole old proof less (omega arith) ∙ grown_enough H z w p q whole old proof less few above)
]

pub grown_any : (H : HashFunction) (z w : ℕ) (p q : List (List ℕ)) (whole : Bool) (old : List ℕ) (proof : List (List ℕ)) → length p ≤ length q → length q ≤ 2 ^ z → length q ≤ 2 ^ w
    → grown_within H z p q whole old proof ≡ grown_within H w p q whole old proof
grown_any H z w p q whole old proof few h k = elim (cases_lt (length p) (length q)) [
  | inr top ↦ (let all : length p ≡ length q = omega arith in grown_all H z p q whole old proof all ∙ pairs_any H z w p q h k ∙ sym (grown_all H w p q whole old proof all))
  | inl less ↦ elim (cases_lt z w) [
    | inl lower ↦ sym (grown_enough H z w p q whole old proof less h (omega arith))
    | inr more ↦ grown_enough H w z p q whole old proof less k more
  ]
]

-- ---- roots

pub root_one : (H : HashFunction) (h : ℕ) (q : List (List ℕ)) → h ≡ 0 → 0 < length q → get_or q 0 [] ≡ tree_within H h q
unfolding tree_within
root_one H h q e some = rw e (sym (get_or_default q 0 _ [] some))

pub root_low : (H : HashFunction) (h z : ℕ) (q : List (List ℕ)) → h ≡ suc z → length q ≤ 2 ^ z → tree_within H z q ≡ tree_within H h q
root_low H h z q e low = rw e (sym (tree_low H z q low))

pub root_high : (H : HashFunction) (h z : ℕ) (q : List (List ℕ)) → h ≡ suc z → 2 ^ z < length q → node_hash H (tree_within H z (take (2 ^ z) q)) (tree_within H z (drop (2 ^ z) q)) ≡ tree_within H h q
root_high H h z q e high = rw e (sym (tree_high H z q high))
