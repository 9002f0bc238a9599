-- Clashes of entries.
use Rattle.std.proofs.Common.{Bool, Bor, ◌≡◌, ℕ, ◌+◌, ◌<◌, ◌≤◌, List, [], ◌∷◌, ◌++◌, length, map, min, drop, get_or, true, false, Option, Some, None, refl, sym, ap, ◌∙◌, cond, arith, inl, inr}
use Rattle.std.specs.Option.{option_or}
use Rattle.std.proofs.lemmas.Bool.{cases_lt}
use Rattle.std.proofs.lemmas.List.{drop_all, drop_more, get_or-map, length-map}
use Rattle.merkle_tree.specs.Binding.{climb_pairs, entries_clash, entry_pairs, grown_pairs}
use Rattle.merkle_tree.specs.Clashes.{Inputs, first_clash, is_clash}
use Rattle.merkle_tree.specs.Climb.{path_sides}
use Rattle.merkle_tree.specs.Consistency.{proof_len}
use Rattle.merkle_tree.specs.Hashes.{HashFunction}
use Rattle.merkle_tree.specs.Tree.{inclusion_path, leaf_hash, tree_root}
use Rattle.merkle_clash.proofs.Finding.{joined}
use Rattle.merkle_clash.proofs.Fitting.{growth_fits, inclusion_fits}
use Rattle.merkle_clash.specs.Answers.{entries_answer, entry_answer, entry_inputs}

-- ---- an entry and a path

pub entry_fits : (H : HashFunction) (q : List (List ℕ)) (i : ℕ) (o m : List ℕ) (path : List (List ℕ)) → i < length q → length path ≡ length (path_sides i (length q))
    → entry_answer H q i o m path ≡ first_clash H (entry_inputs m o ∷ climb_pairs H (leaf_hash H m) (get_or q i []) (path_sides i (length q)) path (inclusion_path H q i))
unfolding first_clash
entry_fits H q i o m path inside size =
    ap (λ (r : Option Inputs). cond (is_clash H (entry_inputs m o)) (Some (entry_inputs m o)) r) (inclusion_fits H q i (leaf_hash H m) path inside size)

-- ---- two lists of entries

-- the first of two lists of pairs that are joined
pub first_joined : (H : HashFunction) (ps qs : List Inputs) → first_clash H (ps ++ qs) ≡ option_or (first_clash H ps) (first_clash H qs)
first_joined H ps qs = joined_is (first_clash H ps) (first_clash H qs) refl refl
  where
    joined_is : (o r : Option Inputs) → first_clash H ps ≡ o → first_clash H qs ≡ r → first_clash H (ps ++ qs) ≡ option_or o r
    joined_is None None first second = joined H None None ps qs first second
    joined_is None (Some c) first second = joined H None (Some c) ps qs first second
    joined_is (Some c) None first second = joined H (Some c) None ps qs first second
    joined_is (Some c) (Some d) first second = joined H (Some c) (Some d) ps qs first second

pub entries_fit : (H : HashFunction) (a b proof : List (List ℕ)) → 0 < length a → length a ≤ length b → length proof ≡ proof_len (length a) (length b)
    → entries_answer H a b proof ≡ entries_clash H a b proof
entries_fit H a b proof some more size =
    let p = map (leaf_hash H) a in
    let q = map (leaf_hash H) b in
    let size_a : length p ≡ length a = length-map a (leaf_hash H) in
    let size_b : length q ≡ length b = length-map b (leaf_hash H) in
    let long : length proof ≡ proof_len (length p) (length q) = size ∙ ap (λ n. proof_len n (length b)) (sym size_a) ∙ ap (proof_len (length p)) (sym size_b) in
    ap (option_or (first_clash H (entry_pairs a b))) (growth_fits H p q proof (omega arith) (omega arith) long)
    ∙ sym (first_joined H (entry_pairs a b) (grown_pairs H p q (tree_root H p) proof))

-- ---- one entry after the other

pub entries_on : (H : HashFunction) (a b : List (List ℕ)) (k : ℕ) → k < length a → k < length b → is_clash H (entry_inputs (get_or a k []) (get_or b k [])) ≡ false
    → first_clash H (entry_pairs (drop (k + 1) a) (drop (k + 1) b)) ≡ first_clash H (entry_pairs (drop k a) (drop k b))
unfolding first_clash entry_pairs
entries_on H a b k in_a in_b none = rw (drop_more a k [] in_a, drop_more b k [] in_b, none) refl

pub entries_here : (H : HashFunction) (a b : List (List ℕ)) (k : ℕ) → k < length a → k < length b → is_clash H (entry_inputs (get_or a k []) (get_or b k [])) ≡ true
    → first_clash H (entry_pairs (drop k a) (drop k b)) ≡ Some (entry_inputs (get_or a k []) (get_or b k []))
unfolding first_clash entry_pairs
entries_here H a b k in_a in_b here = rw (drop_more a k [] in_a, drop_more b k [] in_b, here) refl

none_left : (H : HashFunction) (b : List (List ℕ)) → first_clash H (entry_pairs [] b) ≡ None
unfolding first_clash entry_pairs
none_left H b = refl

none_right : (H : HashFunction) (a : List (List ℕ)) → first_clash H (entry_pairs a []) ≡ None
unfolding first_clash entry_pairs
none_right H [] = refl
none_right H (m ∷ a) = refl

pub entries_end_left : (H : HashFunction) (a b : List (List ℕ)) (k : ℕ) → length a ≤ k → first_clash H (entry_pairs (drop k a) (drop k b)) ≡ None
entries_end_left H a b k all = ap (λ (l : List (List ℕ)). first_clash H (entry_pairs l (drop k b))) (drop_all k a all) ∙ none_left H (drop k b)

pub entries_end_right : (H : HashFunction) (a b : List (List ℕ)) (k : ℕ) → length b ≤ k → first_clash H (entry_pairs (drop k a) (drop k b)) ≡ None
entries_end_right H a b k all = ap (λ (l : List (List ℕ)). first_clash H (entry_pairs (drop k a) l)) (drop_all k b all) ∙ none_right H (drop k a)

-- ---- entries behind references

abbrev pub shown : List (Bor (List ℕ)) → List (List ℕ)
shown a = map (λ (entry : Bor (List ℕ)). entry.now) a

module _ (H : HashFunction) (a b : List (Bor (List ℕ))) (k : ℕ) (in_a : k < length a) (in_b : k < length b) where
  in_p : k < length (shown a)
  in_p = omega (arith, length-map a (λ (entry : Bor (List ℕ)). entry.now))

  in_q : k < length (shown b)
  in_q = omega (arith, length-map b (λ (entry : Bor (List ℕ)). entry.now))

  at_k : (d e : Bor (List ℕ)) (t s : Bool) → t ≡ is_clash H (entry_inputs (get_or a k d).now (get_or b k e).now) → t ≡ s
      → is_clash H (entry_inputs (get_or (shown a) k []) (get_or (shown b) k [])) ≡ s
  at_k d e t s is told = rw (get_or-map (λ (entry : Bor (List ℕ)). entry.now) a k d [] in_a, get_or-map (λ (entry : Bor (List ℕ)). entry.now) b k e [] in_b) (sym is ∙ told)

  pub shown_here : (d e : Bor (List ℕ)) (t : Bool) → t ≡ is_clash H (entry_inputs (get_or a k d).now (get_or b k e).now) → t ≡ true
      → first_clash H (entry_pairs (drop k (shown a)) (drop k (shown b))) ≡ Some (entry_inputs (get_or (shown a) k []) (get_or (shown b) k []))
  shown_here d e t is told = entries_here H (shown a) (shown b) k in_p in_q (at_k d e t true is told)

  pub shown_on : (d e : Bor (List ℕ)) (t : Bool) → t ≡ is_clash H (entry_inputs (get_or a k d).now (get_or b k e).now) → t ≡ false
      → first_clash H (entry_pairs (drop (k + 1) (shown a)) (drop (k + 1) (shown b))) ≡ first_clash H (entry_pairs (drop k (shown a)) (drop k (shown b)))
  shown_on d e t is told = entries_on H (shown a) (shown b) k in_p in_q (at_k d e t false is told)

pub shown_end : (H : HashFunction) (a b : List (Bor (List ℕ))) (k : ℕ) → min (length a) (length b) ≤ k → first_clash H (entry_pairs (drop k (shown a)) (drop k (shown b))) ≡ None
shown_end H a b k past = elim (cases_lt k (length a)) [
  | inl more ↦ entries_end_right H (shown a) (shown b) k (omega (arith, length-map b (λ (entry : Bor (List ℕ)). entry.now)))
  | inr all ↦ entries_end_left H (shown a) (shown b) k (omega (arith, length-map a (λ (entry : Bor (List ℕ)). entry.now)))
]
