-- The laws at the height that a number of digests is enough for.
use Rattle.std.proofs.Common.{◌≡◌, ◌≢◌, ℕ, ◌<◌, ◌≤◌, List, [], ◌∷◌, length, take, drop, map, true, Some, refl, ap, ◌∙◌, arith, inl, inr, ◌⊎◌, length-take, sym}
use Rattle.std.proofs.lemmas.Bool.{cases_lt, le-ltb, lt-ltb}
use Rattle.std.proofs.lemmas.Bool.Decides.{Decides-and, Decides-eqb, Decides-ltb, Decides-not}
use Rattle.std.proofs.lemmas.List.{get_or-map, length-map, take-map, nil_from_length}
use Rattle.std.proofs.lemmas.Slice.Eq.{bytes_eq-Decides}
use Rattle.merkle_tree.proofs.Binding.{Found, found_front, found_here, found_later, found_rest, inputs_bind, trees_bind}
use Rattle.merkle_tree.proofs.Growing.{leads_to_both, length-consistency}
use Rattle.merkle_tree.proofs.Grown.{growth_binds}
use Rattle.merkle_tree.proofs.Ways.{enough, tree_any}
use Rattle.merkle_tree.proofs.Widths.{Wide}
use Rattle.merkle_tree.specs.Binding.{entries_clash, entry_pairs, growth_clash, grown_pairs, entries_root_clash, roots_clash, tree_pairs}
use Rattle.merkle_tree.specs.Clashes.{Inputs, first_clash}
use Rattle.merkle_tree.specs.Consistency.{Roots, consistency_proof, is_consistent, proof_len, proof_roots, roots_of}
use Rattle.merkle_tree.specs.Tree.{entries_root, leaf_hash, tree_root, tree_within}
use Rattle.merkle_tree.specs.Hashes.{HashFunction, HasDigests}

-- a root at the height of a longer list
pub root_at : (H : HashFunction) (p q : List (List ℕ)) → length p ≤ length q → tree_root H p ≡ tree_within H (length q) p
root_at H p q h = tree_any H (length p) (length q) p (enough (length p)) (omega (arith, enough (length q)))

pub front_root : (H : HashFunction) (m : ℕ) (q : List (List ℕ)) → tree_root H (take m q) ≡ tree_within H (length q) (take m q)
front_root H m q = root_at H (take m q) q (omega (arith, length-take m q))

pub proof_leads : (H : HashFunction) (m : ℕ) (q : List (List ℕ)) → 0 < m → m ≤ length q
    → proof_roots H m (length q) (tree_root H (take m q)) (consistency_proof H q m) ≡ roots_of H q m
proof_leads H m q some h =
    leads_to_both H (length q) m true (tree_root H (take m q)) q some h (enough (length q)) (λ _. front_root H m q)
    ∙ rw (front_root H m q) refl

pub proof_length : (H : HashFunction) (m : ℕ) (q : List (List ℕ)) → 0 < m → m ≤ length q → length (consistency_proof H q m) ≡ proof_len m (length q)
proof_length H m q some h = length-consistency H (length q) m true q some h (enough (length q))

-- what a proof that is checked has
pub record Checked (H : HashFunction) (m n : ℕ) (old new : List ℕ) (proof : List (List ℕ)) : Type 0 where
  pub some : 0 < m
  pub within : m ≤ n
  pub size : length proof ≡ proof_len m n
  pub old_root : (proof_roots H m n old proof).old ≡ old
  pub new_root : (proof_roots H m n old proof).new ≡ new

not_more : (m n : ℕ) → ¬ (n < m) → m ≤ n
not_more m n h = elim (cases_lt n m) [ inl more ↦ absurd (h more) | inr within ↦ within ]

pub is_checked : (H : HashFunction) (m n : ℕ) (old new : List ℕ) (proof : List (List ℕ)) → is_consistent H m n old new proof ≡ true → Checked H m n old new proof
is_checked H m n old new proof holds =
    let roots = proof_roots H m n old proof in
    let all = (Decides-and _ _ (Decides-and _ _ (Decides-and _ _ (Decides-and _ _ (Decides-ltb 0 m) (Decides-not _ (Decides-ltb n m))) (Decides-eqb (length proof) (proof_len m n))) (bytes_eq-Decides roots.old old)) (bytes_eq-Decides roots.new new)).0 holds in
    record {
      some = all.0.0.0.0;
      within = not_more m n all.0.0.0.1;
      size = all.0.0.1;
      old_root = all.0.1;
      new_root = all.1;
    }

pub checked : (H : HashFunction) (m n : ℕ) (old new : List ℕ) (proof : List (List ℕ)) → Checked H m n old new proof → is_consistent H m n old new proof ≡ true
checked H m n old new proof c =
    rw (lt-ltb 0 m c.some, le-ltb n m c.within, (Decides-eqb (length proof) (proof_len m n)).1 c.size, (bytes_eq-Decides (proof_roots H m n old proof).old old).1 c.old_root, (bytes_eq-Decides (proof_roots H m n old proof).new new).1 c.new_root) refl

pub proof_checks : (H : HashFunction) (m : ℕ) (q : List (List ℕ)) → 0 < m → m ≤ length q
    → is_consistent H m (length q) (tree_root H (take m q)) (tree_root H q) (consistency_proof H q m) ≡ true
proof_checks H m q some h = checked H _ _ _ _ _ (record {
  some = some;
  within = h;
  size = proof_length H m q some h;
  old_root = ap (λ (r : Roots). r.old) (proof_leads H m q some h);
  new_root = ap (λ (r : Roots). r.new) (proof_leads H m q some h);
})

bind : (H : HashFunction) (sized : HasDigests H) (p q proof : List (List ℕ)) → Wide p → Wide q → Wide proof
    → is_consistent H (length p) (length q) (tree_root H p) (tree_root H q) proof ≡ true
    → (p ≡ take (length p) q) ⊎ Found H (grown_pairs H p q (tree_root H p) proof)
bind H sized p q proof wp wq wide holds =
    let c = is_checked H _ _ _ _ _ holds in
    growth_binds H sized (length q) p q true (tree_root H p) proof c.some c.within (enough (length q)) wp wq (record {
      size = c.size;
      wide = wide;
      old_root = c.old_root ∙ root_at H p q c.within;
      new_root = c.new_root;
    })

pub digests_bound : (H : HashFunction) (sized : HasDigests H) (p q proof : List (List ℕ)) → Wide p → Wide q → Wide proof
    → is_consistent H (length p) (length q) (tree_root H p) (tree_root H q) proof ≡ true
    → p ≢ take (length p) q → (c : Inputs) × (growth_clash H p q proof ≡ Some c)
digests_bound H sized p q proof wp wq wide holds differ = elim (bind H sized p q proof wp wq wide holds) [
  | inl same ↦ absurd (differ same)
  | inr found ↦ found
]

-- entries with the same digests are the same, or clash
entries_bind : (H : HashFunction) (a b : List (List ℕ)) → map (leaf_hash H) a ≡ map (leaf_hash H) b → (a ≡ b) ⊎ Found H (entry_pairs a b)
unfolding entry_pairs
entries_bind H [] [] same = inl refl
entries_bind H [] (o ∷ b) same = absurd (cc)
entries_bind H (m ∷ a) [] same = absurd (cc)
entries_bind H (m ∷ a) (o ∷ b) same =
    let head : leaf_hash H m ≡ leaf_hash H o = cc in
    let tail : map (leaf_hash H) a ≡ map (leaf_hash H) b = cc in
    elim (inputs_bind H (0 ∷ m) (0 ∷ o) head) [
      | inr clash ↦ inr (found_here H _ _ clash)
      | inl equal ↦ elim (entries_bind H a b tail) [
        | inr found ↦ inr (found_later H _ _ found)
        | inl rests ↦ (let first : m ≡ o = ap (drop 1) equal in inl (rw (first, rests) refl))
      ]
    ]

-- no more of the second list is compared than the first is long
entry_front : (a b : List (List ℕ)) → entry_pairs a (take (length a) b) ≡ entry_pairs a b
unfolding entry_pairs
entry_front [] b = refl
entry_front (m ∷ a) [] = refl
entry_front (m ∷ a) (o ∷ b) = rw (entry_front a b) refl

pub leaves_wide : (H : HashFunction) (sized : HasDigests H) (a : List (List ℕ)) → Wide (map (leaf_hash H) a)
leaves_wide H sized a = λ k d h. rw (get_or-map (leaf_hash H) a k [] d (omega (arith, length-map a (leaf_hash H)))) (sized _)

pub entries_bound : (H : HashFunction) (sized : HasDigests H) (a b proof : List (List ℕ)) → Wide proof
    → is_consistent H (length a) (length b) (tree_root H (map (leaf_hash H) a)) (tree_root H (map (leaf_hash H) b)) proof ≡ true
    → a ≢ take (length a) b → (c : Inputs) × (entries_clash H a b proof ≡ Some c)
entries_bound H sized a b proof wide holds differ =
    let p = map (leaf_hash H) a in
    let q = map (leaf_hash H) b in
    let size_a : length p ≡ length a = length-map a (leaf_hash H) in
    let size_b : length q ≡ length b = length-map b (leaf_hash H) in
    elim (bind H sized p q proof (leaves_wide H sized a) (leaves_wide H sized b) wide (ap (λ k. is_consistent H k (length q) (tree_root H p) (tree_root H q) proof) size_a ∙ ap (λ k. is_consistent H (length a) k (tree_root H p) (tree_root H q) proof) size_b ∙ holds)) [
      | inr found ↦ found_rest H _ _ found
      | inl same ↦ (let cut : take (length p) q ≡ map (leaf_hash H) (take (length a) b) = ap (λ k. take k q) size_a ∙ take-map (leaf_hash H) (length a) b in
          elim (entries_bind H a (take (length a) b) (same ∙ cut)) [
            | inl equal ↦ absurd (differ equal)
            | inr found ↦ found_front H _ _ (rw entry_front at found)
          ])
    ]

-- ---- one root

bind_roots : (H : HashFunction) (sized : HasDigests H) (p q : List (List ℕ)) → Wide p → Wide q → length p ≡ length q → tree_root H p ≡ tree_root H q → (p ≡ q) ⊎ Found H (tree_pairs H (length q) p q)
bind_roots H sized p q wp wq size same = elim (cases_lt 0 (length q)) [
  | inl some ↦ trees_bind H sized (length q) p q size some (enough (length q)) wp wq (sym (root_at H p q (omega arith)) ∙ same)
  | inr none ↦ inl (nil_from_length p (omega arith) ∙ sym (nil_from_length q (omega arith)))
]

pub roots_bound : (H : HashFunction) (sized : HasDigests H) (p q : List (List ℕ)) → Wide p → Wide q → length p ≡ length q → tree_root H p ≡ tree_root H q → p ≢ q → (c : Inputs) × (roots_clash H p q ≡ Some c)
roots_bound H sized p q wp wq size same differ = elim (bind_roots H sized p q wp wq size same) [
  | inl equal ↦ absurd (differ equal)
  | inr found ↦ found
]

pub entries_root_bound : (H : HashFunction) (sized : HasDigests H) (a b : List (List ℕ)) → length a ≡ length b → entries_root H a ≡ entries_root H b → a ≢ b → (c : Inputs) × (entries_root_clash H a b ≡ Some c)
entries_root_bound H sized a b size same differ =
    let p = map (leaf_hash H) a in
    let q = map (leaf_hash H) b in
    let size_a : length p ≡ length a = length-map a (leaf_hash H) in
    let size_b : length q ≡ length b = length-map b (leaf_hash H) in
    elim (bind_roots H sized p q (leaves_wide H sized a) (leaves_wide H sized b) (omega arith) same) [
      | inr found ↦ found_rest H _ _ (found.0, ap (λ z. first_clash H (tree_pairs H z p q)) (sym size_b) ∙ found.1)
      | inl digests ↦ elim (entries_bind H a b digests) [
        | inl equal ↦ absurd (differ equal)
        | inr found ↦ found_front H _ _ found
      ]
    ]
