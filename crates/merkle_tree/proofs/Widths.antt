-- Roots over digests have 32 bytes.
use Rattle.std.proofs.Common.{◌≡◌, ℕ, zero, suc, ◌+◌, ◌-◌, ◌*◌, ◌^◌, ◌<◌, ◌≤◌, List, [], ◌∷◌, ◌++◌, length, take, drop, ◌∙◌, arith, inl, inr, length-append, length-take, length-drop}
use Rattle.std.specs.List.{All}
use Rattle.std.proofs.Math.Nat.{pow-suc}
use Rattle.std.proofs.lemmas.Bool.{cases_lt}
use Rattle.std.proofs.lemmas.List.{get_or-drop, get_or-take, get_or_append_left, get_or_at}
use Rattle.merkle_tree.proofs.Splits.{path_front, path_low, path_rest, tree_high, tree_low}
use Rattle.merkle_tree.specs.Tree.{path_within, tree_within}
use Rattle.merkle_tree.specs.Hashes.{HashFunction, HasDigests}

-- digests have 32 bytes
abbrev pub Wide : List (List ℕ) → Type 0
Wide q = All (λ d. length d ≡ 32) q

pub tree_wide : (H : HashFunction) (sized : HasDigests H) (z : ℕ) (q : List (List ℕ)) → 0 < length q → length q ≤ 2 ^ z → Wide q → length (tree_within H z q) ≡ 32
unfolding tree_within
tree_wide H sized zero q some few wide = wide 0 _ some
tree_wide H sized (suc z) q some few wide = elim (cases_lt (2 ^ z) (length q)) [
  | inl high ↦ rw (tree_high H z q high) (sized _)
  | inr low ↦ rw (tree_low H z q low) (tree_wide H sized z q some low wide)
]

pub wide_push : (p : List (List ℕ)) (e : List ℕ) → Wide p → length e ≡ 32 → Wide (p ++ e ∷ [])
wide_push p e wide size = λ k d h. elim (cases_lt k (length p)) [
  | inl front ↦ rw (get_or_append_left p (e ∷ []) d k front) (wide k d front)
  | inr last ↦ (let at : length p ≡ k = omega (arith, length-append p (e ∷ [])) in rw (get_or_at p e [] d k at) size)
]

pub wide_front : (n : ℕ) (q : List (List ℕ)) → Wide q → Wide (take n q)
wide_front n q wide = λ k d h.
    let below : k < n = omega (arith, length-take n q) in
    rw (get_or-take n q k d below) (wide k d (omega (arith, length-take n q)))

pub wide_rest : (n : ℕ) (q : List (List ℕ)) → Wide q → Wide (drop n q)
wide_rest n q wide = λ k d h. rw (get_or-drop n q k d) (wide (n + k) d (omega (arith, length-drop n q)))

pub path_wide : (H : HashFunction) (sized : HasDigests H) (z : ℕ) (q : List (List ℕ)) (i : ℕ) → i < length q → length q ≤ 2 ^ z → Wide q → Wide (path_within H z q i)
unfolding path_within
path_wide H sized zero q i h l wide = λ k d below. absurd (omega arith)
path_wide H sized (suc z) q i h l wide =
    let s = 2 ^ z in
    let twice : 2 ^ suc z ≡ 2 * s = pow-suc 2 z ∙ omega arith in
    elim (cases_lt s (length q)) [
      | inl high ↦ elim (cases_lt i s) [
        | inl inside ↦ rw (path_front H z q i high inside)
            (wide_push _ _ (path_wide H sized z (take s q) i (omega (arith, length-take s q)) (omega (arith, length-take s q)) (wide_front s q wide))
            (tree_wide H sized z (drop s q) (omega (arith, length-drop s q)) (omega (arith, length-drop s q)) (wide_rest s q wide)))
        | inr past ↦ rw (path_rest H z q i high past)
            (wide_push _ _ (path_wide H sized z (drop s q) (i - s) (omega (arith, length-drop s q)) (omega (arith, length-drop s q)) (wide_rest s q wide))
            (tree_wide H sized z (take s q) (omega (arith, length-take s q)) (omega (arith, length-take s q)) (wide_front s q wide)))
      ]
      | inr low ↦ rw (path_low H z q i low) (path_wide H sized z q i h low wide)
    ]
