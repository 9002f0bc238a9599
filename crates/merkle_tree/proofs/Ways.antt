-- Any height that is enough gives the same.
use Rattle.std.proofs.Common.{◌≡◌, ℕ, zero, suc, ◌+◌, ◌-◌, ◌*◌, ◌^◌, ◌<◌, ◌≤◌, List, [], ◌∷◌, ◌++◌, length, take, drop, get_or, Bool, true, false, refl, sym, ap, ◌∙◌, arith, inl, inr, length-take, length-drop}
use Rattle.std.proofs.Math.Nat.{pow-suc}
use Rattle.std.proofs.Math.Pow.{pow_mono}
use Rattle.std.proofs.lemmas.Nat.{pow_pos}
use Rattle.std.proofs.lemmas.Bool.{cases_lt}
use Rattle.std.proofs.lemmas.List.{take_all, take_more, length_push}
use Rattle.merkle_tree.proofs.Splits.{tree_low, path_front, path_rest, path_low, sides_front, sides_rest, sides_low, climb_front, climb_rest, climb_low}
use Rattle.merkle_tree.specs.Tree.{tree_within, path_within, node_hash}
use Rattle.merkle_tree.specs.Climb.{climb_within, sides_within, climb_along, node_input}
use Rattle.merkle_tree.specs.Hashes.{HashFunction}

pub enough : (n : ℕ) → n ≤ 2 ^ n
enough zero = omega arith
enough (suc n) = omega (arith, enough n, pow-suc 2 n, pow_pos n)

pub tree_enough : (H : HashFunction) (z w : ℕ) (q : List (List ℕ)) → length q ≤ 2 ^ z → z ≤ w → tree_within H w q ≡ tree_within H z q
tree_enough H z zero q h k = let same : z ≡ 0 = omega arith in rw same refl
tree_enough H z (suc w) q h k = elim (cases_lt w z) [
  | inl top ↦ (let same : z ≡ suc w = omega arith in rw same refl)
  | inr more ↦ (let high : 2 ^ z ≤ 2 ^ w = pow_mono more in tree_low H w q (omega arith) ∙ tree_enough H z w q h more)
]

pub path_enough : (H : HashFunction) (z w : ℕ) (q : List (List ℕ)) (i : ℕ) → length q ≤ 2 ^ z → z ≤ w → path_within H w q i ≡ path_within H z q i
path_enough H z zero q i h k = let same : z ≡ 0 = omega arith in rw same refl
path_enough H z (suc w) q i h k = elim (cases_lt w z) [
  | inl top ↦ (let same : z ≡ suc w = omega arith in rw same refl)
  | inr more ↦ (let high : 2 ^ z ≤ 2 ^ w = pow_mono more in path_low H w q i (omega arith) ∙ path_enough H z w q i h more)
]

pub sides_enough : (z w i n : ℕ) → n ≤ 2 ^ z → z ≤ w → sides_within w i n ≡ sides_within z i n
sides_enough z zero i n h k = let same : z ≡ 0 = omega arith in rw same refl
sides_enough z (suc w) i n h k = elim (cases_lt w z) [
  | inl top ↦ (let same : z ≡ suc w = omega arith in rw same refl)
  | inr more ↦ (let high : 2 ^ z ≤ 2 ^ w = pow_mono more in sides_low w i n (omega arith) ∙ sides_enough z w i n h more)
]

pub climb_enough : (H : HashFunction) (z w : ℕ) (x : List ℕ) (i n : ℕ) (path : List (List ℕ)) → n ≤ 2 ^ z → z ≤ w → climb_within H w x i n path ≡ climb_within H z x i n path
climb_enough H z zero x i n path h k = let same : z ≡ 0 = omega arith in rw same refl
climb_enough H z (suc w) x i n path h k = elim (cases_lt w z) [
  | inl top ↦ (let same : z ≡ suc w = omega arith in rw same refl)
  | inr more ↦ (let high : 2 ^ z ≤ 2 ^ w = pow_mono more in climb_low H w x i n path (omega arith) ∙ climb_enough H z w x i n path h more)
]

-- the same for two heights, both enough
pub tree_any : (H : HashFunction) (z w : ℕ) (q : List (List ℕ)) → length q ≤ 2 ^ z → length q ≤ 2 ^ w → tree_within H z q ≡ tree_within H w q
tree_any H z w q h k = elim (cases_lt z w) [
  | inl less ↦ sym (tree_enough H z w q h (omega arith))
  | inr more ↦ tree_enough H w z q k more
]

pub path_any : (H : HashFunction) (z w : ℕ) (q : List (List ℕ)) (i : ℕ) → length q ≤ 2 ^ z → length q ≤ 2 ^ w → path_within H z q i ≡ path_within H w q i
path_any H z w q i h k = elim (cases_lt z w) [
  | inl less ↦ sym (path_enough H z w q i h (omega arith))
  | inr more ↦ path_enough H w z q i k more
]

pub sides_any : (z w i n : ℕ) → n ≤ 2 ^ z → n ≤ 2 ^ w → sides_within z i n ≡ sides_within w i n
sides_any z w i n h k = elim (cases_lt z w) [
  | inl less ↦ sym (sides_enough z w i n h (omega arith))
  | inr more ↦ sides_enough w z i n k more
]

pub climb_any : (H : HashFunction) (z w : ℕ) (x : List ℕ) (i n : ℕ) (path : List (List ℕ)) → n ≤ 2 ^ z → n ≤ 2 ^ w → climb_within H z x i n path ≡ climb_within H w x i n path
climb_any H z w x i n path h k = elim (cases_lt z w) [
  | inl less ↦ sym (climb_enough H z w x i n path h (omega arith))
  | inr more ↦ climb_enough H w z x i n path k more
]

-- a path has a sibling for each side
pub length-path : (H : HashFunction) (z : ℕ) (q : List (List ℕ)) (i : ℕ) → i < length q → length q ≤ 2 ^ z → length (path_within H z q i) ≡ length (sides_within z i (length q))
unfolding path_within sides_within
length-path H zero q i h k = refl
length-path H (suc z) q i h k =
    let s = 2 ^ z in
    let twice : 2 ^ suc z ≡ 2 * s = pow-suc 2 z ∙ omega arith in
    elim (cases_lt s (length q)) [
      | inl high ↦ (let front : length (take s q) ≡ s = omega (arith, length-take s q) in
          let rest : length (drop s q) ≡ length q - s = length-drop s q in
          elim (cases_lt i s) [
            | inl inside ↦ (let below = rw front at (length-path H z (take s q) i (omega arith) (omega arith)) in
                rw (path_front H z q i high inside, sides_front z i (length q) high inside, length_push (path_within H z (take s q) i) (tree_within H z (drop s q)), length_push (sides_within z i s) false, below) refl)
            | inr past ↦ (let below = rw rest at (length-path H z (drop s q) (i - s) (omega arith) (omega arith)) in
                rw (path_rest H z q i high past, sides_rest z i (length q) high past, length_push (path_within H z (drop s q) (i - s)) (tree_within H z (take s q)), length_push (sides_within z (i - s) (length q - s)) true, below) refl)
          ])
      | inr low ↦ rw (path_low H z q i low, sides_low z i (length q) low) (length-path H z q i h low)
    ]

-- a climb is at most as long as the tree is high
pub length-sides : (z i n : ℕ) → length (sides_within z i n) ≤ z
unfolding sides_within
length-sides zero i n = omega arith
length-sides (suc z) i n = elim (cases_lt (2 ^ z) n) [
  | inl high ↦ elim (cases_lt i (2 ^ z)) [
    | inl inside ↦ rw (sides_front z i n high inside) (omega (arith, length_push (sides_within z i (2 ^ z)) false, length-sides z i (2 ^ z)))
    | inr past ↦ rw (sides_rest z i n high past) (omega (arith, length_push (sides_within z (i - 2 ^ z) (n - 2 ^ z)) true, length-sides z (i - 2 ^ z) (n - 2 ^ z)))
  ]
  | inr low ↦ rw (sides_low z i n low) (omega (arith, length-sides z i n))
]

-- one step more at the end of the way
pub along_more : (H : HashFunction) (x : List ℕ) (sides : List Bool) (path : List (List ℕ)) (side : Bool) (e : List ℕ) → length path ≡ length sides
    → climb_along H x (sides ++ side ∷ []) (path ++ e ∷ []) ≡ H (node_input side (climb_along H x sides path) e)
unfolding climb_along
along_more H x [] [] side e h = refl
along_more H x [] (f ∷ path) side e h = absurd (omega arith)
along_more H x (b ∷ sides) [] side e h = absurd (omega arith)
along_more H x (b ∷ sides) (f ∷ path) side e h = along_more H (H (node_input b x f)) sides path side e (omega arith)

pub last_apart : (path : List (List ℕ)) (k : ℕ) → length path ≡ k + 1 → path ≡ take k path ++ get_or path k [] ∷ []
last_apart path k h = sym (take_all (k + 1) path (omega arith)) ∙ take_more path k [] (omega arith)

-- the climb from above and the way from below are the same
pub climb_is_along : (H : HashFunction) (z : ℕ) (x : List ℕ) (i n : ℕ) (path : List (List ℕ)) → i < n → n ≤ 2 ^ z → length path ≡ length (sides_within z i n)
    → climb_within H z x i n path ≡ climb_along H x (sides_within z i n) path
unfolding climb_within sides_within climb_along
climb_is_along H zero x i n path h k l = refl
climb_is_along H (suc z) x i n path h k l =
    let s = 2 ^ z in
    let twice : 2 ^ suc z ≡ 2 * s = pow-suc 2 z ∙ omega arith in
    elim (cases_lt s n) [
      | inl high ↦ elim (cases_lt i s) [
        | inl inside ↦ (let sides = sides_within z i s in
            let count : length path ≡ length sides + 1 = l ∙ ap length (sides_front z i n high inside) ∙ length_push sides false in
            let r = take (length sides) path in
            let e = get_or path (length sides) [] in
            let apart : path ≡ r ++ e ∷ [] = last_apart path (length sides) count in
            let size : length r ≡ length sides = omega (arith, length-take (length sides) path) in
            let below = climb_is_along H z x i s r inside (omega arith) size in
            rw (sides_front z i n high inside)
            (ap (climb_within H (suc z) x i n) apart ∙ climb_front H z x i n r e high inside ∙ ap (λ y. node_hash H y e) below ∙ sym (along_more H x sides r false e size) ∙ ap (climb_along H x (sides ++ false ∷ [])) (sym apart)))
        | inr past ↦ (let sides = sides_within z (i - s) (n - s) in
            let count : length path ≡ length sides + 1 = l ∙ ap length (sides_rest z i n high past) ∙ length_push sides true in
            let r = take (length sides) path in
            let e = get_or path (length sides) [] in
            let apart : path ≡ r ++ e ∷ [] = last_apart path (length sides) count in
            let size : length r ≡ length sides = omega (arith, length-take (length sides) path) in
            let below = climb_is_along H z x (i - s) (n - s) r (omega arith) (omega arith) size in
            rw (sides_rest z i n high past)
            (ap (climb_within H (suc z) x i n) apart ∙ climb_rest H z x i n r e high past ∙ ap (node_hash H e) below ∙ sym (along_more H x sides r true e size) ∙ ap (climb_along H x (sides ++ true ∷ [])) (sym apart)))
      ]
      | inr low ↦ rw (climb_low H z x i n path low, sides_low z i n low) (climb_is_along H z x i n path h low (l ∙ ap length (sides_low z i n low)))
    ]
