-- What the first of a list says of the others, and that each place stands in the list.
use Rattle.std.proofs.Common.{◌≡◌, ◌⊎◌, inl, inr, ℕ, zero, suc, ◌+◌, ◌-◌, ◌<◌, ◌≤◌, Bool, true, false, arith, refl, ◌∙◌, ap, sym, subst}
use Rattle.std.proofs.Common.{List, [], ◌∷◌, ◌++◌, length, Option, None, Some}
use Rattle.std.proofs.lemmas.Bool.{cases_lt, false≢true}
use Rattle.std.proofs.lemmas.Option.{none-some}
use Rattle.std.proofs.lemmas.List.Elements.{Contains-append_left, Contains-append_right}
use Rattle.std.specs.List.{find, Contains}
use Rattle.std.specs.Prelude.{unwrap_or, slice_index_or}
use Rattle.slh_audit.specs.Evidence.{shows}
use Rattle.slh_audit.specs.Places.{IsFirst, all_layers_places, chain_places, first_evidence, forest_places, fors_tree_places, in_turn, layer_places, places, tree_node_places}
use Rattle.slh_audit.specs.declared.evidence.Evidence.{Evidence}
use Rattle.slh_audit.specs.declared.evidence.Evidence.TheVariants.{ForsNode, ForsRoots, ChainStep, Leaf, TreeNode, Early}
use Rattle.slh_audit.proofs.Meaning.{ChainStepShows, Dispute, IsShown, shows_means}
use Rattle.slh_core.specs.Parameters.{chain_count}

pub two : (b : Bool) → (b ≡ true) ⊎ (b ≡ false)
two true = inl refl
two false = inr refl

some_or_none : (r : Option Evidence) → ((e : Evidence) × (r ≡ Some e)) ⊎ (r ≡ None)
some_or_none None = inr refl
some_or_none (Some e) = inl (e, refl)

module _ (test : Evidence → Bool) where
  pub found_passes : (xs : List Evidence) (e : Evidence) → find test xs ≡ Some e → test e ≡ true
  found_passes [] e h = absurd (none-some e h)
  found_passes (x ∷ xs) e h =
      elim (two (test x)) [
        | inl holds ↦ (let same : x ≡ e = ap (λ o. unwrap_or o e) (rw holds at h) in subst (λ f. test f ≡ true) same holds)
        | inr fails ↦ found_passes xs e (rw fails at h)
      ]

  pub none_found : (xs : List Evidence) → ((e : Evidence) → test e ≡ false) → find test xs ≡ None
  none_found xs fails =
      elim (some_or_none (find test xs)) [
        | inl found ↦ absurd (false≢true (sym (fails found.0) ∙ found_passes xs found.0 found.1))
        | inr none ↦ none
      ]

  cons_at : (x : Evidence) (xs : List Evidence) → test x ≡ false → ((f : Evidence) → Contains xs f → test f ≡ false)
      → (f : Evidence) (k : ℕ) → k < length (x ∷ xs) → slice_index_or (x ∷ xs) k f ≡ f → test f ≡ false
  cons_at x xs fails rest f zero below same = subst (λ e. test e ≡ false) same fails
  cons_at x xs fails rest f (suc k) below same = rest f (k, omega (arith, below), same)

  cons_fails : (x : Evidence) (xs : List Evidence) → test x ≡ false → ((f : Evidence) → Contains xs f → test f ≡ false)
      → (f : Evidence) → Contains (x ∷ xs) f → test f ≡ false
  cons_fails x xs fails rest f has = cons_at x xs fails rest f has.0 has.1 has.2

  pub none_passes : (xs : List Evidence) → find test xs ≡ None → (f : Evidence) → Contains xs f → test f ≡ false
  none_passes [] h = λ f has. absurd (omega (arith, has.1))
  none_passes (x ∷ xs) h =
      elim (two (test x)) [
        | inl holds ↦ absurd (none-some x (sym (rw holds at h)))
        | inr fails ↦ cons_fails x xs fails (none_passes xs (rw fails at h))
      ]

  pub found_in : (xs : List Evidence) (e : Evidence) → Contains xs e → test e ≡ true → (f : Evidence) × (find test xs ≡ Some f)
  found_in xs e has holds =
      elim (some_or_none (find test xs)) [
        | inl found ↦ found
        | inr none ↦ absurd (false≢true (sym (none_passes xs none e has) ∙ holds))
      ]

  pub cut_at : (xs : List Evidence) (e : Evidence) → find test xs ≡ Some e
      → (before : List Evidence) × (after : List Evidence) × (xs ≡ before ++ e ∷ after) × ((f : Evidence) → Contains before f → test f ≡ false)
  cut_at [] e h = absurd (none-some e h)
  cut_at (x ∷ xs) e h =
      elim (two (test x)) [
        | inl holds ↦ (let same : x ≡ e = ap (λ o. unwrap_or o e) (rw holds at h) in
            ([], xs, ap (λ f. f ∷ xs) same, λ f has. absurd (omega (arith, has.1))))
        | inr fails ↦ (let rest = cut_at xs e (rw fails at h) in
            (x ∷ rest.0, rest.1, ap (λ ys. x ∷ ys) rest.2, cons_fails x rest.0 fails rest.3))
      ]

pub is_first : (D : Dispute) (e : Evidence) → first_evidence D ≡ Some e → IsFirst D e
is_first D e h =
    let cut = cut_at (shows D) (places D) e h in
    record {
      shown = found_passes (shows D) (places D) e h;
      before = cut.0;
      after = cut.1;
      place = cut.2;
      none_before = cut.3;
    }

one_has : (e : Evidence) → Contains (e ∷ []) e
one_has e = (0, omega arith, refl)

head_has : (e : Evidence) (xs : List Evidence) → Contains (e ∷ xs) e
head_has e xs = (0, omega arith, refl)

tail_has : (x : Evidence) (xs : List Evidence) (e : Evidence) → Contains xs e → Contains (x ∷ xs) e
tail_has x xs e has = Contains-append_right (x ∷ []) xs e has

turn_has : (f : ℕ → List Evidence) (k i : ℕ) (e : Evidence) → i < k → Contains (f i) e → Contains (in_turn f k) e
unfolding in_turn
turn_has f zero i e below has = absurd (omega arith)
turn_has f (suc k) i e below has =
    elim (cases_lt i k) [
      | inl before ↦ Contains-append_left (in_turn f k) (f k) e (turn_has f k i e before has)
      | inr past ↦ (let last : i ≡ k = omega arith in Contains-append_right (in_turn f k) (f k) e (rw last at has))
    ]

layer_has : (D : Dispute) (j : ℕ) (e : Evidence) → j < D.d → Contains (layer_places D.hp (chain_count D.K.n) j) e → Contains (places D) e
layer_has D j e below has =
    let same : j ≡ D.d - 1 - (D.d - 1 - j) = omega arith in
    Contains-append_left (all_layers_places D) (forest_places D.a D.k) e
    (turn_has (λ down. layer_places D.hp (chain_count D.K.n) (D.d - 1 - down)) D.d (D.d - 1 - j) e (omega arith) (rw same at has))

forest_has : (D : Dispute) (e : Evidence) → Contains (forest_places D.a D.k) e → Contains (places D) e
forest_has D e has = Contains-append_right (all_layers_places D) (forest_places D.a D.k) e has

chain_has : (D : Dispute) (j c : ℕ) (e : Evidence) → j < D.d → c < chain_count D.K.n → Contains (chain_places j c) e → Contains (places D) e
chain_has D j c e below count has =
    layer_has D j e below (Contains-append_right (tree_node_places D.hp j) _ e
    (tail_has (Leaf j) _ e (turn_has (chain_places j) (chain_count D.K.n) c e count has)))

fors_node_has : (D : Dispute) (i z : ℕ) → i < D.k → z ≤ D.a → Contains (places D) (ForsNode i z)
fors_node_has D i z below high =
    let same : z ≡ D.a - (D.a - z) = omega arith in
    let one : Contains (ForsNode i (D.a - (D.a - z)) ∷ []) (ForsNode i z) = rw (← same) (one_has (ForsNode i z)) in
    forest_has D (ForsNode i z) (tail_has ForsRoots _ (ForsNode i z)
    (turn_has (fors_tree_places D.a) D.k i (ForsNode i z) below
    (turn_has (λ down. ForsNode i (D.a - down) ∷ []) (D.a + 1) (D.a - z) (ForsNode i z) (omega arith) one)))

-- whatever shows stands in the order
pub shown_has : (D : Dispute) (e : Evidence) → IsShown D e → Contains (places D) e
unfolding IsShown ChainStepShows
shown_has D (TreeNode j z) shown =
    let low : 1 ≤ z = shown.0 in
    let high : z ≤ D.hp = shown.1 in
    let same : z ≡ D.hp - (D.hp - z) = omega arith in
    let one : Contains (TreeNode j (D.hp - (D.hp - z)) ∷ []) (TreeNode j z) = rw (← same) (one_has (TreeNode j z)) in
    layer_has D j (TreeNode j z) shown.2.0 (Contains-append_left (tree_node_places D.hp j) _ (TreeNode j z)
    (turn_has (λ down. TreeNode j (D.hp - down) ∷ []) D.hp (D.hp - z) (TreeNode j z) (omega arith) one))
shown_has D (Leaf j) shown =
    layer_has D j (Leaf j) shown.0 (Contains-append_right (tree_node_places D.hp j) _ (Leaf j) (head_has (Leaf j) _))
shown_has D (ChainStep j c q) shown =
    let high : q ≤ 14 = shown.1.1.1 in
    let same : q ≡ 14 - (14 - q) = omega arith in
    let one : Contains (ChainStep j c (14 - (14 - q)) ∷ []) (ChainStep j c q) = rw (← same) (one_has (ChainStep j c q)) in
    chain_has D j c (ChainStep j c q) shown.1.0 shown.0
    (Contains-append_left _ (Early j c ∷ []) (ChainStep j c q)
    (turn_has (λ down. ChainStep j c (14 - down) ∷ []) 15 (14 - q) (ChainStep j c q) (omega arith) one))
shown_has D (Early j c) shown =
    chain_has D j c (Early j c) shown.1.0 shown.0 (Contains-append_right _ (Early j c ∷ []) (Early j c) (one_has (Early j c)))
shown_has D ForsRoots shown = forest_has D ForsRoots (head_has ForsRoots _)
shown_has D (ForsNode i zero) shown = fors_node_has D i zero shown.0 (omega arith)
shown_has D (ForsNode i (suc z)) shown = fors_node_has D i (suc z) shown.0 shown.1

-- where anything shows, the search finds
pub shown_found : (D : Dispute) (e : Evidence) → IsShown D e → (f : Evidence) × (first_evidence D ≡ Some f)
shown_found D e shown =
    found_in (shows D) (places D) e (shown_has D e shown) ((shows_means D e).1 shown)
