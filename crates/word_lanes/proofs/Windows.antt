-- Sixteen words of a schedule at a time.
use Rattle.std.proofs.Common.{◌≡◌, ℕ, ◌+◌, ◌-◌, ◌<◌, ◌≤◌, List, [], ◌∷◌, ◌++◌, length, take, drop}
use Rattle.std.proofs.Common.{slice_index, ap, refl, sym, ◌∙◌, arith}
use Rattle.std.proofs.lemmas.List.{take_more, drop-take, drop-drop, get_or-take, get_or-drop}
use Rattle.std.proofs.lemmas.List.{length-take-le, length-drop}
use Rattle.std.proofs.lemmas.Grind.{same_number_lists}

-- the sixteen words from t on
abbrev pub window_from : List ℕ → ℕ → List ℕ
window_from s t = take 16 (drop t s)

-- the word that follows sixteen others, from those 16, 15, 7 and 2 places before it
abbrev pub later_in : (ℕ → ℕ → ℕ → ℕ → ℕ) → List ℕ → ℕ
later_in next w = next (slice_index w 0) (slice_index w 1) (slice_index w 9) (slice_index w 14)

slice_index-window_from : (s : List ℕ) (t k : ℕ) → k < 16
    → slice_index (window_from s t) k ≡ slice_index s (t + k)
slice_index-window_from s t k low = get_or-take 16 (drop t s) k 0 low ∙ get_or-drop t s k 0

-- the first sixteen words
pub window_first : (s w : List ℕ) → 16 ≤ length s → length w ≡ 16
    → ((k : ℕ) → k < 16 → slice_index w k ≡ slice_index s k) → w ≡ window_from s 0
window_first s w long sixteen same =
    let all : 16 ≤ length (drop 0 s) = omega (arith, length-drop 0 s) in
    let count : length (window_from s 0) ≡ 16 = length-take-le 16 (drop 0 s) all in
    same_number_lists w (window_from s 0) (sixteen ∙ sym count) (λ k low.
    let within : k < 16 = omega arith in
    let place : 0 + k ≡ k = omega arith in
    same k within ∙ sym (slice_index-window_from s 0 k within ∙ ap (slice_index s) place))

module _ (s w : List ℕ) (t : ℕ) (is : w ≡ window_from s t) where
  -- word k of the sixteen
  pub window_at : (k : ℕ) → k < 16 → slice_index w k ≡ slice_index s (t + k)
  window_at k low = ap (λ u. slice_index u k) is ∙ slice_index-window_from s t k low

  moved : t + 16 < length s → window_from s (t + 1) ≡ drop 1 w ++ slice_index s (t + 16) ∷ []
  moved within =
      let rest : drop 1 (window_from s t) ≡ take 15 (drop (t + 1) s) =
      drop-take 1 15 (drop t s) ∙ ap (take 15) (drop-drop 1 t s) in
      let place : t + 1 + 15 ≡ t + 16 = omega arith in
      let last : slice_index (drop (t + 1) s) 15 ≡ slice_index s (t + 16) =
      get_or-drop (t + 1) s 15 0 ∙ ap (slice_index s) place in
      take_more (drop (t + 1) s) 15 0 (omega (arith, length-drop (t + 1) s))
      ∙ rw (is, rest, last) refl

  -- the sixteen words one on, where `next` gives each word of the schedule from those before it
  pub window_next : (next : ℕ → ℕ → ℕ → ℕ → ℕ) (next_w : List ℕ) → t + 16 < length s
      → (let at : ℕ → ℕ = λ k. slice_index s (t + 16 - k) in
      slice_index s (t + 16) ≡ next (at 16) (at 15) (at 7) (at 2))
      → next_w ≡ drop 1 w ++ later_in next w ∷ [] → next_w ≡ window_from s (t + 1)
  window_next next next_w within follows slid =
      let p2 : t + 16 - 2 ≡ t + 14 = omega arith in
      let p7 : t + 16 - 7 ≡ t + 9 = omega arith in
      let p15 : t + 16 - 15 ≡ t + 1 = omega arith in
      let p16 : t + 16 - 16 ≡ t + 0 = omega arith in
      let later : later_in next w ≡ slice_index s (t + 16) =
      rw (
        window_at 14 (omega arith),
        window_at 9 (omega arith),
        window_at 1 (omega arith),
        window_at 0 (omega arith),
        follows,
        p2,
        p7,
        p15,
        p16,
      ) refl in
      slid ∙ ap (λ x. drop 1 w ++ x ∷ []) later ∙ sym (moved within)
