-- What receipts hash on their ways up, and where two of them clash.
use Rattle.std.proofs.Common.{◌≡◌, ℕ, ◌+◌, ◌<◌, List, ◌∷◌, length, drop, true, Some, None, refl, ◌∙◌, arith, inl, inr}
use Rattle.std.proofs.lemmas.Bool.{cases_Bool}
use Rattle.merkle_tree.specs.Climb.{node_input}
use Rattle.sha256_lanes.specs.Sha256.{sha256}
use Rattle.slh_core.specs.Parameters.{Scheme}
use Rattle.slh_batch.proofs.Chains.{last_input, length-inputs, next_input}
use Rattle.slh_batch.proofs.Cuts.{length-digests}
use Rattle.slh_batch.proofs.Places.{At, First, is_first, no_place, none_at, place_of}
use Rattle.slh_batch.proofs.Reached.{climbed}
use Rattle.slh_batch.specs.Calls.{are_comparable, clash_height}
use Rattle.slh_batch.specs.Climbs.{ClashesAt, IsFirstClash, input_at, is_left_at, sibling_at}
use Rattle.slh_batch.specs.Receipts.{climbed_inputs, climbed_root, has_right_form, receipt_count, receipt_index, receipt_path, receipt_path_len}
use Rattle.slh_batch.specs.Tree.{batch_leaf, batch_sides}

-- as many digests as the place asks
path_fits : (r : List ℕ) → length (receipt_path r) ≡ length (batch_sides (receipt_index r) (receipt_count r))
path_fits r = length-digests (receipt_path_len r) (drop 8 r)

pub climb_len : (m r : List ℕ) → length (climbed_inputs m r) ≡ receipt_path_len r + 1
climb_len m r = omega (arith, length-inputs sha256 (batch_leaf m) (batch_sides (receipt_index r) (receipt_count r)) (receipt_path r) (path_fits r))

pub climb_above : (m r : List ℕ) (h : ℕ) → h < receipt_path_len r
    → input_at m r (h + 1) ≡ node_input (is_left_at r h) (sha256 (input_at m r h)) (sibling_at r h)
climb_above m r h below =
    next_input sha256 (0 ∷ m) (batch_sides (receipt_index r) (receipt_count r)) (receipt_path r) h (path_fits r) below

pub climb_root : (Z : Scheme) (m r : List ℕ) → has_right_form Z r ≡ true → climbed_root m r ≡ sha256 (input_at m r (receipt_path_len r))
climb_root Z m r form =
    climbed Z m r form ∙ last_input sha256 (0 ∷ m) (batch_sides (receipt_index r) (receipt_count r)) (receipt_path r) (path_fits r)

-- the places of two lists of inputs are heights
at_height : (m a o b : List ℕ) (h : ℕ) → At sha256 (climbed_inputs m a) (climbed_inputs o b) h → ClashesAt m a o b h
at_height m a o b h here = record { first_has = here.first_has; second_has = here.second_has; differ = here.differ; digest = here.digest }

at_place : (m a o b : List ℕ) (h : ℕ) → ClashesAt m a o b h → At sha256 (climbed_inputs m a) (climbed_inputs o b) h
at_place m a o b h here = record { first_has = here.first_has; second_has = here.second_has; differ = here.differ; digest = here.digest }

first_height : (m a o b : List ℕ) (h : ℕ) → First sha256 (climbed_inputs m a) (climbed_inputs o b) h → IsFirstClash m a o b h
first_height m a o b h first = record { here = at_height m a o b h first.here; none_below = λ k below here. first.none_below k below (at_place m a o b k here) }

first_place : (m a o b : List ℕ) (h : ℕ) → IsFirstClash m a o b h → First sha256 (climbed_inputs m a) (climbed_inputs o b) h
first_place m a o b h first = record { here = at_place m a o b h first.here; none_below = λ k below here. first.none_below k below (at_height m a o b k here) }

pub first_of : (Z : Scheme) (m a o b : List ℕ) (h : ℕ) → clash_height Z m a o b ≡ Some h → (are_comparable Z m a o b ≡ true) × IsFirstClash m a o b h
first_of Z m a o b h is = elim (cases_Bool (are_comparable Z m a o b)) [
  | inl same_place ↦ (same_place, first_height m a o b h (is_first sha256 (climbed_inputs m a) (climbed_inputs o b) h (rw same_place at is)))
  | inr apart ↦ absurd (cc (rw apart at is))
]

pub height_of : (Z : Scheme) (m a o b : List ℕ) (h : ℕ) → are_comparable Z m a o b ≡ true → IsFirstClash m a o b h → clash_height Z m a o b ≡ Some h
height_of Z m a o b h same_place first = rw same_place (place_of sha256 (climbed_inputs m a) (climbed_inputs o b) h (first_place m a o b h first))

pub nowhere : (Z : Scheme) (m a o b : List ℕ) → clash_height Z m a o b ≡ None → are_comparable Z m a o b ≡ true → (h : ℕ) → ClashesAt m a o b h → ⊥
nowhere Z m a o b is same_place h here = no_place sha256 (climbed_inputs m a) (climbed_inputs o b) h (rw same_place at is) (at_place m a o b h here)

pub none_of : (Z : Scheme) (m a o b : List ℕ) → (are_comparable Z m a o b ≡ true → (h : ℕ) → ClashesAt m a o b h → ⊥) → clash_height Z m a o b ≡ None
none_of Z m a o b at_none = elim (cases_Bool (are_comparable Z m a o b)) [
  | inl same_place ↦ rw same_place (none_at sha256 (climbed_inputs m a) (climbed_inputs o b) (λ h here. at_none same_place h (at_height m a o b h here)))
  | inr apart ↦ rw apart refl
]
