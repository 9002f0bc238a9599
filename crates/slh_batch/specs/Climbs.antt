-- What receipts hash on their ways up, height by height: that of the leaf is 0.
use Rattle.std.specs.Prelude.{◌≡◌, ◌≢◌, ℕ, ◌<◌, List, [], Bool, false, length, slice_index_or}
use Rattle.sha256_lanes.specs.Sha256.{sha256}
use Rattle.slh_batch.specs.Receipts.{climbed_inputs, receipt_count, receipt_index, receipt_path}
use Rattle.slh_batch.specs.Tree.{batch_sides}

-- what is hashed at a height on the way up by a receipt, for a message m
abbrev pub input_at : List ℕ → List ℕ → ℕ → List ℕ
input_at m r h = slice_index_or (climbed_inputs m r) h []

-- the sibling of the node at a height, and whether it is on the left
abbrev pub sibling_at : List ℕ → ℕ → List ℕ
sibling_at r h = slice_index_or (receipt_path r) h []

abbrev pub is_left_at : List ℕ → ℕ → Bool
is_left_at r h = slice_index_or (batch_sides (receipt_index r) (receipt_count r)) h false

-- at height h of both ways, two different inputs have one digest
pub record ClashesAt (m a o b : List ℕ) (h : ℕ) : Type 0 where
  pub first_has : h < length (climbed_inputs m a)
  pub second_has : h < length (climbed_inputs o b)
  pub differ : input_at m a h ≢ input_at o b h
  pub digest : sha256 (input_at m a h) ≡ sha256 (input_at o b h)

-- they do so at height h, and at none below
pub record IsFirstClash (m a o b : List ℕ) (h : ℕ) : Type 0 where
  pub here : ClashesAt m a o b h
  pub none_below : (k : ℕ) → k < h → ClashesAt m a o b k → ⊥
