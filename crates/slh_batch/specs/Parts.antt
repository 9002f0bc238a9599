-- What a receipt of right form is cut into.
use Rattle.std.specs.Prelude.{◌≡◌, ℕ, ◌<◌, List, length}
use Rattle.slh_core.specs.Parameters.{Scheme}
use Rattle.slh_trees.specs.Checking.{signature_size}
use Rattle.slh_batch.specs.Receipts.{receipt_count, receipt_index, receipt_path, receipt_sig}
use Rattle.slh_batch.specs.Tree.{batch_sides}
use Rattle.slh_batch.specs.declared.checking.Place.{Place}
use Rattle.slh_batch.specs.declared.parts.Parts.{Parts}

-- the parts are those of the receipt, for a scheme Z
pub record ArePartsOf (Z : Scheme) (receipt : List ℕ) (parts : Parts) : Type 0 where
  pub index : parts.index ≡ receipt_index receipt
  pub count : parts.count ≡ receipt_count receipt
  pub inside : parts.index < parts.count
  pub path_len : length parts.path.now ≡ length (batch_sides parts.index parts.count)
  pub path : parts.path.now ≡ receipt_path receipt
  pub sig : parts.sig.now ≡ receipt_sig receipt
  pub sig_len : length parts.sig.now ≡ signature_size Z

-- the path and the signature are as long as the place and a scheme Z ask
pub record FitsItsPlace (Z : Scheme) (parts : Parts) : Type 0 where
  pub inside : parts.index < parts.count
  pub path_len : length parts.path.now ≡ length (batch_sides parts.index parts.count)
  pub sig_len : length parts.sig.now ≡ signature_size Z

-- which message of how many it is
abbrev pub place_of : Parts → Place
place_of parts = record { index = parts.index; count = parts.count }
