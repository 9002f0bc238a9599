-- The head of a batch: what is signed, and the signature. Who verified it once checks each message
-- by its path alone.
use Rattle.std.specs.Prelude.{◌≡◌, ◌≢◌, ℕ, ◌+◌, ◌^◌, ◌==◌, ◌&&◌, List, [], ◌++◌, length, take, drop}
use Rattle.std.specs.Prelude.{Bool, true, nat_le}
use Rattle.std.specs.List.{concat}
use Rattle.slh_core.specs.Bytes.{big_endian, number_of, part}
use Rattle.slh_core.specs.Parameters.{Scheme}
use Rattle.slh_trees.specs.Checking.{signature_size}
use Rattle.slh_dsa.specs.Calls.{is_valid}
use Rattle.slh_frames.specs.declared.frame.Mode.TheVariants.{Pure}
use Rattle.slh_batch.specs.Receipts.{batch_context, batch_message, root_message}
use Rattle.slh_batch.specs.Tree.{batch_climb, batch_leaf}

-- the head of a batch, for the digests q of all messages and the batch's signature
abbrev pub head_of : List (List ℕ) → List ℕ → List ℕ
head_of q sig = batch_message q ++ sig

-- how many messages a head is for, their root, and the signature of both
abbrev pub head_count : List ℕ → ℕ
head_count bytes = number_of (part 4 bytes 0)

abbrev pub head_root : List ℕ → List ℕ
head_root bytes = take 32 (drop 4 bytes)

abbrev pub head_sig : List ℕ → List ℕ
head_sig bytes = drop 36 bytes

-- There are 1 to 2^20 messages, and as many bytes as the number, the root and a signature have.
abbrev pub has_head_form : Scheme → List ℕ → Bool
has_head_form Z bytes =
    nat_le 1 (head_count bytes) && nat_le (head_count bytes) (2 ^ 20)
    && length bytes == 36 + signature_size Z

-- what a head says
pub record BatchHead : Type 0 where
  pub count : ℕ
  pub root : List ℕ
  pub signature : List ℕ

abbrev pub head_in : List ℕ → BatchHead
head_in bytes =
    record { count = head_count bytes; root = head_root bytes; signature = head_sig bytes }

-- the same without a signature
abbrev pub unsigned_head : ℕ → List ℕ → BatchHead
unsigned_head count root = record { count = count; root = root; signature = [] }

-- the receipt of message i of a head's by a path
abbrev pub receipt_under : BatchHead → ℕ → List (List ℕ) → List ℕ
receipt_under head i path =
    big_endian i 4 ++ big_endian head.count 4 ++ concat path ++ head.signature

-- whether its signature is the key's for a root of so many messages
abbrev pub is_signed_root : Scheme → List ℕ → BatchHead → List ℕ → Bool
is_signed_root Z key head root =
    is_valid Z Pure key batch_context (root_message head.count root) head.signature

-- the root that a path leads to from message i of a head's, which is m
abbrev pub root_under : BatchHead → List ℕ → ℕ → List (List ℕ) → List ℕ
root_under head m i path = batch_climb (batch_leaf m) i head.count path

-- the signature of a head is the key's for this root, which isn't the head's, too
pub record IsOfAnotherRoot (Z : Scheme) (key : List ℕ) (head : BatchHead) (root : List ℕ)
    : Type 0 where
  pub other : root ≢ head.root
  pub signed : is_signed_root Z key head root ≡ true
