-- Links: a key signs which key may act for it, under which name and how deep. Z is the scheme, of
-- values of n bytes.
use Rattle.std.specs.Prelude.{◌≡◌, ◌==◌, ◌≤◌, ℕ, ◌+◌, ◌*◌, List, [], ◌∷◌, ◌++◌}
use Rattle.std.specs.Prelude.{length, take, drop}
use Rattle.std.specs.Prelude.{Bool, true, ◌&&◌, nat_le, Option, None, Some}
use Rattle.std.specs.Prelude.{if◌then◌else◌, codes, slice_index, slice_range}
use Rattle.slh_core.specs.Parameters.{Scheme}
use Rattle.slh_trees.specs.Checking.{signature_size}
use Rattle.slh_frames.specs.Frames.{frame}
use Rattle.slh_trees.specs.Signing.{signature_of}
use Rattle.slh_core.specs.Refusals.{first_refusal, randomizer_refusal}
use Rattle.slh_chain.specs.declared.error.LinkError.{LinkError}
use Rattle.slh_chain.specs.declared.error.LinkError.TheVariants.{Name, Depth, Randomizer}

-- the context that bodies are signed with
abbrev pub chain_context : List ℕ
chain_context = codes "slh-chain"

-- what a link says of its subject: how deep the subject may go on, its name, and its verifying key
abbrev pub link_body : ℕ → List ℕ → List ℕ → List ℕ
link_body depth name subject = depth ∷ length name ∷ (name ++ subject)

-- the link with that body which a signing key makes
abbrev pub signed_link : Scheme → List ℕ → Option (List ℕ) → List ℕ → List ℕ
signed_link Z key opt_rand body =
    body ++ signature_of Z key opt_rand (frame chain_context body)

-- a name has 1 to 64 bytes
abbrev pub is_name_size : ℕ → Bool
is_name_size size = nat_le 1 size && nat_le size 64

-- why no link is made
abbrev pub name_refusal : List ℕ → Option LinkError
name_refusal name = if is_name_size (length name) then None else Some Name

abbrev pub depth_refusal : ℕ → Option LinkError
depth_refusal depth = if nat_le depth 15 then None else Some Depth

abbrev pub delegate_refusal : Scheme → List ℕ → ℕ → Option (List ℕ) → Option LinkError
delegate_refusal Z name depth opt_rand = first_refusal
    (name_refusal name ∷ depth_refusal depth ∷ randomizer_refusal Randomizer Z.n opt_rand ∷ [])

-- The parts of a link that some bytes begin with, by their places.
abbrev pub link_depth : List ℕ → ℕ
link_depth bytes = slice_index bytes 0

abbrev pub name_size : List ℕ → ℕ
name_size bytes = slice_index bytes 1

-- how many bytes the body has, and the body with its signature
abbrev pub body_size : Scheme → List ℕ → ℕ
body_size Z bytes = 2 + name_size bytes + 2 * Z.n

abbrev pub link_size : Scheme → List ℕ → ℕ
link_size Z bytes = body_size Z bytes + signature_size Z

-- whether bytes begin with a link, of whatever signature
abbrev pub has_form : Scheme → List ℕ → Bool
has_form Z bytes =
    nat_le 2 (length bytes) && nat_le (link_depth bytes) 15 && is_name_size (name_size bytes)
    && nat_le (link_size Z bytes) (length bytes)

abbrev pub link_name : List ℕ → List ℕ
link_name bytes = slice_range bytes 2 (2 + name_size bytes)

abbrev pub link_subject : Scheme → List ℕ → List ℕ
link_subject Z bytes = slice_range bytes (2 + name_size bytes) (body_size Z bytes)

abbrev pub body_of : Scheme → List ℕ → List ℕ
body_of Z bytes = take (body_size Z bytes) bytes

abbrev pub link_signature : Scheme → List ℕ → List ℕ
link_signature Z bytes = slice_range bytes (body_size Z bytes) (link_size Z bytes)

-- what follows the link
abbrev pub after_link : Scheme → List ℕ → List ℕ
after_link Z bytes = drop (link_size Z bytes) bytes

-- bytes begin with the link of these parts
pub record HasLink (Z : Scheme) (depth : ℕ) (name subject sig rest bytes : List ℕ) : Type 0 where
  pub depth_fits : depth ≤ 15
  pub name_low : 1 ≤ length name
  pub name_high : length name ≤ 64
  pub subject_len : length subject ≡ 2 * Z.n
  pub sig_len : length sig ≡ signature_size Z
  pub layout : bytes ≡ link_body depth name subject ++ sig ++ rest

-- what is read where bytes have the form
pub record ReadsLink (Z : Scheme) (depth : ℕ) (name subject sig rest bytes : List ℕ) : Type 0 where
  pub form : has_form Z bytes ≡ true
  pub depth_read : link_depth bytes ≡ depth
  pub name_read : link_name bytes ≡ name
  pub subject_read : link_subject Z bytes ≡ subject
  pub body_read : body_of Z bytes ≡ link_body depth name subject
  pub sig_read : link_signature Z bytes ≡ sig
  pub after : after_link Z bytes ≡ rest
