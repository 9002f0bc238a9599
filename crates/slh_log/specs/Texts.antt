-- A checkpoint: the text of a log's size and root under its origin, and a line with its signature
-- (C2SP, tlog-checkpoint and signed-note). A set is seen as its name.
use Rattle.std.specs.Prelude.{ℕ, ◌*◌, List, [], ◌∷◌, ◌++◌, take, drop, codes, decimal, Option}
use Rattle.base64.specs.Engines.{standard}
use Rattle.base64.specs.GeneralPurpose.{encode_of}
use Rattle.sha256_lanes.specs.Sha256.{sha256}
use Rattle.slh_core.specs.Parameters.{Scheme}
use Rattle.slh_frames.specs.Frames.{frame}
use Rattle.slh_trees.specs.Signing.{signature_of}

-- the context that texts are signed with
abbrev pub log_context : List ℕ
log_context = codes "slh-log"

-- base64 with padding (RFC 4648, section 4)
abbrev pub base64_of : List ℕ → List ℕ
base64_of bytes = encode_of standard bytes

-- the origin, the size and the root, a line each. 10 is a line feed
abbrev pub checkpoint_text : List ℕ → ℕ → List ℕ → List ℕ
checkpoint_text origin size root =
    origin ++ 10 ∷ (decimal size ++ 10 ∷ (base64_of root ++ 10 ∷ []))

-- what a line of a signature begins with: an em dash (U+2014) in UTF-8, and a space
abbrev pub dash : List ℕ
dash = 226 ∷ 128 ∷ 148 ∷ 32 ∷ []

-- what is hashed for the id of a key with a name: 255 says that the kind of key is named
abbrev pub key_input : List ℕ → List ℕ → List ℕ → List ℕ
key_input name set key = name ++ 10 ∷ 255 ∷ (set ++ 10 ∷ key)

-- the id of a verifying key with a name
abbrev pub key_id : List ℕ → List ℕ → List ℕ → List ℕ
key_id name set key = take 4 (sha256 (key_input name set key))

-- the line of a signature by a key with a name and an id
abbrev pub signature_line : List ℕ → List ℕ → List ℕ → List ℕ
signature_line name id sig = dash ++ (name ++ 32 ∷ (base64_of (id ++ sig) ++ 10 ∷ []))

-- a text, an empty line, and the line of a signature
abbrev pub signed_note : List ℕ → List ℕ → List ℕ → List ℕ → List ℕ
signed_note text name id sig = text ++ 10 ∷ signature_line name id sig

-- the signature of a text that a signing key makes
abbrev pub text_signature : Scheme → List ℕ → Option (List ℕ) → List ℕ → List ℕ
text_signature Z key opt_rand text = signature_of Z key opt_rand (frame log_context text)

-- the checkpoint that a signing key of a set makes
abbrev pub signed_checkpoint : Scheme → List ℕ → List ℕ → Option (List ℕ) → List ℕ → ℕ → List ℕ
    → List ℕ
signed_checkpoint Z set key opt_rand origin size root =
    let text = checkpoint_text origin size root in
    signed_note text origin (key_id origin set (drop (2 * Z.n) key))
    (text_signature Z key opt_rand text)
