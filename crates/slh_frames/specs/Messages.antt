-- What is signed of a message, or of its digest, as three byte strings, and why there is no such
-- message.
use Rattle.std.specs.Prelude.{◌≡◌, ℕ, ◌^◌, ◌≤◌, List, [], ◌∷◌, ◌++◌, length, Option, Some}
use Rattle.slh_core.specs.Refusals.{context_refusal, first_refusal, length_refusal}
use Rattle.slh_core.specs.Refusals.{message_refusal}
use Rattle.slh_frames.specs.Frames.{Framed, head_of, sha256_identifier, sha512_identifier, tail_of}
use Rattle.slh_frames.specs.declared.message.Content.{Content}
use Rattle.slh_frames.specs.declared.message.Content.TheVariants.{Whole, Digest}
use Rattle.slh_frames.specs.declared.message.MessageError.{MessageError}
use Rattle.slh_frames.specs.declared.message.MessageError.TheVariants.{Length, ContextTooLong}
use Rattle.slh_frames.specs.declared.message.MessageError.TheVariants.{MessageTooLong}
use Rattle.slh_frames.specs.declared.frame.Mode.{Mode}
use Rattle.slh_frames.specs.declared.frame.Mode.TheVariants.{Pure, Sha256, Sha512}

-- what is signed after the context where a digest is given
abbrev pub digest_tail : Mode → List ℕ → List ℕ
digest_tail Pure digest = []
digest_tail Sha256 digest = sha256_identifier ++ digest
digest_tail Sha512 digest = sha512_identifier ++ digest

-- what is signed after the context
abbrev pub content_tail : Mode → Content → List ℕ → List ℕ
content_tail mode Whole bytes = tail_of mode bytes
content_tail mode Digest bytes = digest_tail mode bytes

-- a digest has the bytes of the mode's hash function
abbrev pub HasDigestSize : Mode → ℕ → Type 0
HasDigestSize Pure len = ⊥
HasDigestSize Sha256 len = len ≡ 32
HasDigestSize Sha512 len = len ≡ 64

-- the sizes that a message, or its digest, has
abbrev pub HoldsContent : Mode → Content → List ℕ → Type 0
HoldsContent mode Whole bytes = length bytes ≤ 2 ^ 60
HoldsContent mode Digest bytes = HasDigestSize mode (length bytes)

-- what is signed, for a context of at most 255 bytes
abbrev pub framed_content : Mode → Content → List ℕ → List ℕ → Framed
framed_content mode content context bytes = record {
  head = head_of mode context;
  ctx = context;
  tail = content_tail mode content bytes;
}

-- the same of a message itself, and of a digest of one
abbrev pub whole_message : Mode → List ℕ → List ℕ → Framed
whole_message mode context message = framed_content mode Whole context message

abbrev pub digest_message : Mode → List ℕ → List ℕ → Framed
digest_message mode context digest = framed_content mode Digest context digest

-- what is signed as one byte string
abbrev pub joined : Framed → List ℕ
joined framed = framed.head ++ framed.ctx ++ framed.tail

-- a digest has the bytes of its hash function; the mode Pure has no digest
abbrev pub digest_size_refusal : {E : Type 0} → E → Mode → ℕ → Option E
digest_size_refusal refusal Pure len = Some refusal
digest_size_refusal refusal Sha256 len = length_refusal refusal 32 len
digest_size_refusal refusal Sha512 len = length_refusal refusal 64 len

-- why there is no message with a context
abbrev pub whole_message_refusal : List ℕ → List ℕ → Option MessageError
whole_message_refusal context message = first_refusal
    (context_refusal ContextTooLong context ∷ message_refusal MessageTooLong message ∷ [])

-- why there is none of a digest
abbrev pub digest_message_refusal : Mode → List ℕ → List ℕ → Option MessageError
digest_message_refusal mode context digest = first_refusal
    (digest_size_refusal Length mode (length digest) ∷ context_refusal ContextTooLong context ∷ [])
