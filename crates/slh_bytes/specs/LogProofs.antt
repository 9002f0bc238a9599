-- The text of a proof (C2SP, tlog-proof; of growth, the request of tlog-witness to add a
-- checkpoint).
use Rattle.std.specs.Prelude.{◌≡◌, ℕ, ◌^◌, ◌<◌, ◌≤◌, List, [], ◌∷◌, ◌++◌, length, codes, decimal}
use Rattle.std.specs.List.{All, flat_map}
use Rattle.base64.specs.GeneralPurpose.{IsBytes}
use Rattle.slh_log.specs.Texts.{base64_of}
use Rattle.slh_bytes.specs.declared.log_proofs.Purpose.{Purpose}
use Rattle.slh_bytes.specs.declared.log_proofs.Purpose.TheVariants.{Presence, Growth}

-- what stands before the number. 10 is a line feed
abbrev pub front_of : Purpose → List ℕ
front_of Presence = codes "c2sp.org/tlog-proof@v1" ++ 10 ∷ codes "index "
front_of Growth = codes "old "

-- a line for each digest
abbrev pub digest_line : List ℕ → List ℕ
digest_line digest = base64_of digest ++ 10 ∷ []

abbrev pub digest_lines : List (List ℕ) → List ℕ
digest_lines digests = flat_map digest_line digests

-- what it shows and of which number, the digests, an empty line, and the checkpoint
abbrev pub proof_text : Purpose → ℕ → List (List ℕ) → List ℕ → List ℕ
proof_text purpose number digests checkpoint =
    front_of purpose ++ (decimal number ++ 10 ∷ (digest_lines digests ++ 10 ∷ checkpoint))

-- at most 64 digests of 32 bytes
pub record AreDigests (digests : List (List ℕ)) : Type 0 where
  pub few : length digests ≤ 64
  pub sizes : All (λ digest. length digest ≡ 32) digests
  pub bytes : All IsBytes digests

-- bytes are the text of a proof that has these parts
pub record IsProofText (purpose : Purpose) (bytes : List ℕ) (number : ℕ)
    (digests : List (List ℕ)) (checkpoint : List ℕ) : Type 0 where
  pub low : number < 2 ^ 64
  pub digests_are : AreDigests digests
  pub text : bytes ≡ proof_text purpose number digests checkpoint
