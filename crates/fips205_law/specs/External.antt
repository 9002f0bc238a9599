-- SLH-DSA, external functions (FIPS 205, section 10). What is drawn at random is an argument, and
-- None stands for ⊥, or for what couldn't be drawn.
use Rattle.std.specs.Prelude.{ℕ, ◌≤◌, nat_lt, if◌then◌else◌, List, ◌++◌, length, Option, None, Some}
use Rattle.fips205_law.specs.Bytes.{toByte}
use Rattle.fips205_law.specs.Parameters.{Instance}
use Rattle.fips205_law.specs.Slh.{SecretKey, PublicKey, KeyPair, pure_message}
use Rattle.fips205_law.specs.Slh.{slh_keygen_internal, slh_sign_internal, slh_verify_internal}

-- Algorithm 21, slh_keygen: lines 1 to 3, which draw the seeds, are arguments; lines 4 to 6 are
-- None, and line 7 is the last case
abbrev pub slh_keygen : Instance → Option (List ℕ) → Option (List ℕ) → Option (List ℕ)
    → Option KeyPair
slh_keygen P None SKprf PKseed = None
slh_keygen P (Some SKseed) None PKseed = None
slh_keygen P (Some SKseed) (Some SKprf) None = None
slh_keygen P (Some SKseed) (Some SKprf) (Some PKseed) =
    Some (slh_keygen_internal P SKseed SKprf PKseed)

-- Algorithm 22, slh_sign: lines 1 to 3 are None; lines 4 to 7, which draw addrnd, are an argument,
-- and the deterministic variant has none
abbrev pub slh_sign : Instance → List ℕ → List ℕ → SecretKey → Option (List ℕ) → Option (List ℕ)
slh_sign P M ctx SK addrnd =
    if nat_lt 255 (length ctx) then None
    else Some (slh_sign_internal P (pure_message ctx M) SK addrnd)

-- Algorithm 24, slh_verify: that it returns true, lines 1 to 5
abbrev pub slh_verify : Instance → List ℕ → List ℕ → List ℕ → PublicKey → Type 0
slh_verify P M SIG ctx PK = (length ctx ≤ 255) × slh_verify_internal P (pure_message ctx M) SIG PK

-- a function PH with its identifier, of those that algorithms 23 and 25 name
pub record PreHash : Type 0 where
  pub OID : List ℕ
  pub hash : List ℕ → List ℕ

-- Algorithm 23, line 10
unfoldable pub sha256_oid : List ℕ
sha256_oid = toByte 0x0609608648016503040201 11

-- Algorithm 23, line 13
unfoldable pub sha512_oid : List ℕ
sha512_oid = toByte 0x0609608648016503040203 11

-- Algorithm 23, line 24, of what lines 8 to 23 pick by PH, and the same line of algorithm 25
unfoldable pub hash_message : PreHash → List ℕ → List ℕ → List ℕ
hash_message PH ctx M = toByte 1 1 ++ toByte (length ctx) 1 ++ ctx ++ PH.OID ++ PH.hash M

-- Algorithm 23, hash_slh_sign: lines 1 to 7 are those of algorithm 22, the rest lines 8 to 26
abbrev pub hash_slh_sign : Instance → List ℕ → List ℕ → PreHash → SecretKey → Option (List ℕ)
    → Option (List ℕ)
hash_slh_sign P M ctx PH SK addrnd =
    if nat_lt 255 (length ctx) then None
    else Some (slh_sign_internal P (hash_message PH ctx M) SK addrnd)

-- Algorithm 25, hash_slh_verify: that it returns true
abbrev pub hash_slh_verify : Instance → List ℕ → List ℕ → List ℕ → PreHash → PublicKey → Type 0
hash_slh_verify P M SIG ctx PH PK = (length ctx ≤ 255)
    × slh_verify_internal P (hash_message PH ctx M) SIG PK
