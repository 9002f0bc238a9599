-- The external functions of each mode that the project has (FIPS 205, section 10.2).
use Rattle.std.specs.Prelude.{ℕ, List, Option}
use Rattle.sha256_lanes.specs.Sha256.{sha256}
use Rattle.sha2.specs.Sha512.{sha512}
use Rattle.slh_core.specs.Bytes.{part}
use Rattle.slh_frames.specs.declared.frame.Mode.{Mode}
use Rattle.slh_frames.specs.declared.frame.Mode.TheVariants.{Pure, Sha256, Sha512}
use Rattle.fips205_law.specs.External.{PreHash, sha256_oid, sha512_oid}
use Rattle.fips205_law.specs.External.{slh_sign, slh_verify, hash_slh_sign, hash_slh_verify}
use Rattle.fips205_law.specs.Law.{public_key_of}
use Rattle.fips205_law.specs.Parameters.{Instance}
use Rattle.fips205_law.specs.Slh.{SecretKey, PublicKey}

-- what algorithm 23 picks for SHA-256 and for SHA-512
abbrev pub sha256_pre_hash : PreHash
sha256_pre_hash = record { OID = sha256_oid; hash = sha256 }

abbrev pub sha512_pre_hash : PreHash
sha512_pre_hash = record { OID = sha512_oid; hash = sha512 }

-- what algorithm 22 gives, or algorithm 23
abbrev pub signed_in : Mode → Instance → List ℕ → List ℕ → SecretKey → Option (List ℕ)
    → Option (List ℕ)
signed_in Pure P M ctx SK addrnd = slh_sign P M ctx SK addrnd
signed_in Sha256 P M ctx SK addrnd = hash_slh_sign P M ctx sha256_pre_hash SK addrnd
signed_in Sha512 P M ctx SK addrnd = hash_slh_sign P M ctx sha512_pre_hash SK addrnd

-- that algorithm 24 returns true, or algorithm 25
abbrev pub accepted_in : Mode → Instance → List ℕ → List ℕ → List ℕ → PublicKey → Type 0
accepted_in Pure P M SIG ctx PK = slh_verify P M SIG ctx PK
accepted_in Sha256 P M SIG ctx PK = hash_slh_verify P M SIG ctx sha256_pre_hash PK
accepted_in Sha512 P M SIG ctx PK = hash_slh_verify P M SIG ctx sha512_pre_hash PK

-- the parts of a verifying key's bytes
abbrev pub verifying_parts : ℕ → List ℕ → PublicKey
verifying_parts n key = public_key_of (part n key 0) (part n key 1)
