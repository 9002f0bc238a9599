-- A key that was made, and its file.
use Rattle.std.specs.Prelude.{◌≡◌, ◌≤◌, ℕ, ◌*◌, List, length, take, drop, Ok}
use Rattle.base64.specs.GeneralPurpose.{IsBytes}
use Rattle.slh_core.specs.Parameters.{Scheme}
use Rattle.slh_trees.specs.Keys.{signing_key_bytes}
use Rattle.slh_sets.specs.declared.set.Set.{Set}
use Rattle.slh_bytes.specs.Heads.{seed_len}
use Rattle.slh_bytes.specs.Jobs.{made_of, own_key}
use Rattle.slh_bytes.specs.Reading.{key_in, key_with}
use Rattle.slh_bytes.specs.Writing.{key_file}
use Rattle.slh_bytes.specs.declared.key.Kind.TheVariants.{Signing}

-- the signing key of three seeds of a scheme, which are the first bytes
abbrev pub made_by : Scheme → List ℕ → List ℕ
made_by Z bytes =
    signing_key_bytes Z
    (take Z.n bytes) (take Z.n (drop Z.n bytes)) (take Z.n (drop (2 * Z.n) bytes))

-- it has 4n bytes, and is the one that its own seeds make
abbrev pub MadeIsOwn : Scheme → Type 0
MadeIsOwn Z = (bytes : List ℕ) → 3 * Z.n ≤ length bytes
    → (length (made_by Z bytes) ≡ 4 * Z.n) × (made_by Z (made_by Z bytes) ≡ made_by Z bytes)

-- the file of such a key is read as this key, with the check of its root
abbrev pub MadeIsRead : Set → Type 0
MadeIsRead set = (random : List ℕ) → 3 * seed_len set ≤ length random
    → IsBytes (made_of set random)
    → own_key (key_in Signing (key_file Signing set (made_of set random)))
    ≡ Ok (key_with set (made_of set random))
