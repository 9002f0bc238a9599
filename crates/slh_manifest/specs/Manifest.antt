-- Manifests as bytes. A manifest's body is the number of its entries as four bytes, and then the
-- entries; a manifest is its body and the signature of the body.
use Rattle.std.specs.Prelude.{◌≡◌, ◌≤◌, ◌^◌, ℕ, List, [], ◌∷◌, ◌++◌, length, ⊤, Bool}
use Rattle.std.specs.Prelude.{◌&&◌, IsTrue, nat_le, codes}
use Rattle.std.specs.Int.{w32, w64, to_be_bytes}
use Rattle.std.specs.List.{flat_map}
use Rattle.std.specs.Ordering.{is_lt, nat_cmp}
use Rattle.std.specs.Cmp.Lexicographic.{slice_cmp}
use Rattle.slh_manifest.specs.declared.entry.Entry.{Entry}

-- the context that bodies are signed with
abbrev pub manifest_context : List ℕ
manifest_context = codes "slh-manifest"

-- an entry: the number of the name's bytes, the name, how many bytes stand under it, and their
-- SHA-256
abbrev pub entry_bytes : Entry → List ℕ
entry_bytes entry =
    length entry.name ∷ entry.name ++ to_be_bytes w64 entry.len ++ entry.digest

abbrev pub body_bytes : List Entry → List ℕ
body_bytes entries = to_be_bytes w32 (length entries) ++ flat_map entry_bytes entries

-- a name has at most 255 bytes and stands above the one before it in the order of bytes. The first
-- one stands above the empty name, so none is empty.
abbrev pub may_follow : List ℕ → List ℕ → Bool
may_follow last name = is_lt (slice_cmp nat_cmp last name) && nat_le (length name) 255

-- an entry may stand after one with this name
pub record IsEntry (last : List ℕ) (entry : Entry) : Type 0 where
  pub name : IsTrue (may_follow last entry.name)
  pub len : entry.len ≤ 2 ^ 32
  pub digest : length entry.digest ≡ 32

-- each may follow the one before it
abbrev pub Rise : List ℕ → List Entry → Type 0
Rise last [] = ⊤
Rise last (entry ∷ entries) = IsEntry last entry × Rise entry.name entries

-- entries of a manifest
pub record HasForm (entries : List Entry) : Type 0 where
  pub some : 1 ≤ length entries
  pub few : length entries ≤ 4096
  pub rise : Rise [] entries
