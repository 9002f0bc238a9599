-- The one PEM block of a text (RFC 7468).
use Rattle.std.specs.Prelude.{List, ℕ, codes, Option, None, Some, is_some, Result, Ok, Err}
use Rattle.std.specs.Prelude.{if◌then◌else◌}
use Rattle.std.specs.Str.{bytes_eq}
use Rattle.slh_bytes.specs.Places.{cut_at, first_place}
use Rattle.slh_bytes.specs.declared.error.KeyFileError.{KeyFileError}
use Rattle.slh_bytes.specs.declared.error.KeyFileError.TheVariants.{NoKey, NoEnd, SecondBlock}

-- what is read on behind a mark, where it is there
abbrev pub behind : {A : Type 0} → KeyFileError → Option (List ℕ × List ℕ)
    → (List ℕ → List ℕ → Result A KeyFileError) → Result A KeyFileError
behind missing None next = Err missing
behind missing (Some parts) next = next parts.0 parts.1

abbrev pub begin_mark : List ℕ
begin_mark = codes "-----BEGIN "

-- the last line has the first one's label, and no other block begins behind it
abbrev pub checked_block : List ℕ → List ℕ → List ℕ → List ℕ
    → Result (List ℕ × List ℕ) KeyFileError
checked_block label body last rest =
    if bytes_eq last label then
    if is_some (first_place begin_mark rest) then Err SecondBlock else Ok (label, body)
    else Err NoEnd

-- a block's label, and what stands between its lines
abbrev pub block_in : List ℕ → Result (List ℕ × List ℕ) KeyFileError
block_in text =
    behind NoKey (cut_at begin_mark text) (λ _ rest.
    behind NoEnd (cut_at (codes "-----") rest) (λ label rest.
    behind NoEnd (cut_at (codes "-----END ") rest) (λ body rest.
    behind NoEnd (cut_at (codes "-----") rest) (λ last rest.
    checked_block label body last rest))))
