-- What `slh inspect` tells of a file.
use Rattle.std.specs.Prelude.{◌==◌, ◌++◌, ◌/◌, ℕ, List, codes, drop, length, Bool}
use Rattle.std.specs.Prelude.{Option, None, Some, Result, Ok, Err, if◌then◌else◌}
use Rattle.std.specs.List.{find}
use Rattle.std.specs.Option.{option_map}
use Rattle.std.specs.Str.{bytes_eq}
use Rattle.line_serve.specs.Texts.{hex_line}
use Rattle.slh_sets.specs.Sets.{all_sets, name_of, scheme_for}
use Rattle.slh_sets.specs.declared.set.Set.{Set}
use Rattle.slh_trees.specs.Checking.{signature_size}
use Rattle.slh_bytes.specs.Jobs.{made_of}
use Rattle.slh_bytes.specs.Lines.{squeezed}
use Rattle.slh_bytes.specs.Reading.{key_in}
use Rattle.slh_bytes.specs.Signatures.{digits_value}
use Rattle.slh_bytes.specs.declared.error.KeyFileError.{KeyFileError}
use Rattle.slh_bytes.specs.declared.error.KeyFileError.TheVariants.{NoKey, OtherKind}
use Rattle.slh_bytes.specs.declared.key.Key.{Key}
use Rattle.slh_bytes.specs.declared.key.Kind.TheVariants.{Signing, Verifying}

-- a kind of thing, and its set
abbrev pub set_text : List ℕ → Set → List ℕ
set_text what set = what ++ codes "\nset: " ++ name_of set ++ codes "\n"

-- a key of a kind: its set, and the bytes of its verifying key
abbrev pub key_text : List ℕ → Set → List ℕ → List ℕ
key_text what set bytes = set_text what set ++ hex_line (codes "verifying key: ") bytes

abbrev pub root_text : Bool → List ℕ
root_text is_own =
    if is_own then codes "root: that of its seeds\n" else codes "root: not that of its seeds\n"

-- a signing key, of which nothing is told but its set, its public half, and whether it is the one
-- that its own seeds make
abbrev pub signing_text : Set → List ℕ → Bool → List ℕ
signing_text set half is_own = key_text (codes "signing key") set half ++ root_text is_own

abbrev pub signing_key_text : Key → List ℕ
signing_key_text key =
    signing_text key.set (drop (length key.bytes / 2) key.bytes)
    (bytes_eq key.bytes (made_of key.set key.bytes))

-- the set whose signatures have so many bytes
abbrev pub set_of_size : ℕ → Option Set
set_of_size len = find (λ set. signature_size (scheme_for set) == len) all_sets

-- the text of digits that stand for as many bytes as signatures of some set have
abbrev pub digits_text : Option (List ℕ) → Option (List ℕ)
digits_text None = None
digits_text (Some bytes) =
    option_map (set_text (codes "signature in hexadecimal")) (set_of_size (length bytes))

abbrev pub size_text : List ℕ → Option Set → Option (List ℕ)
size_text _ (Some set) = Some (set_text (codes "signature") set)
size_text file None = digits_text (digits_value (squeezed file))

-- the text of a file that has no key
abbrev pub signature_text : List ℕ → Option (List ℕ)
signature_text file = size_text file (set_of_size (length file))

abbrev pub other_text : Result Key KeyFileError → Result (Option (List ℕ)) KeyFileError
other_text (Ok key) = Ok (Some (key_text (codes "verifying key") key.set key.bytes))
other_text (Err e) = Err e

abbrev pub text_by : List ℕ → Result Key KeyFileError → Result (Option (List ℕ)) KeyFileError
text_by _ (Ok key) = Ok (Some (signing_key_text key))
text_by file (Err OtherKind) = other_text (key_in Verifying file)
text_by file (Err NoKey) = Ok (signature_text file)
text_by _ (Err e) = Err e

-- what is told of a file's bytes, want of memory aside. None: they are no key and no signature
abbrev pub told_text : List ℕ → Result (Option (List ℕ)) KeyFileError
told_text file = text_by file (key_in Signing file)
