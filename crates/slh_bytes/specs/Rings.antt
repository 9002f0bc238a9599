-- What is answered of rings. Z is the scheme, and NAME the parameter set's name.
use Rattle.std.specs.Prelude.{ℕ, suc, ◌<◌, ⊤, List, [], ◌∷◌, ◌++◌, codes}
use Rattle.std.specs.Prelude.{Option, None, Some, Result, Ok, Err}
use Rattle.std.specs.List.{flat_map}
use Rattle.slh_core.specs.Parameters.{Scheme}
use Rattle.slh_ring.specs.Keys.{ring_bytes}
use Rattle.slh_ring.specs.PathTexts.{path_text, path_value}
use Rattle.slh_ring.specs.Restores.{restore_answer}
use Rattle.slh_ring.specs.Rings.{add_refusal, with_path}
use Rattle.slh_ring.specs.declared.error.RestoreError.{RestoreError}
use Rattle.slh_ring.specs.declared.error.RingError.{RingError}
use Rattle.slh_bytes.specs.declared.rings.RecordError.{RecordError}
use Rattle.slh_bytes.specs.declared.rings.RecordError.TheVariants.{Text, Ring, Memory}

-- what is done on, where nothing was refused before
abbrev pub and_then : {A B : Type 0} → Result A RecordError → (A → Result B RecordError)
    → Result B RecordError
and_then (Ok value) next = next value
and_then (Err error) next = Err error

-- the path of text i
abbrev pub path_of : ℕ → Option (List ℕ) → Result (List ℕ) RecordError
path_of i None = Err (Text i)
path_of i (Some path) = Ok path

-- a ring, unless the path of text i isn't added to it
abbrev pub unless_refused : ℕ → Option RingError → List (List ℕ)
    → Result (List (List ℕ)) RecordError
unless_refused i None ring = Ok ring
unless_refused i (Some refusal) ring = Err (Ring i refusal)

-- a ring with the path of text i
abbrev pub with_text : ℕ → List ℕ → List (List ℕ) → Result (List (List ℕ)) RecordError
with_text i text ring = and_then (path_of i (path_value text)) (λ path.
    unless_refused i (add_refusal ring path) (with_path ring path))

-- a ring to which the paths of texts are added in turn, which are numbered from i on
abbrev pub ring_from : ℕ → List (List ℕ) → List (List ℕ) → Result (List (List ℕ)) RecordError
ring_from i ring [] = Ok ring
ring_from i ring (text ∷ later) =
    and_then (with_text i text ring) (λ more. ring_from (suc i) more later)

-- an error names one of so many texts, if it names one
abbrev pub NamesText : ℕ → RecordError → Type 0
NamesText count (Text i) = i < count
NamesText count (Ring i error) = i < count
NamesText count Memory = ⊤

-- the record of the ring of some paths
abbrev pub record_by : Scheme → List ℕ → List ℕ → Result (List (List ℕ)) RecordError
    → Result (List ℕ) RecordError
record_by Z name master (Ok ring) = Ok (ring_bytes Z name master ring)
record_by Z name master (Err error) = Err error

-- the paths of a ring, a line for each
abbrev pub paths_text : List (List ℕ) → List ℕ
paths_text paths = flat_map (λ path. path_text path ++ codes "\n") paths

abbrev pub text_of : Result (List (List ℕ)) RestoreError → Result (List ℕ) RestoreError
text_of (Ok paths) = Ok (paths_text paths)
text_of (Err error) = Err error

-- the text of the paths of a record, or why it gives no ring
abbrev pub restored_text : Scheme → List ℕ → List ℕ → List ℕ → Result (List ℕ) RestoreError
restored_text Z name master recorded = text_of (restore_answer Z name master recorded)
