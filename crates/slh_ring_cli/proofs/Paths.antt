-- Fields whose paths are read one after the other.
use Rattle.std.proofs.Common.{◌≡◌, ℕ, ◌+◌, ◌<◌, ◌≤◌, List, [], ◌∷◌, ◌++◌, length, drop, get_or, refl, ap, append_assoc, Bor, Result, Ok, Err}
use Rattle.std.proofs.lemmas.List.{append-nil, drop_all, drop_more}
use Rattle.line_serve.specs.Fields.{contents}
use Rattle.slh_line.specs.Readings.{and_then}
use Rattle.slh_line.specs.declared.line_error.LineError.{LineError}
use Rattle.slh_ring_cli.specs.PathFields.{all_paths, path_of}

-- what is read already, and then the paths of the fields from one on
abbrev pub read_on : List (List ℕ) → List (Bor (List ℕ)) → Result (List (List ℕ)) LineError
read_on front fields = and_then (all_paths (contents fields)) (λ rest. Ok (front ++ rest))

joined : (front rest : List (List ℕ)) (path : List ℕ) → front ++ path ∷ rest ≡ (front ++ path ∷ []) ++ rest
joined front rest path = simp append_assoc

past_one : (front : List (List ℕ)) (path : List ℕ) (later : Result (List (List ℕ)) LineError)
    → and_then (and_then later (λ rest. Ok (path ∷ rest))) (λ rest. Ok (front ++ rest)) ≡ and_then later (λ rest. Ok ((front ++ path ∷ []) ++ rest))
past_one front path (Ok rest) = ap Ok (joined front rest path)
past_one front path (Err e) = refl

pub one_more : (front : List (List ℕ)) (fields : List (Bor (List ℕ))) (i : ℕ) (field : Bor (List ℕ)) (path : List ℕ) → i < length fields
    → path_of (get_or fields i field).now ≡ Ok path → read_on front (drop i fields) ≡ read_on (front ++ path ∷ []) (drop (i + 1) fields)
one_more front fields i field path below is =
    rw (drop_more fields i field below, is) (past_one front path (all_paths (contents (drop (i + 1) fields))))

pub one_bad : (front : List (List ℕ)) (fields : List (Bor (List ℕ))) (i : ℕ) (field : Bor (List ℕ)) (e : LineError) → i < length fields
    → path_of (get_or fields i field).now ≡ Err e → read_on front (drop i fields) ≡ Err e
one_bad front fields i field e below is = rw (drop_more fields i field below, is) refl

pub all_read : (front : List (List ℕ)) (fields : List (Bor (List ℕ))) (i : ℕ) → length fields ≤ i → read_on front (drop i fields) ≡ Ok front
all_read front fields i past = rw (drop_all i fields past) (ap Ok (append-nil front))

unchanged : (read : Result (List (List ℕ)) LineError) → and_then read (λ rest. Ok ([] ++ rest)) ≡ read
unchanged (Ok all) = refl
unchanged (Err e) = refl

pub none_read : (fields : List (Bor (List ℕ))) → read_on [] fields ≡ all_paths (contents fields)
none_read fields = unchanged (all_paths (contents fields))
