-- Fields whose bytes are read one after the other.
use Rattle.std.proofs.Common.{◌≡◌, ℕ, ◌+◌, ◌-◌, ◌<◌, ◌≤◌, List, [], ◌∷◌, ◌++◌, length, take, drop, get_or, sym, arith, length-drop, refl, ap, ◌∙◌, append_assoc, Bor, Result, Ok, Err}
use Rattle.std.proofs.lemmas.List.{append-nil, drop-map, drop_all, drop_more, take_all}
use Rattle.line_serve.specs.Fields.{contents}
use Rattle.slh_line.specs.Readings.{all_bytes, and_then, bytes_of}
use Rattle.slh_line.specs.declared.line_error.LineError.{LineError}

-- what is read already, and then the bytes of the fields from one on
abbrev pub read_on : List (List ℕ) → List (Bor (List ℕ)) → Result (List (List ℕ)) LineError
read_on front fields = and_then (all_bytes (contents fields)) (λ rest. Ok (front ++ rest))

joined : (front rest : List (List ℕ)) (bytes : List ℕ) → front ++ bytes ∷ rest ≡ (front ++ bytes ∷ []) ++ rest
joined front rest bytes = simp append_assoc

past_one : (front : List (List ℕ)) (bytes : List ℕ) (later : Result (List (List ℕ)) LineError)
    → and_then (and_then later (λ rest. Ok (bytes ∷ rest))) (λ rest. Ok (front ++ rest)) ≡ and_then later (λ rest. Ok ((front ++ bytes ∷ []) ++ rest))
past_one front bytes (Ok rest) = ap Ok (joined front rest bytes)
past_one front bytes (Err e) = refl

pub one_more : (front : List (List ℕ)) (fields : List (Bor (List ℕ))) (i : ℕ) (field : Bor (List ℕ)) (bytes : List ℕ) → i < length fields
    → bytes_of (get_or fields i field).now ≡ Ok bytes → read_on front (drop i fields) ≡ read_on (front ++ bytes ∷ []) (drop (i + 1) fields)
one_more front fields i field bytes below is =
    rw (drop_more fields i field below, is) (past_one front bytes (all_bytes (contents (drop (i + 1) fields))))

pub one_bad : (front : List (List ℕ)) (fields : List (Bor (List ℕ))) (i : ℕ) (field : Bor (List ℕ)) (e : LineError) → i < length fields
    → bytes_of (get_or fields i field).now ≡ Err e → read_on front (drop i fields) ≡ Err e
one_bad front fields i field e below is = rw (drop_more fields i field below, is) refl

pub all_read : (front : List (List ℕ)) (fields : List (Bor (List ℕ))) (i : ℕ) → length fields ≤ i → read_on front (drop i fields) ≡ Ok front
all_read front fields i past = rw (drop_all i fields past) (ap Ok (append-nil front))

unchanged : (read : Result (List (List ℕ)) LineError) → and_then read (λ rest. Ok ([] ++ rest)) ≡ read
unchanged (Ok all) = refl
unchanged (Err e) = refl

pub none_read : (fields : List (Bor (List ℕ))) → read_on [] fields ≡ all_bytes (contents fields)
none_read fields = unchanged (all_bytes (contents fields))

-- those from one on, as a slice has them
pub from_one_on : (fields : List (Bor (List ℕ))) (from : ℕ) → contents (take (length fields - from) (drop from fields)) ≡ drop from (contents fields)
from_one_on fields from =
    ap contents (take_all (length fields - from) (drop from fields) (omega (arith, length-drop from fields))) ∙ sym (drop-map (λ field. field.now) from fields)
