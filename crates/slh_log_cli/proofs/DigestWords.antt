-- Words that are read as digests, one after the other.
use Rattle.std.proofs.Common.{◌≡◌, ℕ, ◌+◌, ◌<◌, ◌≤◌, List, [], ◌∷◌, ◌++◌, length, drop, get_or, refl, ap, ◌∙◌, sym, append_assoc, Result, Ok, Err}
use Rattle.std.proofs.lemmas.List.{append-nil, drop_all, drop_more}
use Rattle.slh_line.specs.Readings.{and_then}
use Rattle.slh_line.specs.declared.line_error.LineError.{LineError}
use Rattle.slh_log_cli.specs.Proofs.{digest_of, digests_of}

-- what is read already, and then the digests of the words from one on
abbrev pub read_on : List (List ℕ) → List (List ℕ) → Result (List (List ℕ)) LineError
read_on front words = and_then (digests_of words) (λ rest. Ok (front ++ rest))

joined : (front rest : List (List ℕ)) (digest : List ℕ) → front ++ digest ∷ rest ≡ (front ++ digest ∷ []) ++ rest
joined front rest digest = simp append_assoc

past_one : (front : List (List ℕ)) (digest : List ℕ) (later : Result (List (List ℕ)) LineError)
    → and_then (and_then later (λ rest. Ok (digest ∷ rest))) (λ rest. Ok (front ++ rest)) ≡ and_then later (λ rest. Ok ((front ++ digest ∷ []) ++ rest))
past_one front digest (Ok rest) = ap Ok (joined front rest digest)
past_one front digest (Err e) = refl

pub one_more : (front words : List (List ℕ)) (i : ℕ) (digest : List ℕ) → i < length words
    → digest_of (get_or words i []) ≡ Ok digest → read_on front (drop i words) ≡ read_on (front ++ digest ∷ []) (drop (i + 1) words)
one_more front words i digest below is =
    rw (drop_more words i [] below, is) (past_one front digest (digests_of (drop (i + 1) words)))

pub one_bad : (front words : List (List ℕ)) (i : ℕ) (e : LineError) → i < length words
    → digest_of (get_or words i []) ≡ Err e → read_on front (drop i words) ≡ Err e
one_bad front words i e below is = rw (drop_more words i [] below, is) refl

pub all_read : (front words : List (List ℕ)) (i : ℕ) → length words ≤ i → read_on front (drop i words) ≡ Ok front
all_read front words i past = rw (drop_all i words past) (ap Ok (append-nil front))

unchanged : (read : Result (List (List ℕ)) LineError) → and_then read (λ rest. Ok ([] ++ rest)) ≡ read
unchanged (Ok all) = refl
unchanged (Err e) = refl

pub none_read : (words : List (List ℕ)) → read_on [] words ≡ digests_of words
none_read words = unchanged (digests_of words)

-- a turn of the loop
module _ (words : List (List ℕ)) (i : ℕ) (word : List ℕ) (below : i < length words) (there : word ≡ get_or words i []) where
  pub goes_on : (front new : List (List ℕ)) (digest : List ℕ) → Ok digest ≡ digest_of word → new ≡ front ++ digest ∷ []
      → read_on front (drop i words) ≡ digests_of words → read_on new (drop (i + 1) words) ≡ digests_of words
  goes_on front new digest is pushed so_far =
      ap (λ (f : List (List ℕ)). read_on f (drop (i + 1) words)) pushed
      ∙ sym (one_more front words i digest below (ap digest_of (sym there) ∙ sym is)) ∙ so_far

  pub stops : (front : List (List ℕ)) (e : LineError) → Err e ≡ digest_of word
      → read_on front (drop i words) ≡ digests_of words → digests_of words ≡ Err e
  stops front e is so_far = sym so_far ∙ one_bad front words i e below (ap digest_of (sym there) ∙ sym is)
