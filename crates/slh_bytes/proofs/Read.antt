-- What is too long, and what is handed on.
use Rattle.std.proofs.Common.{◌≡◌, ℕ, List, [], ◌++◌, Option, Some, None, Result, Ok, Err, refl, sym, ◌^◌, ◌<◌, arith, length, length-append}
use Rattle.std.specs.Prelude.{unwrap_or, IsErrAnd}
use Rattle.std.proofs.lemmas.Bool.{lt-ltb}
use Rattle.std.proofs.KnownBytes.{Consumes-trans, Consumes-whole}
use Rattle.std.specs.Io.KnownBytes.{Consumes}
use Rattle.slh_stream.proofs.Refused.{longer}
use Rattle.slh_bytes.specs.Absorbing.{Absorbs, AbsorbsAll, IsAll}
use Rattle.slh_bytes.specs.Terms.{Terms}
use Rattle.slh_jobs.specs.declared.job.Error.TheVariants.{MessageTooLong}
use Rattle.slh_bytes.specs.declared.read_error.ReadError.{ReadError}
use Rattle.slh_bytes.specs.declared.read_error.ReadError.TheVariants.{Read, Refused, Changed}

-- what was read, and what is left, is all
pub read_and_left : (start rest : Option (List ℕ)) (taken : List ℕ) → Consumes start rest taken
    → IsAll start (taken ++ unwrap_or rest [])
read_and_left None rest taken read = tt
read_and_left (Some xs) None taken read = absurd read
read_and_left (Some xs) (Some ys) taken read = sym read

-- a piece that isn't absorbed ends all
pub ends_all : {T : Type 0} (stands : T → Terms → List ℕ → Type 0) (initial old new : T) (Fault : Type 0) (start left rest : Option (List ℕ))
    (taken : List ℕ) (e : ReadError) → Consumes start left taken
    → ((terms : Terms) → stands initial terms [] → stands old terms taken)
    → Absorbs stands old new Fault left rest (Err e) → AbsorbsAll stands initial new Fault start (Err e)
unfolding AbsorbsAll
ends_all stands initial old new Fault start left rest taken (Read fault) read stood failed = failed
ends_all stands initial old new Fault start left rest taken (Refused refusal) read stood (piece, more, refused) = (
  taken ++ piece ++ unwrap_or rest [],
  read_and_left start rest (taken ++ piece) (Consumes-trans start left rest taken piece read more),
  λ terms begun. longer MessageTooLong refusal (taken ++ piece) (unwrap_or rest []) (refused taken terms (stood terms begun)),
)
ends_all stands initial old new Fault start left rest taken Changed read stood never = absurd never

-- at the end all was absorbed
pub whole : {T : Type 0} (stands : T → Terms → List ℕ → Type 0) (initial old new : T) (Fault : Type 0) (start left rest : Option (List ℕ))
    (taken : List ℕ) (count : ℕ) (done : Unit {0}) → count ≡ 0 → Consumes start left taken
    → ((terms : Terms) → stands initial terms [] → stands old terms taken)
    → Absorbs stands old new Fault left rest (Ok count) → AbsorbsAll stands initial new Fault start (Ok done)
unfolding AbsorbsAll
whole stands initial old new Fault start left rest taken count done none read stood (piece, size, more, end, goes) =
    let all = taken ++ piece in (
      all,
      Consumes-whole start rest all (λ xs. all ≡ xs) (Consumes-trans start left rest taken piece read more) (end none) refl,
      λ terms begun. goes taken terms (stood terms begun),
    )

-- an error that a call hands on
pub handed_on : {T : Type 0} (stands : T → Terms → List ℕ → Type 0) (initial new : T) (Fault : Type 0) (start : Option (List ℕ))
    (result : Result (Unit {0}) ReadError) (e : ReadError) → AbsorbsAll stands initial new Fault start (Err e) → IsErrAnd result (λ x. x ≡ e)
    → AbsorbsAll stands initial new Fault start result
handed_on stands initial new Fault start (Ok x) e ends never = absurd never
handed_on stands initial new Fault start (Err x) e ends same = rw same ends

-- so many pieces that they are more bytes than a message has
pub endless : {T : Type 0} (stands : T → Terms → List ℕ → Type 0) (initial new : T) (Fault : Type 0) (start rest : Option (List ℕ))
    (taken : List ℕ) → 2 ^ 60 < length taken → Consumes start rest taken
    → AbsorbsAll stands initial new Fault start (Err (Refused MessageTooLong))
unfolding AbsorbsAll
endless stands initial new Fault start rest taken long read =
    let all = taken ++ unwrap_or rest [] in
    let more : 2 ^ 60 < length all = omega (arith, long, length-append taken (unwrap_or rest [])) in
    (all, read_and_left start rest taken read, λ terms begun. rw (lt-ltb (2 ^ 60) (length all) more) refl)
