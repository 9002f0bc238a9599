-- No line is answered with nothing: refusals that have no text never come.
use Rattle.std.proofs.Common.{◌≡◌, ◌≢◌, ◌⊎◌, ◌≤◌, ◌+◌, ◌*◌, ℕ, suc, List, [], ◌∷◌, length, refl, arith, inl, inr, drop, length-drop, Bool, true, false, Option, None, Some, Result, Ok, Err, IfErr, if◌then◌else◌}
use Rattle.std.specs.Prelude.{codes, nat_le, ◌&&◌}
use Rattle.std.specs.FinMap.{empty}
use Rattle.std.specs.Str.{bytes_eq}
use Rattle.std.proofs.lemmas.Bool.{and_parts, leb-true}
use Rattle.line_serve.specs.Fields.{field_at}
use Rattle.slh_core.specs.Parameters.{Scheme}
use Rattle.slh_core.specs.Refusals.{first_refusal}
use Rattle.slh_line.specs.Readings.{all_bytes, all_bytes_at, and_then, bytes_at, bytes_of, checked_randomizer, randomizer_at, signing_key, verifying_key}
use Rattle.slh_line.specs.declared.line_error.LineError.{LineError}
use Rattle.slh_line.specs.declared.line_error.LineError.TheVariants.{Command, Fields}
use Rattle.slh_manifest.specs.Checking.{bytes_error, check_error, entries_error, entries_of, form_refusal, manifest_refusal, signature_refusal}
use Rattle.slh_manifest.specs.Files.{Files, bytes_of as stored}
use Rattle.slh_manifest.specs.declared.entry.Entry.{Entry}
use Rattle.slh_manifest.specs.declared.error.BuildError.{BuildError}
use Rattle.slh_manifest.specs.declared.error.BuildError.TheVariants.{Name, TooLarge}
use Rattle.slh_manifest.specs.declared.error.CheckError.{CheckError}
use Rattle.slh_manifest.specs.declared.error.CheckError.TheVariants.{Form, Invalid, Missing, Differs, Fault}
use Rattle.slh_manifest_cli.specs.Replies.{check_answer, check_text, entries_with, files_with, has_pairs, manifest_answers, seal_answer, seal_text}
use Rattle.slh_manifest_cli.proofs.InPairs.{entries_only}

abbrev Replied : Result (List ℕ) LineError → Type 0
Replied answer = answer ≢ Ok []

-- what is read on
on_read : {A : Type 0} (read : Result A LineError) (next : A → Result (List ℕ) LineError) → ((x : A) → read ≡ Ok x → Replied (next x)) → Replied (and_then read next)
on_read (Err e) next each = λ is. cc is
on_read (Ok x) next each = each x refl

on_test : (test : Bool) (one other : Result (List ℕ) LineError) → (test ≡ true → Replied one) → Replied other → Replied (if test then one else other)
on_test true one other is is_other = is refl
on_test false one other is is_other = is_other

-- there are as many byte strings as fields
one_more : (read : Result (List ℕ) LineError) (later : Result (List (List ℕ)) LineError) (n : ℕ) (all : List (List ℕ)) → ((rest : List (List ℕ)) → later ≡ Ok rest → length rest ≡ n)
    → and_then read (λ bytes. and_then later (λ rest. Ok (bytes ∷ rest))) ≡ Ok all → length all ≡ suc n
one_more (Ok bytes) (Ok rest) n all counted is = let same = counted rest refl in grind arith
one_more (Ok bytes) (Err e) n all counted is = grind arith
one_more (Err e) later n all counted is = grind arith

as_many : (fields all : List (List ℕ)) → all_bytes fields ≡ Ok all → length all ≡ length fields
as_many [] all is = grind arith
as_many (field ∷ later) all is = one_more (bytes_of field) (all_bytes later) (length later) all (as_many later) is

-- what is sealed
sealed : (Z : Scheme) (key : List ℕ) (opt_rand : Option (List ℕ)) (made : Result (List Entry) BuildError) → IfErr made (λ e. (e ≡ Name) ⊎ (e ≡ TooLarge)) → Replied (Ok (seal_text Z key opt_rand made))
sealed Z key opt_rand (Ok entries) only = λ is. cc is
sealed Z key opt_rand (Err e) (inl name) = rw name (λ is. cc is)
sealed Z key opt_rand (Err e) (inr large) = rw large (λ is. cc is)

few_pairs : (fields pairs : List (List ℕ)) → has_pairs 6 fields ≡ true → all_bytes_at fields 4 ≡ Ok pairs → 2 * 0 + length pairs ≤ 2 * 4096
few_pairs fields pairs has is =
    let within = (and_parts (nat_le 6 (length fields) && nat_le (length fields) 8196) _ has).0 in
    let most : length fields ≤ 8196 = leb-true (length fields) 8196 (and_parts (nat_le 6 (length fields)) _ within).1 in
    omega (arith, most, as_many (drop 4 fields) pairs is, length-drop 4 fields)

seal_replied : (Z : Scheme) (fields : List (List ℕ)) → Replied (seal_answer Z fields)
seal_replied Z fields =
    on_test (has_pairs 6 fields) _ (Err Fields)
    (λ has. on_read (bytes_at fields 2) _
    (λ key read_key. on_read (randomizer_at fields 3) _
    (λ opt_rand read_rand. on_read (all_bytes_at fields 4) _
    (λ pairs read. on_read (signing_key Z key) _
    (λ key read_key. on_read (checked_randomizer Z opt_rand) _
    (λ opt_rand read_rand. sealed Z key opt_rand (entries_with [] pairs) (entries_only [] pairs (few_pairs fields pairs has read))))))))
    (λ is. cc is)

-- what is checked
abbrev NoFault : Option CheckError → Type 0
NoFault error = error ≢ Some Fault

told : (error : Option CheckError) → NoFault error → Replied (Ok (check_text error))
told None never = λ is. cc is
told (Some Form) never = λ is. cc is
told (Some Invalid) never = λ is. cc is
told (Some (Missing i)) never = λ is. cc is
told (Some (Differs i)) never = λ is. cc is
told (Some Fault) never = absurd (never refl)

first_of : (first second : Option CheckError) → NoFault first → NoFault second → NoFault (first_refusal (first ∷ second ∷ []))
first_of (Some e) second never other = never
first_of None (Some e) never other = other
first_of None None never other = λ is. cc is

refused_by : (holds : Bool) (error : CheckError) → error ≢ Fault → NoFault (if holds then None else Some error)
refused_by true error other = λ is. cc is
refused_by false error other = λ is. other (cc is)

bytes_no_fault : (i len : ℕ) (digest : List ℕ) (found : Option (List ℕ)) → NoFault (bytes_error i len digest found)
bytes_no_fault i len digest None = λ is. cc is
bytes_no_fault i len digest (Some bytes) = refused_by _ (Differs i) (λ is. cc is)

entries_no_fault : (files : Files) (i : ℕ) (entries : List Entry) → NoFault (entries_error files i entries)
entries_no_fault files i [] = λ is. cc is
entries_no_fault files i (entry ∷ entries) =
    first_of (bytes_error i entry.len entry.digest (stored files entry.name)) (entries_error files (i + 1) entries)
    (bytes_no_fault i entry.len entry.digest (stored files entry.name)) (entries_no_fault files (i + 1) entries)

check_no_fault : (Z : Scheme) (key manifest : List ℕ) (files : Files) → NoFault (check_error Z key manifest files)
check_no_fault Z key manifest files =
    first_of (manifest_refusal Z key manifest) (entries_error files 0 (entries_of manifest))
    (first_of (form_refusal Z manifest) (signature_refusal Z key manifest) (refused_by _ Form (λ is. cc is)) (refused_by _ Invalid (λ is. cc is)))
    (entries_no_fault files 0 (entries_of manifest))

check_replied : (Z : Scheme) (fields : List (List ℕ)) → Replied (check_answer Z fields)
check_replied Z fields =
    on_test (has_pairs 4 fields) _ (Err Fields)
    (λ has. on_read (bytes_at fields 2) _
    (λ key read_key. on_read (bytes_at fields 3) _
    (λ manifest read_manifest. on_read (all_bytes_at fields 4) _
    (λ pairs read. on_read (verifying_key Z key) _
    (λ key read_key. told (check_error Z key manifest (files_with empty pairs)) (check_no_fault Z key manifest (files_with empty pairs)))))))
    (λ is. cc is)

pub replied : (Z : Scheme) (name : List ℕ) (fields : List (List ℕ)) → manifest_answers Z name fields ≢ Ok []
replied Z name fields =
    on_test (bytes_eq (field_at fields 1) (codes "seal")) _ _ (λ is. seal_replied Z fields)
    (on_test (bytes_eq (field_at fields 1) (codes "check")) _ (Err Command) (λ is. check_replied Z fields) (λ is. cc is))
