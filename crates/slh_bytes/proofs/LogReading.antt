-- The text of a proof, as it is read.
use Rattle.std.proofs.Common.{◌≡◌, ℕ, zero, suc, ◌+◌, ◌<◌, ◌^◌, true, false, List, [], ◌∷◌, ◌++◌, length, drop, get_or, decimal, refl, sym, ap, subst, ◌∙◌, arith, inl, inr, ◌⊎◌, ◌≢◌, Some, None, Result, Ok, Err, append_assoc}
use Rattle.std.specs.List.{join_with_byte}
use Rattle.std.specs.Prelude.{◌==◌}
use Rattle.std.specs.Result.{result_ok}
use Rattle.std.proofs.lemmas.Bool.{ne_eqb, true≢false}
use Rattle.std.proofs.lemmas.Bool.Decides.{Decides-eqb}
use Rattle.std.proofs.lemmas.List.{append-nil, drop_at, get_or_at, length-append}
use Rattle.std.proofs.lemmas.List.Splits.{join_with_byte-slice_split}
use Rattle.base64.specs.Engines.{standard}
use Rattle.base64.specs.GeneralPurpose.{IsBytes, decode_of, decode_slice_of, decoded_bytes_of, encoded_size_of}
use Rattle.base64.specs.declared.decode.DecodeSliceError.{DecodeSliceError}
use Rattle.line_serve.specs.Fields.{for_some}
use Rattle.line_serve.specs.Lines.{parts}
use Rattle.slh_log.proofs.Cut.{some_parts}
use Rattle.slh_log.proofs.MadeNote.{begins}
use Rattle.slh_log.proofs.Plain.{are_plain, cut, plain_base64, plain_decimal}
use Rattle.slh_log.proofs.ReadBack.{bytes_read, size_read, symbols_size}
use Rattle.slh_log.proofs.Signatures.{Fills, is_filled, not_filled}
use Rattle.slh_log.proofs.Symbols.{Tells, filled, tells}
use Rattle.slh_log.specs.Reading.{begins_with, bytes_value, size_value, some_if}
use Rattle.slh_log.specs.Texts.{base64_of}
use Rattle.slh_bytes.specs.LogProofs.{AreDigests, IsProofText, digest_lines, front_of}
use Rattle.slh_bytes.specs.declared.log_proofs.Purpose.{Purpose}

-- ---- the symbols of a digest

pub other_size : (line : List ℕ) → length line ≢ 44 → None ≡ bytes_value 32 line
other_size line other = rw (ne_eqb (length line) 44 other) refl

value_is : (line : List ℕ) → length line ≡ 44 → bytes_value 32 line ≡ for_some (result_ok (decode_of standard line)) (λ b. some_if (length b == 32) b)
value_is line size = rw ((Decides-eqb (length line) 44).1 size) refl

pub not_decoded : (line old : List ℕ) (r : Result ℕ DecodeSliceError) (e : DecodeSliceError) → length line ≡ 44 → length old ≡ 32 → r ≡ decode_slice_of standard line (length old) → r ≡ Err e
    → None ≡ bytes_value 32 line
not_decoded line old r e size count is bad =
    let same : decode_slice_of standard line 32 ≡ Err e = ap (decode_slice_of standard line) (sym count) ∙ sym is ∙ bad in
    let told : Tells 32 (Err e) (decode_of standard line) (decoded_bytes_of standard line) = subst (λ x. Tells 32 x (decode_of standard line) (decoded_bytes_of standard line)) same (tells line 32 size) in
    sym (value_is line size ∙ told)

module _ (line old new : List ℕ) (r : Result ℕ DecodeSliceError) (len : ℕ) (size : length line ≡ 44) (count : length old ≡ 32) (is : r ≡ decode_slice_of standard line (length old)) (ok : r ≡ Ok len)
    (same : length new ≡ length old) (written : new ≡ decoded_bytes_of standard line ++ drop (length (decoded_bytes_of standard line)) old) where
  told : Fills (bytes_value (length old) line) (len == length new) new
  told = filled line old new r len (size ∙ sym (ap (encoded_size_of standard) count)) is ok same written

  full : (len == length new) ≡ (len == 32)
  full = ap (λ n. len == n) (same ∙ count)

  pub digest_found : (len == 32) ≡ true → Some new ≡ bytes_value 32 line
  digest_found whole =
      sym (is_filled (bytes_value (length old) line) new (subst (λ t. Fills (bytes_value (length old) line) t new) (full ∙ whole) told)) ∙ ap (λ n. bytes_value n line) count

  pub digest_none : (len == 32) ≡ false → None ≡ bytes_value 32 line
  digest_none part =
      sym (not_filled (bytes_value (length old) line) new (subst (λ t. Fills (bytes_value (length old) line) t new) (full ∙ part) told)) ∙ ap (λ n. bytes_value n line) count

-- ---- lines

-- bytes are their parts again
whole : (bytes : List ℕ) → join_with_byte 10 (parts bytes) ≡ bytes
whole bytes = join_with_byte-slice_split 10 bytes

-- a line is cut off, and what is left is what stands behind it
pub same_cut : (rest line later a b : List ℕ) → are_plain a ≡ true → rest ≡ a ++ 10 ∷ b → parts rest ≡ line ∷ parts later → (line ≡ a) × (later ≡ b)
same_cut rest line later a b plain is cut_is =
    let both : line ∷ parts later ≡ a ∷ parts b = sym cut_is ∙ ap parts is ∙ cut a b plain in
    let front : line ≡ a = cc in
    let back : parts later ≡ parts b = cc in
    (front, sym (whole later) ∙ ap (join_with_byte 10) back ∙ whole b)

-- there is a line where a line feed stands
pub some_cut : (rest a b : List ℕ) → are_plain a ≡ true → rest ≡ a ++ 10 ∷ b → parts rest ≡ rest ∷ [] → ⊥
some_cut rest a b plain is none =
    let both : rest ∷ [] ≡ a ∷ parts b = sym none ∙ ap parts is ∙ cut a b plain in
    let back : [] ≡ parts b = cc in
    let empty : (length (parts b) == 0) ≡ true = ap (λ (l : List (List ℕ)). length l == 0) (sym back) in
    true≢false (sym empty ∙ some_parts b)

-- ---- the front and the number

-- what stands behind the front
abbrev pub behind : ℕ → List (List ℕ) → List ℕ → List ℕ
behind number digests checkpoint = decimal number ++ 10 ∷ (digest_lines digests ++ 10 ∷ checkpoint)

module _ (purpose : Purpose) (bytes front : List ℕ) (number : ℕ) (digests : List (List ℕ)) (checkpoint : List ℕ) (t : IsProofText purpose bytes number digests checkpoint) (same : front ≡ front_of purpose) where
  split : bytes ≡ front ++ behind number digests checkpoint
  split = t.text ∙ ap (λ f. f ++ behind number digests checkpoint) (sym same)

  pub front_off : (rest : List ℕ) → rest ≡ drop (length front) bytes → rest ≡ behind number digests checkpoint
  front_off rest off = off ∙ ap (drop (length front)) split ∙ drop_at front (behind number digests checkpoint) (length front) refl

  pub front_there : begins_with front bytes ≡ false → ⊥
  front_there other = true≢false (sym (ap (begins_with front) split ∙ begins front (behind number digests checkpoint)) ∙ other)

-- there is a line of the number
pub number_there : (number : ℕ) (digests : List (List ℕ)) (checkpoint rest : List ℕ) → number < 2 ^ 64 → rest ≡ behind number digests checkpoint → parts rest ≡ rest ∷ [] → ⊥
number_there number digests checkpoint rest low is none = some_cut rest (decimal number) (digest_lines digests ++ 10 ∷ checkpoint) (plain_decimal number low) is none

-- what that line says, and what stands behind it
pub record IsNumber (number : ℕ) (digests : List (List ℕ)) (checkpoint line later : List ℕ) : Type 0 where
  pub value : size_value line ≡ Some number
  pub rest_is : later ≡ digest_lines digests ++ 10 ∷ checkpoint

pub number_is : (number : ℕ) (digests : List (List ℕ)) (checkpoint rest line later : List ℕ) → number < 2 ^ 64 → rest ≡ behind number digests checkpoint → parts rest ≡ line ∷ parts later
    → IsNumber number digests checkpoint line later
number_is number digests checkpoint rest line later low is cut_is =
    let both = same_cut rest line later (decimal number) (digest_lines digests ++ 10 ∷ checkpoint) (plain_decimal number low) is cut_is in
    record { value = ap size_value both.0 ∙ size_read number low; rest_is = both.1 }

-- ---- the lines of digests

-- the lines from the first on
lines_on : (d : List ℕ) (more : List (List ℕ)) (rest : List ℕ) → digest_lines (d ∷ more) ++ 10 ∷ rest ≡ base64_of d ++ 10 ∷ (digest_lines more ++ 10 ∷ rest)
lines_on d more rest =
    append_assoc (base64_of d ++ 10 ∷ []) (digest_lines more) (10 ∷ rest) ∙ append_assoc (base64_of d) (10 ∷ []) (digest_lines more ++ 10 ∷ rest)

-- a line is the empty one behind the last digest
pub record IsEnd (more : List (List ℕ)) (line later rest : List ℕ) : Type 0 where
  pub none : more ≡ []
  pub empty : line ≡ []
  pub rest_is : later ≡ rest

-- a line is that of the next digest
pub record IsNext (more : List (List ℕ)) (line later rest : List ℕ) : Type 0 where
  pub digest : List ℕ
  pub others : List (List ℕ)
  pub some : more ≡ digest ∷ others
  pub symbols : line ≡ base64_of digest
  pub rest_is : later ≡ digest_lines others ++ 10 ∷ rest

pub line_is : (more : List (List ℕ)) (bytes line later rest : List ℕ) → bytes ≡ digest_lines more ++ 10 ∷ rest → parts bytes ≡ line ∷ parts later
    → IsEnd more line later rest ⊎ IsNext more line later rest
line_is [] bytes line later rest is cut_is =
    let both = same_cut bytes line later [] rest refl is cut_is in
    inl (record { none = refl; empty = both.0; rest_is = both.1 })
line_is (d ∷ more) bytes line later rest is cut_is =
    let both = same_cut bytes line later (base64_of d) (digest_lines more ++ 10 ∷ rest) (plain_base64 d) (is ∙ lines_on d more rest) cut_is in
    inr (record { digest = d; others = more; some = refl; symbols = both.0; rest_is = both.1 })

pub some_line : (more : List (List ℕ)) (bytes rest : List ℕ) → bytes ≡ digest_lines more ++ 10 ∷ rest → parts bytes ≡ bytes ∷ [] → ⊥
some_line [] bytes rest is none = some_cut bytes [] rest refl is none
some_line (d ∷ more) bytes rest is none =
    some_cut bytes (base64_of d) (digest_lines more ++ 10 ∷ rest) (plain_base64 d) (is ∙ lines_on d more rest) none

-- ---- what is read so far

-- the digests that were read, and what is left of them and their lines
pub record Left (digests : List (List ℕ)) (rest : List ℕ) (done : List (List ℕ)) (bytes : List ℕ) : Type 0 where
  pub more : List (List ℕ)
  pub all : done ++ more ≡ digests
  pub lines : bytes ≡ digest_lines more ++ 10 ∷ rest

-- the next of them is as all are
pub record IsDigest (digest : List ℕ) : Type 0 where
  pub size : length digest ≡ 32
  pub bytes : IsBytes digest

next_is : (digests done more : List (List ℕ)) (digest : List ℕ) → AreDigests digests → done ++ digest ∷ more ≡ digests → IsDigest digest
next_is digests done more digest are all =
    let at : get_or digests (length done) [] ≡ digest = ap (λ (l : List (List ℕ)). get_or l (length done) []) (sym all) ∙ get_or_at done digest more [] (length done) refl in
    let count : length digests ≡ length done + length (digest ∷ more) = ap length (sym all) ∙ length-append done (digest ∷ more) in
    let within : length done < length digests = omega arith in
    record {
      size = subst (λ (d : List ℕ). length d ≡ 32) at (are.sizes (length done) [] within);
      bytes = subst (λ (d : List ℕ). IsBytes d) at (are.bytes (length done) [] within);
    }

next_fits : (digests done more : List (List ℕ)) (digest : List ℕ) → AreDigests digests → done ++ digest ∷ more ≡ digests → length done < 64
next_fits digests done more digest are all =
    let count : length digests ≡ length done + length (digest ∷ more) = ap length (sym all) ∙ length-append done (digest ∷ more) in
    omega (arith, are.few)

-- the symbols of a digest are some
symbols_some : (digest : List ℕ) → length digest ≡ 32 → length (base64_of digest) ≡ 44
symbols_some digest size = omega (arith, symbols_size digest)

-- a line that isn't empty is that of the next digest
pub record Goes (digests : List (List ℕ)) (rest : List ℕ) (done : List (List ℕ)) (line later : List ℕ) : Type 0 where
  pub fits : length done < 64
  pub digest : List ℕ
  pub value : bytes_value 32 line ≡ Some digest
  pub left : Left digests rest (done ++ digest ∷ []) later

pub goes_on : (digests done : List (List ℕ)) (rest bytes line later : List ℕ) → AreDigests digests → Left digests rest done bytes → parts bytes ≡ line ∷ parts later → 0 < length line
    → Goes digests rest done line later
goes_on digests done rest bytes line later are l cut_is some = elim (line_is l.more bytes line later rest l.lines cut_is) [
  | inl end ↦ absurd (omega (arith, ap length end.empty))
  | inr next ↦ (let all : done ++ next.digest ∷ next.others ≡ digests = ap (λ (m : List (List ℕ)). done ++ m) (sym next.some) ∙ l.all in
      let is = next_is digests done next.others next.digest are all in
      record {
        fits = next_fits digests done next.others next.digest are all;
        digest = next.digest;
        value = ap (bytes_value 32) next.symbols ∙ bytes_read next.digest 32 is.bytes is.size;
        left = record {
          more = next.others;
          all = append_assoc done (next.digest ∷ []) next.others ∙ all;
          lines = next.rest_is;
        };
      })
]

-- the digest of such a line is taken
pub reads_on : (digests done all : List (List ℕ)) (rest bytes line later digest : List ℕ) → AreDigests digests → Left digests rest done bytes → parts bytes ≡ line ∷ parts later → 0 < length line
    → Some digest ≡ bytes_value 32 line → all ≡ done ++ digest ∷ [] → Left digests rest all later
reads_on digests done all rest bytes line later digest are l cut_is some value pushed =
    let g = goes_on digests done rest bytes line later are l cut_is some in
    let same : Some digest ≡ Some g.digest = value ∙ g.value in
    let one : digest ≡ g.digest = cc in
    subst (λ (d : List (List ℕ)). Left digests rest d later) (sym (pushed ∙ ap (λ (x : List ℕ). done ++ x ∷ []) one)) g.left

pub has_value : (digests done : List (List ℕ)) (rest bytes line later : List ℕ) → AreDigests digests → Left digests rest done bytes → parts bytes ≡ line ∷ parts later → 0 < length line
    → None ≡ bytes_value 32 line → ⊥
has_value digests done rest bytes line later are l cut_is some none =
    let g = goes_on digests done rest bytes line later are l cut_is some in
    let same : None ≡ Some g.digest = none ∙ g.value in
    cc

pub has_room : (digests done : List (List ℕ)) (rest bytes line later : List ℕ) → AreDigests digests → Left digests rest done bytes → parts bytes ≡ line ∷ parts later → 0 < length line
    → length done < 64
has_room digests done rest bytes line later are l cut_is some = (goes_on digests done rest bytes line later are l cut_is some).fits

-- an empty line ends them
pub record Ends (digests : List (List ℕ)) (rest : List ℕ) (done : List (List ℕ)) (later : List ℕ) : Type 0 where
  pub all : done ≡ digests
  pub rest_is : later ≡ rest

pub ends : (digests done : List (List ℕ)) (rest bytes line later : List ℕ) → AreDigests digests → Left digests rest done bytes → parts bytes ≡ line ∷ parts later → length line ≡ 0
    → Ends digests rest done later
ends digests done rest bytes line later are l cut_is empty = elim (line_is l.more bytes line later rest l.lines cut_is) [
  | inl end ↦ record { all = sym (append-nil done) ∙ ap (λ (m : List (List ℕ)). done ++ m) (sym end.none) ∙ l.all; rest_is = end.rest_is }
  | inr next ↦ (let all : done ++ next.digest ∷ next.others ≡ digests = ap (λ (m : List (List ℕ)). done ++ m) (sym next.some) ∙ l.all in
      let is = next_is digests done next.others next.digest are all in
      absurd (omega (arith, ap length next.symbols, symbols_some next.digest is.size)))
]

-- a length that isn't 0
pub not_none : (n : ℕ) → (n == 0) ≡ false → 0 < n
not_none zero e = absurd (cc e)
not_none (suc n) e = omega arith
