-- One more file is written.
use Rattle.std.proofs.Common.{◌≡◌, ◌∙◌, refl, ℕ, zero, suc, List, [], ◌∷◌, Option, Some, Result, Ok, Err, sym, subst, slice_get, length, ◌≤◌}
use Rattle.std.specs.Prelude.{IsErrAnd}
use Rattle.std.proofs.lemmas.Option.{slice_get_past}
use Rattle.whole_files.specs.Files.{Files, Node}
use Rattle.whole_files.specs.Whole.{HasWhole, IsWritable, mode_of}
use Rattle.whole_files.specs.declared.error.Written.{Written}
use Rattle.log_files.specs.Publishing.{FirstWritten, IsWritingNext, IsWritingPiece, IsWrittenPiece, Publishes, PutsPiece}
use Rattle.log_files.specs.declared.error.PublishError.{PublishError}
use Rattle.log_files.specs.declared.error.PublishError.TheVariants.{AtPiece, Unsettled, AtHead}
use Rattle.log_files.specs.declared.publishing.Piece.{Piece}

-- what is written over files is written over the same files
same_written : (m a b : Files) (p : Piece) → ((q : List ℕ) → a q ≡ m q) → IsWrittenPiece a p b → IsWrittenPiece m p b
same_written m a b p same wrote = record {
  writable = subst IsWritable (same p.path.now) wrote.writable;
  whole = subst (λ (o : Option Node). HasWhole (mode_of o) p.bytes.now (b p.path.now)) (same p.path.now) wrote.whole;
  free = sym (same p.part.now) ∙ wrote.free;
  others = λ q apart. wrote.others q apart ∙ same q;
}

pub extend : (m : Files) (ps : List Piece) (i : ℕ) (a b : Files) (p : Piece) → FirstWritten m ps i a
    → slice_get ps i ≡ Some p → IsWrittenPiece a p b → FirstWritten m ps (suc i) b
extend m [] zero a b p first here wrote = cc
extend m (x ∷ ps) zero a b p first here wrote =
    let is : x ≡ p = cc here in
    (b, same_written m a b x first (rw is wrote), λ q. refl)
extend m [] (suc i) a b p first here wrote = absurd first
extend m (x ∷ ps) (suc i) a b p first here wrote =
    (first.0, first.1, extend first.0 ps i a b p first.2 here wrote)

refused : (m : Files) (ps : List Piece) (head : Piece) (i : ℕ) (a n : Files) (e : PublishError) → FirstWritten m ps i a
    → PutsPiece a ps i (Err e) n → Publishes m ps head (Err e) n
refused m ps head i a n (AtPiece j error) first puts = rw puts.0 (a, puts.1.0, puts.1.1, first, puts.1.2)
refused m ps head i a n (Unsettled j) first puts = rw puts.0 (extend m ps i a n puts.1.0 first puts.1.1 puts.1.2)
refused m ps head i a n (AtHead error) first puts = absurd puts

-- a piece's refusal is handed on
pub stopped : (m : Files) (ps : List Piece) (head : Piece) (i : ℕ) (a n : Files) (result : Result Written PublishError)
    (e : PublishError) → FirstWritten m ps i a → PutsPiece a ps i (Err e) n → IsErrAnd result (λ x. x ≡ e)
    → Publishes m ps head result n
stopped m ps head i a n (Ok x) e first puts never = absurd never
stopped m ps head i a n (Err x) e first puts same = rw same (refused m ps head i a n e first puts)

-- behind all pieces the head is written
pub head_next : (a : Files) (ps : List Piece) (i : ℕ) (head : Piece) (n : Files) → length ps ≤ i
    → IsWritingPiece a head n → IsWritingNext a (slice_get ps i) head n
head_next a ps i head n past writing = rw (slice_get_past ps i past) writing
