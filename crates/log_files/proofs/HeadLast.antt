-- The checkpoint of a log is written last.
use Rattle.std.proofs.Common.{◌≡◌, ◌∙◌, refl, ℕ, zero, suc, List, [], ◌∷◌, Option, None, Some, Result, Ok, Err, sym, subst, inl, inr, arith, length, map, slice_get}
use Rattle.std.specs.List.{AllByRecursion}
use Rattle.std.proofs.lemmas.Option.{slice_get_past}
use Rattle.whole_files.specs.Files.{Files, Same}
use Rattle.whole_files.specs.declared.error.Written.{Written}
use Rattle.whole_files.specs.declared.error.WriteError.{WriteError}
use Rattle.whole_files.specs.declared.error.WriteError.TheVariants.{Failed, Left, NotRegular, Taken}
use Rattle.whole_files.specs.Parts.{HasPartEnd}
use Rattle.log_files.specs.Appending.{Named}
use Rattle.log_files.specs.Names.{AreBelow, ArePieces, AreSuch, IsHeadLast, IsName, StandWhole, below, checkpoint_path, names_of}
use Rattle.log_files.specs.Publishing.{AreWhole, IsPublishing, IsSeparate, IsWhole, IsWritingNext, IsWritingPiece, IsWrittenPiece, Publishes, RefusesPiece}
use Rattle.log_files.specs.declared.error.PublishError.{PublishError}
use Rattle.log_files.specs.declared.error.PublishError.TheVariants.{AtHead, AtPiece, Unsettled}
use Rattle.log_files.specs.declared.publishing.Piece.{Piece}
use Rattle.log_files.proofs.Kept.{all_whole, head_last, still_whole}
use Rattle.log_files.proofs.OwnNames.{head_not_part, not_part, own_names}
use Rattle.log_files.proofs.Steps.{head_next}

-- ---- each file has two names

separate_at : (folder : List ℕ) (names : List (List ℕ)) (ps : List Piece)
    → map (λ p. p.path.now) ps ≡ map (below folder) names → AllByRecursion IsName names
    → AllByRecursion (λ p. HasPartEnd p.part.now) ps → (i : ℕ) (p : Piece) → slice_get ps i ≡ Some p → IsSeparate p
separate_at folder names [] paths are parts i p is = absurd (cc is)
separate_at folder [] (x ∷ ps) paths are parts i p is = absurd (cc paths)
separate_at folder (n ∷ ns) (x ∷ ps) paths are parts zero p is = λ same.
    let here : x ≡ p = cc is in
    let first : x.path.now ≡ below folder n = cc paths in
    let one : x.part.now ≡ x.path.now = subst (λ (y : Piece). y.part.now ≡ y.path.now) (sym here) same in
    not_part folder n x.part.now are.0 parts.0 (sym first ∙ sym one)
separate_at folder (n ∷ ns) (x ∷ ps) paths are parts (suc i) p is =
    let later : map (λ p. p.path.now) ps ≡ map (below folder) ns = cc paths in
    separate_at folder ns ps later are.1 parts.1 i p is

pub separate : (folder : List ℕ) (files : List Named) (ps : List Piece) (head : Piece) → AreSuch IsName files
    → AreBelow folder files ps head → (i : ℕ) (p : Piece) → slice_get ps i ≡ Some p → IsSeparate p
separate folder files ps head are at = separate_at folder (names_of files) ps at.paths are.such at.parts

pub head_separate : (folder : List ℕ) (files : List Named) (ps : List Piece) (head : Piece)
    → AreBelow folder files ps head → IsSeparate head
head_separate folder files ps head at =
    λ same. head_not_part folder head.part.now at.head_part (sym at.head_path ∙ sym same)

-- ---- what is written below the folder

pub stand : (folder : List ℕ) (files : List Named) (ps : List Piece) (n : Files)
    → map (λ p. p.path.now) ps ≡ map (below folder) (names_of files)
    → map (λ p. p.bytes.now) ps ≡ map (λ file. file.bytes) files → AreWhole ps n
    → AllByRecursion (λ file. IsWhole file.bytes (n (below folder file.name))) files
stand folder [] ps n paths bytes whole = tt
stand folder (f ∷ fs) [] n paths bytes whole = absurd (cc paths)
stand folder (f ∷ fs) (p ∷ ps) n paths bytes whole =
    let path : p.path.now ≡ below folder f.name = cc paths in
    let text : p.bytes.now ≡ f.bytes = cc bytes in
    let paths_later : map (λ p. p.path.now) ps ≡ map (below folder) (names_of fs) = cc paths in
    let bytes_later : map (λ p. p.bytes.now) ps ≡ map (λ file. file.bytes) fs = cc bytes in
    let here : IsWhole p.bytes.now (n (below folder f.name)) = subst (λ (q : List ℕ). IsWhole p.bytes.now (n q)) path whole.0 in (
      subst (λ (b : List ℕ). IsWhole b (n (below folder f.name))) text here,
      stand folder fs ps n paths_later bytes_later whole.1,
    )

stand_all : (folder : List ℕ) (files : List Named) (checkpoint : List ℕ) (ps : List Piece) (head : Piece) (n : Files)
    → ArePieces folder files checkpoint ps head → AreWhole ps n → IsWhole head.bytes.now (n head.path.now)
    → StandWhole folder files checkpoint n
stand_all folder files checkpoint ps head n are whole top =
    let here : IsWhole head.bytes.now (n (checkpoint_path folder))
    = subst (λ (q : List ℕ). IsWhole head.bytes.now (n q)) are.names.head_path top in (
      stand folder files ps n are.names.paths are.bytes whole,
      subst (λ (b : List ℕ). IsWhole b (n (checkpoint_path folder))) are.head_bytes here,
    )

pub stopped : (m n : Files) (folder : List ℕ) (files : List Named) (checkpoint : List ℕ) (ps : List Piece) (head : Piece)
    → AreSuch IsName files → ArePieces folder files checkpoint ps head → IsPublishing m ps head n
    → IsHeadLast m folder files checkpoint n
stopped m n folder files checkpoint ps head such are publishing =
    elim (head_last m n ps head (own_names folder files ps head such are.names) publishing) [
      | inl old ↦ inl (subst (λ (q : List ℕ). n q ≡ m q) are.names.head_path old)
      | inr new ↦ inr (stand_all folder files checkpoint ps head n are new.0 new.1)
    ]

-- ---- what an answer leaves is a moment of publishing

same_in : (a : Files) (p : Piece) (n : Files) → Same a n → IsWritingPiece a p n
same_in a p n same = record {
  at = inl (same p.path.now);
  beside = inl (same p.part.now);
  others = λ q path part. same q;
}

pub written_in : (a : Files) (p : Piece) (n : Files) → IsSeparate p → IsWrittenPiece a p n → IsWritingPiece a p n
written_in a p n apart written = record {
  at = inr written.whole;
  beside = inl (written.others p.part.now apart);
  others = λ q path part. written.others q path;
}

refused_in : (a : Files) (p : Piece) (error : WriteError) (n : Files) → IsSeparate p → RefusesPiece a p error n
    → IsWritingPiece a p n
refused_in a p NotRegular n apart refused = same_in a p n refused.0
refused_in a p Taken n apart refused = same_in a p n refused.0
refused_in a p Failed n apart refused = same_in a p n refused
refused_in a p Left n apart refused = record {
  at = inl (refused.others p.path.now (λ same. apart (sym same)));
  beside = refused.beside;
  others = λ q path part. refused.others q part;
}

next_same : (n : Files) (next : Option Piece) (head : Piece) → IsWritingNext n next head n
next_same n None head = same_in n head n (λ q. refl)
next_same n (Some p) head = same_in n p n (λ q. refl)

pub moment : (m n : Files) (ps : List Piece) (head : Piece) (result : Result Written PublishError)
    → ((i : ℕ) (p : Piece) → slice_get ps i ≡ Some p → IsSeparate p) → IsSeparate head → Publishes m ps head result n
    → IsPublishing m ps head n
moment m n ps head (Ok written) each apart done = (
  length ps,
  done.0,
  done.1,
  head_next done.0 ps (length ps) head n (omega arith) (written_in done.0 head n apart done.2),
)
moment m n ps head (Err (AtPiece i error)) each apart done = (
  i,
  done.0,
  done.3,
  subst (λ (o : Option Piece). IsWritingNext done.0 o head n) (sym done.2) (refused_in done.0 done.1 error n (each i done.1 done.2) done.4),
)
moment m n ps head (Err (Unsettled i)) each apart done = (suc i, n, done, next_same n (slice_get ps (suc i)) head)
moment m n ps head (Err (AtHead error)) each apart done = (
  length ps,
  done.0,
  done.1,
  head_next done.0 ps (length ps) head n (omega arith) (refused_in done.0 head error n apart done.2),
)

pub answered : (m n : Files) (folder : List ℕ) (files : List Named) (checkpoint : List ℕ) (ps : List Piece) (head : Piece)
    (result : Result Written PublishError) → AreSuch IsName files → ArePieces folder files checkpoint ps head
    → Publishes m ps head result n → IsHeadLast m folder files checkpoint n
answered m n folder files checkpoint ps head result such are done =
    stopped m n folder files checkpoint ps head such are
    (moment m n ps head result (separate folder files ps head such are.names) (head_separate folder files ps head are.names) done)

pub all_done : (m n : Files) (folder : List ℕ) (files : List Named) (checkpoint : List ℕ) (ps : List Piece) (head : Piece)
    (written : Written) → AreSuch IsName files → ArePieces folder files checkpoint ps head
    → Publishes m ps head (Ok written) n → StandWhole folder files checkpoint n
all_done m n folder files checkpoint ps head written such are done =
    let names = own_names folder files ps head such are.names in
    let before : AreWhole ps done.0
    = all_whole m ps (length ps) done.0 done.1 (slice_get_past ps (length ps) (omega arith)) names.pieces in
    let last : IsWritingPiece done.0 head n = written_in done.0 head n (head_separate folder files ps head are.names) done.2 in
    stand_all folder files checkpoint ps head n are (still_whole done.0 n ps head last names.pieces_from_head before) (_, done.2.whole)
