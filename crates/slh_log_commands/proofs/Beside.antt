-- A file beside a log, which is written after all files of the log and before the checkpoint.
use Rattle.std.proofs.Common.{◌≡◌, ◌≢◌, ◌⊎◌, ◌∙◌, refl, ℕ, zero, suc, Bool, true, false, List, [], ◌∷◌, ◌++◌, Option, None, Some, Result, Ok, Err, IfOk, sym, subst, inl, inr, IsTrue, arith, codes, eqb, length, map, not, slice_get}
use Rattle.std.specs.List.{AllByRecursion, ends_with, starts_with}
use Rattle.std.proofs.lemmas.Bool.Decides.{Decides-eqb}
use Rattle.std.proofs.lemmas.List.{append_cancel_left}
use Rattle.std.proofs.lemmas.Option.{slice_get_past}
use Rattle.std.proofs.lemmas.Slice.Eq.{ends_is, starts_is}
use Rattle.log_files.proofs.HeadLast.{head_separate, moment, separate, stand, written_in}
use Rattle.log_files.proofs.Kept.{all_whole, head_last, still_whole}
use Rattle.log_files.proofs.OwnNames.{head_not_part, not_part, own_names}
use Rattle.log_files.specs.Appending.{Named}
use Rattle.log_files.specs.Names.{AreBelow, ArePieces, AreSuch, IsName, below, checkpoint_path, names_of}
use Rattle.log_files.specs.Publishing.{AreApart, AreWhole, FirstWritten, HaveNames, IsApart, IsPublishing, IsSeparate, IsWhole, IsWritingNext, IsWritingPiece, Publishes}
use Rattle.log_files.specs.declared.error.PublishError.{PublishError}
use Rattle.log_files.specs.declared.publishing.Piece.{Piece}
use Rattle.slh_log_commands.specs.Writing.{AreWritten, IsBeside, StandAll}
use Rattle.whole_files.specs.Files.{Files}
use Rattle.whole_files.specs.Parts.{HasPartEnd}
use Rattle.whole_files.specs.declared.error.Written.{Written}

-- the piece of a file beside the log, which gets the checkpoint
record IsOwn (folder checkpoint : List ℕ) (l : Piece) : Type 0 where
  pub beside : IsBeside folder l.path.now
  pub part : HasPartEnd l.part.now
  pub bytes : l.bytes.now ≡ checkpoint

-- ---- one piece more

all_more : {A : Type 0} (P : A → Type 0) (xs : List A) (x : A) → AllByRecursion P xs → P x → AllByRecursion P (xs ++ x ∷ [])
all_more P [] x all here = (here, tt)
all_more P (y ∷ ys) x all here = (all.0, all_more P ys x all.1 here)

all_but_last : {A : Type 0} (P : A → Type 0) (xs : List A) (x : A) → AllByRecursion P (xs ++ x ∷ [])
    → AllByRecursion P xs × P x
all_but_last P [] x all = (tt, all.0)
all_but_last P (y ∷ ys) x all =
    let rest = all_but_last P ys x all.1 in
    ((all.0, rest.0), rest.1)

apart_more : (ps : List Piece) (l : Piece) → AreApart ps → AllByRecursion (λ p. IsApart p.path.now l) ps
    → AreApart (ps ++ l ∷ [])
apart_more [] l apart from = (tt, tt)
apart_more (p ∷ ps) l apart from = (
  all_more (IsApart p.path.now) ps l apart.0 from.0,
  apart_more ps l apart.1 from.1,
)

separate_more : (ps : List Piece) (l : Piece) → ((i : ℕ) (p : Piece) → slice_get ps i ≡ Some p → IsSeparate p)
    → IsSeparate l → (i : ℕ) (p : Piece) → slice_get (ps ++ l ∷ []) i ≡ Some p → IsSeparate p
separate_more [] l each here zero p is =
    let same : l ≡ p = cc is in
    subst IsSeparate same here
separate_more [] l each here (suc i) p is = absurd (cc is)
separate_more (x ∷ ps) l each here zero p is = each zero p is
separate_more (x ∷ ps) l each here (suc i) p is =
    separate_more ps l (λ j q at. each (suc j) q at) here i p is

-- ---- names

last_apart : (folder checkpoint : List ℕ) (l : Piece) → IsOwn folder checkpoint l → (names : List (List ℕ)) (ps : List Piece)
    → map (λ p. p.path.now) ps ≡ map (below folder) names → AllByRecursion IsName names
    → AllByRecursion (λ p. HasPartEnd p.part.now) ps
    → AllByRecursion (IsApart l.path.now) ps × AllByRecursion (λ p. IsApart p.path.now l) ps
last_apart folder checkpoint l is [] [] paths are parts = (tt, tt)
last_apart folder checkpoint l is [] (p ∷ ps) paths are parts = absurd (cc paths)
last_apart folder checkpoint l is (n ∷ ns) [] paths are parts = absurd (cc paths)
last_apart folder checkpoint l is (n ∷ ns) (p ∷ ps) paths are parts =
    let first : p.path.now ≡ below folder n = cc paths in
    let later : map (λ p. p.path.now) ps ≡ map (below folder) ns = cc paths in
    let rest = last_apart folder checkpoint l is ns ps later are.1 parts.1 in (
      (
        (λ same. is.beside.apart n (same ∙ first), λ same. is.beside.own (subst HasPartEnd (sym same) parts.0)),
        rest.0,
      ),
      (
        (λ same. is.beside.apart n (sym same ∙ first), λ same. not_part folder n l.part.now are.0 is.part (sym first ∙ same)),
        rest.1,
      ),
    )

-- the pieces of the log and the one beside have names of their own, with that one as a head
names_to_last : (folder : List ℕ) (files : List Named) (checkpoint : List ℕ) (ps : List Piece) (l head : Piece)
    → AreSuch IsName files → AreBelow folder files ps head → IsOwn folder checkpoint l → HaveNames ps l
names_to_last folder files checkpoint ps l head such at is =
    let both = last_apart folder checkpoint l is (names_of files) ps at.paths such.such at.parts in
    record {
      pieces = (own_names folder files ps head such at).pieces;
      head_from_pieces = both.0;
      pieces_from_head = both.1;
    }

-- and so have all of them and the head
names_with_last : (folder : List ℕ) (files : List Named) (checkpoint : List ℕ) (ps : List Piece) (l head : Piece)
    → AreSuch IsName files → AreBelow folder files ps head → IsOwn folder checkpoint l → HaveNames (ps ++ l ∷ []) head
names_with_last folder files checkpoint ps l head such at is =
    let both = last_apart folder checkpoint l is (names_of files) ps at.paths such.such at.parts in
    let own = own_names folder files ps head such at in
    record {
      pieces = apart_more ps l own.pieces both.1;
      head_from_pieces = all_more (IsApart head.path.now) ps l own.head_from_pieces (
        λ same. is.beside.apart _ (sym same ∙ at.head_path),
        λ same. head_not_part folder l.part.now is.part (sym at.head_path ∙ same),
      );
      pieces_from_head = all_more (λ p. IsApart p.path.now head) ps l own.pieces_from_head (
        λ same. is.beside.apart _ (same ∙ at.head_path),
        λ same. is.beside.own (subst HasPartEnd (sym same) at.head_part),
      );
    }

all_separate : (folder : List ℕ) (files : List Named) (checkpoint : List ℕ) (ps : List Piece) (l head : Piece)
    → AreSuch IsName files → AreBelow folder files ps head → IsOwn folder checkpoint l
    → (i : ℕ) (p : Piece) → slice_get (ps ++ l ∷ []) i ≡ Some p → IsSeparate p
all_separate folder files checkpoint ps l head such at is =
    separate_more ps l (separate folder files ps head such at) (λ same. is.beside.own (subst HasPartEnd same is.part))

-- ---- at each moment

-- while a piece is written, it is one of the log, or the one beside, as a head is behind them
of_front : (m a n : Files) (ps : List Piece) (l : Piece) (i : ℕ) (p : Piece) → FirstWritten m (ps ++ l ∷ []) i a
    → slice_get (ps ++ l ∷ []) i ≡ Some p → IsWritingPiece a p n
    → FirstWritten m ps i a × IsWritingNext a (slice_get ps i) l n
of_front m a n [] l zero p first is writing =
    let same : p ≡ l = cc is in
    (first, subst (λ (x : Piece). IsWritingPiece a x n) same writing)
of_front m a n [] l (suc i) p first is writing = absurd (cc is)
of_front m a n (x ∷ ps) l zero p first is writing =
    let same : p ≡ x = cc is in
    (first, subst (λ (y : Piece). IsWritingPiece a y n) same writing)
of_front m a n (x ∷ ps) l (suc i) p first is writing =
    let rest = of_front first.0 a n ps l i p first.2 is writing in
    ((first.0, first.1, rest.0), rest.1)

last_at : (m a n : Files) (ps : List Piece) (l head : Piece) (i : ℕ) (next : Option Piece) → HaveNames ps l
    → HaveNames (ps ++ l ∷ []) head → FirstWritten m (ps ++ l ∷ []) i a → slice_get (ps ++ l ∷ []) i ≡ next
    → IsWritingNext a next head n
    → (n l.path.now ≡ m l.path.now) ⊎ (AreWhole ps n × IsWhole l.bytes.now (n l.path.now))
last_at m a n ps l head i (Some p) names all first is writing =
    let front = of_front m a n ps l i p first is writing in
    head_last m n ps l names (i, a, front.0, front.1)
last_at m a n ps l head i None names all first is writing =
    inr (all_but_last (λ p. IsWhole p.bytes.now (n p.path.now)) ps l
    (still_whole a n (ps ++ l ∷ []) head writing all.pieces_from_head
    (all_whole m (ps ++ l ∷ []) i a first is all.pieces)))

-- ---- as files of a log

files_whole : (folder : List ℕ) (files : List Named) (checkpoint : List ℕ) (ps : List Piece) (head : Piece) (n : Files)
    → ArePieces folder files checkpoint ps head → AreWhole ps n
    → AllByRecursion (λ file. IsWhole file.bytes (n (below folder file.name))) files
files_whole folder files checkpoint ps head n are whole =
    stand folder files ps n are.names.paths are.bytes whole

last_whole : (folder checkpoint : List ℕ) (l : Piece) (n : Files) → IsOwn folder checkpoint l
    → IsWhole l.bytes.now (n l.path.now) → IsWhole checkpoint (n l.path.now)
last_whole folder checkpoint l n is whole = subst (λ (b : List ℕ). IsWhole b (n l.path.now)) is.bytes whole

all_stand : (folder : List ℕ) (files : List Named) (checkpoint : List ℕ) (ps : List Piece) (l head : Piece) (n : Files)
    → ArePieces folder files checkpoint ps head → IsOwn folder checkpoint l → AreWhole (ps ++ l ∷ []) n
    → IsWhole head.bytes.now (n head.path.now) → StandAll folder files l.path.now checkpoint n
all_stand folder files checkpoint ps l head n are is whole top =
    let both = all_but_last (λ p. IsWhole p.bytes.now (n p.path.now)) ps l whole in
    let here : IsWhole head.bytes.now (n (checkpoint_path folder))
    = subst (λ (q : List ℕ). IsWhole head.bytes.now (n q)) are.names.head_path top in (
      (
        files_whole folder files checkpoint ps head n are both.0,
        subst (λ (b : List ℕ). IsWhole b (n (checkpoint_path folder))) are.head_bytes here,
      ),
      last_whole folder checkpoint l n is both.1,
    )

stopped : (m n : Files) (folder : List ℕ) (files : List Named) (checkpoint : List ℕ) (ps : List Piece) (l head : Piece)
    → AreSuch IsName files → ArePieces folder files checkpoint ps head → IsOwn folder checkpoint l
    → IsPublishing m (ps ++ l ∷ []) head n → AreWritten m folder files l.path.now checkpoint n
stopped m n folder files checkpoint ps l head such are is publishing =
    let names = names_to_last folder files checkpoint ps l head such are.names is in
    let all = names_with_last folder files checkpoint ps l head such are.names is in
    record {
      last_after = elim (last_at m publishing.1 n ps l head publishing.0 _ names all publishing.2 refl publishing.3) [
        | inl old ↦ inl old
        | inr new ↦ inr (
          files_whole folder files checkpoint ps head n are new.0,
          last_whole folder checkpoint l n is new.1,
        )
      ];
      head_after = elim (head_last m n (ps ++ l ∷ []) head all publishing) [
        | inl old ↦ inl (subst (λ (q : List ℕ). n q ≡ m q) are.names.head_path old)
        | inr new ↦ inr (all_stand folder files checkpoint ps l head n are is new.0 new.1)
      ];
    }

-- ---- after the call

answered : (m n : Files) (folder : List ℕ) (files : List Named) (checkpoint : List ℕ) (ps : List Piece) (l head : Piece)
    (result : Result Written PublishError) → AreSuch IsName files → ArePieces folder files checkpoint ps head
    → IsOwn folder checkpoint l → Publishes m (ps ++ l ∷ []) head result n
    → AreWritten m folder files l.path.now checkpoint n
answered m n folder files checkpoint ps l head result such are is done =
    stopped m n folder files checkpoint ps l head such are is
    (moment m n (ps ++ l ∷ []) head result (all_separate folder files checkpoint ps l head such are.names is)
    (head_separate folder files ps head are.names) done)

if_all_done : (m n : Files) (folder : List ℕ) (files : List Named) (checkpoint : List ℕ) (ps : List Piece) (l head : Piece)
    (result : Result Written PublishError) → AreSuch IsName files → ArePieces folder files checkpoint ps head
    → IsOwn folder checkpoint l → Publishes m (ps ++ l ∷ []) head result n
    → IfOk result (λ _. StandAll folder files l.path.now checkpoint n)
if_all_done m n folder files checkpoint ps l head (Ok written) such are is done =
    let names = names_with_last folder files checkpoint ps l head such are.names is in
    let before : AreWhole (ps ++ l ∷ []) done.0
    = all_whole m (ps ++ l ∷ []) (length (ps ++ l ∷ [])) done.0 done.1 (slice_get_past (ps ++ l ∷ []) (length (ps ++ l ∷ [])) (omega arith)) names.pieces in
    let last : IsWritingPiece done.0 head n = written_in done.0 head n (head_separate folder files ps head are.names) done.2 in
    all_stand folder files checkpoint ps l head n are is
    (still_whole done.0 n (ps ++ l ∷ []) head last names.pieces_from_head before) (_, done.2.whole)
if_all_done m n folder files checkpoint ps l head (Err error) such are is done = tt

-- ---- as code has them

-- the piece at the path beside the log
pub record IsLast (folder last checkpoint : List ℕ) (l : Piece) : Type 0 where
  pub path : l.path.now ≡ last
  pub beside : IsBeside folder last
  pub part : HasPartEnd l.part.now
  pub bytes : l.bytes.now ≡ checkpoint

own : (folder last checkpoint : List ℕ) (l : Piece) → IsLast folder last checkpoint l → IsOwn folder checkpoint l
own folder last checkpoint l is = record {
  beside = subst (IsBeside folder) (sym is.path) is.beside;
  part = is.part;
  bytes = is.bytes;
}

pub separate_with : (folder : List ℕ) (files : List Named) (last checkpoint : List ℕ) (ps all : List Piece) (l head : Piece)
    → AreSuch IsName files → ArePieces folder files checkpoint ps head → IsLast folder last checkpoint l
    → all ≡ ps ++ l ∷ [] → (i : ℕ) (p : Piece) → slice_get all i ≡ Some p → IsSeparate p
separate_with folder files last checkpoint ps all l head such are is same =
    subst (λ (q : List Piece). (i : ℕ) (p : Piece) → slice_get q i ≡ Some p → IsSeparate p) (sym same)
    (all_separate folder files checkpoint ps l head such are.names (own folder last checkpoint l is))

pub stopped_with : (m n : Files) (folder : List ℕ) (files : List Named) (last checkpoint : List ℕ) (ps all : List Piece)
    (l head : Piece) → AreSuch IsName files → ArePieces folder files checkpoint ps head → IsLast folder last checkpoint l
    → all ≡ ps ++ l ∷ [] → IsPublishing m all head n → AreWritten m folder files last checkpoint n
stopped_with m n folder files last checkpoint ps all l head such are is same publishing =
    subst (λ (q : List ℕ). AreWritten m folder files q checkpoint n) is.path
    (stopped m n folder files checkpoint ps l head such are (own folder last checkpoint l is)
    (subst (λ (q : List Piece). IsPublishing m q head n) same publishing))

pub answered_with : (m n : Files) (folder : List ℕ) (files : List Named) (last checkpoint : List ℕ) (ps all : List Piece)
    (l head : Piece) (result : Result Written PublishError) → AreSuch IsName files
    → ArePieces folder files checkpoint ps head → IsLast folder last checkpoint l → all ≡ ps ++ l ∷ []
    → Publishes m all head result n → AreWritten m folder files last checkpoint n
answered_with m n folder files last checkpoint ps all l head result such are is same done =
    subst (λ (q : List ℕ). AreWritten m folder files q checkpoint n) is.path
    (answered m n folder files checkpoint ps l head result such are (own folder last checkpoint l is)
    (subst (λ (q : List Piece). Publishes m q head result n) same done))

pub done_with : (m n : Files) (folder : List ℕ) (files : List Named) (last checkpoint : List ℕ) (ps all : List Piece)
    (l head : Piece) (result : Result Written PublishError) → AreSuch IsName files
    → ArePieces folder files checkpoint ps head → IsLast folder last checkpoint l → all ≡ ps ++ l ∷ []
    → Publishes m all head result n → IfOk result (λ _. StandAll folder files last checkpoint n)
done_with m n folder files last checkpoint ps all l head result such are is same done =
    subst (λ (q : List ℕ). IfOk result (λ _. StandAll folder files q checkpoint n)) is.path
    (if_all_done m n folder files checkpoint ps l head result such are (own folder last checkpoint l is)
    (subst (λ (q : List Piece). Publishes m q head result n) same done))

-- ---- a path that is beside a log, by its text

pub not_end : (s p : List ℕ) (r : Bool) → r ≡ ends_with eqb s p → r ≡ false → (front : List ℕ) → s ≢ front ++ p
not_end s p r is differs front same =
    let yes : true ≡ false = sym ((ends_is Decides-eqb s p r is).1 front same) ∙ differs in
    cc yes

not_start : (s p : List ℕ) (r : Bool) → r ≡ starts_with eqb s p → r ≡ false → (rest : List ℕ) → s ≢ p ++ rest
not_start s p r is differs rest same =
    let yes : true ≡ false = sym ((starts_is Decides-eqb s p r is).1 rest same) ∙ differs in
    cc yes

pub is_false : (r : Bool) → IsTrue (not r) → r ≡ false
is_false true t = cc t
is_false false t = refl

-- what stands behind a folder begins with no slash
pub not_below : (folder path rest : List ℕ) (r : Bool) → path ≡ folder ++ rest → r ≡ starts_with eqb rest (codes "/")
    → r ≡ false → (name : List ℕ) → path ≢ below folder name
not_below folder path rest r is starts other name same =
    not_start rest (codes "/") r starts other name (append_cancel_left folder rest (47 ∷ name) (sym is ∙ same))

pub beside_by : (folder path : List ℕ) → ((front : List ℕ) → path ≢ front ++ codes ".part")
    → ((front : List ℕ) → path ≢ front ++ codes ".part_") → ((name : List ℕ) → path ≢ below folder name)
    → IsBeside folder path
beside_by folder path part line apart = record {
  apart = apart;
  own = λ ends. elim ends [
    | inl p ↦ part p.0 p.1
    | inr p ↦ line p.0 p.1
  ];
}
