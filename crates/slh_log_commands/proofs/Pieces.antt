-- The files of a log, their names and their pieces.
use Rattle.std.proofs.Common.{◌≡◌, ◌⊎◌, ◌∙◌, refl, ℕ, List, [], ◌∷◌, ◌++◌, None, Result, Ok, Err, IfOk, sym, ap, subst, inl, inr, length, map, string_bytes}
use Rattle.std.specs.List.{AllByRecursion}
use Rattle.std.proofs.lemmas.List.{length-map, map-append}
use Rattle.log_files.proofs.HeadLast.{all_done}
use Rattle.log_files.specs.Appending.{Named, named}
use Rattle.log_files.specs.Names.{ArePieces, AreSuch, IsName, StandWhole, below, checkpoint_path, names_of}
use Rattle.log_files.specs.Publishing.{IsWhole, Publishes}
use Rattle.log_files.specs.declared.appending.LogFile.{LogFile}
use Rattle.log_files.specs.declared.error.PublishError.{PublishError}
use Rattle.log_files.specs.declared.publishing.Piece.{Piece}
use Rattle.slh_log_commands.specs.Writing.{AreNamesOf, ArePiecesOf, IsHeadNew}
use Rattle.slh_log_commands.specs.declared.file_names.Names.{Names}
use Rattle.whole_files.specs.Files.{Files}
use Rattle.whole_files.specs.Parts.{HasPartEnd}
use Rattle.whole_files.specs.Whole.{IsMaking, MakesNew}
use Rattle.whole_files.specs.declared.error.WriteError.{WriteError}
use Rattle.whole_files.specs.declared.error.WriteError.TheVariants.{Failed, Left, NotRegular, Taken}
use Rattle.whole_files.specs.declared.error.Written.{Written}
use Rattle.whole_files.specs.declared.file.Mode.{Mode}

-- one more of each
same_last : {A B : Type 0} (g : A → List ℕ) (h : B → List ℕ) (xs : List A) (ys : List B) (x : A) (y : B)
    → map g xs ≡ map h ys → g x ≡ h y → map g (xs ++ x ∷ []) ≡ map h (ys ++ y ∷ [])
same_last g h xs ys x y before here =
    map-append g xs (x ∷ []) ∙ ap (λ (l : List (List ℕ)). l ++ g x ∷ []) before
    ∙ ap (λ (q : List ℕ). map h ys ++ q ∷ []) here ∙ sym (map-append h ys (y ∷ []))

all_last : {A : Type 0} (P : A → Type 0) (xs : List A) (x : A) → AllByRecursion P xs → P x → AllByRecursion P (xs ++ x ∷ [])
all_last P [] x all here = (here, tt)
all_last P (y ∷ ys) x all here = (all.0, all_last P ys x all.1 here)

pub one_named : (folder : List ℕ) (files : List LogFile) (names : List Names) (file : LogFile) (name : Names)
    → AreNamesOf folder files names → string_bytes name.path ≡ below folder (string_bytes file.name)
    → HasPartEnd (string_bytes name.part) → AreNamesOf folder (files ++ file ∷ []) (names ++ name ∷ [])
one_named folder files names file name are path part = record {
  paths = same_last (λ (n : Names). string_bytes n.path) (λ (f : LogFile). below folder (string_bytes f.name)) names files name file are.paths path;
  parts = all_last (λ (n : Names). HasPartEnd (string_bytes n.part)) names name are.parts part;
}

pub one_piece : (files : List LogFile) (names : List Names) (ps : List Piece) (file : LogFile) (name : Names) (p : Piece)
    → ArePiecesOf files names ps → p.path.now ≡ string_bytes name.path → p.part.now ≡ string_bytes name.part
    → p.bytes.now ≡ file.bytes.items → ArePiecesOf (files ++ file ∷ []) (names ++ name ∷ []) (ps ++ p ∷ [])
one_piece files names ps file name p are path part bytes = record {
  paths = same_last (λ (x : Piece). x.path.now) (λ (n : Names). string_bytes n.path) ps names p name are.paths path;
  parts = same_last (λ (x : Piece). x.part.now) (λ (n : Names). string_bytes n.part) ps names p name are.parts part;
  bytes = same_last (λ (x : Piece). x.bytes.now) (λ (f : LogFile). f.bytes.items) ps files p file are.bytes bytes;
}

pub as_many : (folder : List ℕ) (files : List LogFile) (names : List Names) → AreNamesOf folder files names
    → length names ≡ length files
as_many folder files names are =
    sym (length-map names (λ (n : Names). string_bytes n.path))
    ∙ ap (λ (l : List (List ℕ)). length l) are.paths
    ∙ length-map files (λ (f : LogFile). below folder (string_bytes f.name))

-- ---- all pieces

paths_named : (folder : List ℕ) (files : List LogFile)
    → map (λ (f : LogFile). below folder (string_bytes f.name)) files ≡ map (below folder) (names_of (map named files))
paths_named folder [] = refl
paths_named folder (f ∷ fs) =
    ap (λ (l : List (List ℕ)). below folder (string_bytes f.name) ∷ l) (paths_named folder fs)

bytes_named : (files : List LogFile)
    → map (λ (f : LogFile). f.bytes.items) files ≡ map (λ (f : Named). f.bytes) (map named files)
bytes_named [] = refl
bytes_named (f ∷ fs) = ap (λ (l : List (List ℕ)). f.bytes.items ∷ l) (bytes_named fs)

parts_all : (ps : List Piece) (names : List Names)
    → map (λ (p : Piece). p.part.now) ps ≡ map (λ (n : Names). string_bytes n.part) names
    → AllByRecursion (λ n. HasPartEnd (string_bytes n.part)) names → AllByRecursion (λ p. HasPartEnd p.part.now) ps
parts_all [] names same all = tt
parts_all (p ∷ ps) [] same all = absurd (cc same)
parts_all (p ∷ ps) (n ∷ ns) same all =
    let here : p.part.now ≡ string_bytes n.part = cc same in
    let later : map (λ (p : Piece). p.part.now) ps ≡ map (λ (n : Names). string_bytes n.part) ns = cc same in
    (subst HasPartEnd (sym here) all.0, parts_all ps ns later all.1)

all_pieces : (folder : List ℕ) (files : List LogFile) (names : List Names) (checkpoint : List ℕ) (ps : List Piece)
    (head : Piece) → AreNamesOf folder files names → ArePiecesOf files names ps
    → head.path.now ≡ checkpoint_path folder → HasPartEnd head.part.now → head.bytes.now ≡ checkpoint
    → ArePieces folder (map named files) checkpoint ps head
all_pieces folder files names checkpoint ps head named_are are path part bytes = record {
  names = record {
    paths = are.paths ∙ named_are.paths ∙ paths_named folder files;
    parts = parts_all ps names are.parts named_are.parts;
    head_path = path;
    head_part = part;
  };
  bytes = are.bytes ∙ bytes_named files;
  head_bytes = bytes;
}

-- the same by the names and slices that code has
pub pieces_are : (folder : List ℕ) (files : List LogFile) (names slice : List Names) (pieces ps : List Piece)
    (checkpoint : List ℕ) (head : Piece) (head_names : Names) → AreNamesOf folder files names → slice ≡ names
    → ArePiecesOf files slice pieces → ps ≡ pieces → head.path.now ≡ string_bytes head_names.path
    → string_bytes head_names.path ≡ checkpoint_path folder → head.part.now ≡ string_bytes head_names.part
    → HasPartEnd (string_bytes head_names.part) → head.bytes.now ≡ checkpoint
    → ArePieces folder (map named files) checkpoint ps head
pieces_are folder files names slice pieces ps checkpoint head head_names named_are same are same_ps path path_is part end bytes =
    let here : ArePiecesOf files names pieces = subst (λ (l : List Names). ArePiecesOf files l pieces) same are in
    let all : ArePiecesOf files names ps = subst (λ (l : List Piece). ArePiecesOf files names l) (sym same_ps) here in
    all_pieces folder files names checkpoint ps head named_are all (path ∙ path_is)
    (subst HasPartEnd (sym part) end) bytes

-- after `Ok` all files stand
pub if_done : (m n : Files) (folder : List ℕ) (files : List Named) (checkpoint : List ℕ) (ps : List Piece) (head : Piece)
    (result : Result Written PublishError) → AreSuch IsName files → ArePieces folder files checkpoint ps head
    → Publishes m ps head result n → IfOk result (λ _. StandWhole folder files checkpoint n)
if_done m n folder files checkpoint ps head (Ok written) such are done =
    all_done m n folder files checkpoint ps head written such are done
if_done m n folder files checkpoint ps head (Err error) such are done = tt

-- ---- a new checkpoint

pub making_new : (m n : Files) (folder path part bytes : List ℕ) (mode : Mode) → path ≡ checkpoint_path folder
    → IsMaking m path part mode bytes n → IsHeadNew m folder bytes n
making_new m n folder path part bytes mode is making =
    subst (λ (q : List ℕ). (n q ≡ m q) ⊎ ((m q ≡ None) × IsWhole bytes (n q))) is
    (elim making.at [
      | inl old ↦ inl old
      | inr new ↦ inr (new.0, (mode, new.1))
    ])

pub head_made : (m n : Files) (folder path part bytes : List ℕ) (mode : Mode) (result : Result Written WriteError)
    → path ≡ checkpoint_path folder → MakesNew m path part mode bytes result n → IsHeadNew m folder bytes n
head_made m n folder path part bytes mode (Ok written) is made =
    subst (λ (q : List ℕ). (n q ≡ m q) ⊎ ((m q ≡ None) × IsWhole bytes (n q))) is (inr (made.free, (mode, made.whole)))
head_made m n folder path part bytes mode (Err NotRegular) is made = absurd made
head_made m n folder path part bytes mode (Err Taken) is made = inl (made.0 (checkpoint_path folder))
head_made m n folder path part bytes mode (Err Failed) is made = inl (made (checkpoint_path folder))
head_made m n folder path part bytes mode (Err Left) is made = making_new m n folder path part bytes mode is made
