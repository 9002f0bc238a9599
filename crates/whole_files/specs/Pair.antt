-- Two files that are made together.
use Rattle.std.specs.Prelude.{◌≡◌, ◌≢◌, ◌⊎◌, ℕ, List, None, Result, Ok, Err}
use Rattle.whole_files.specs.declared.error.WriteError.{WriteError}
use Rattle.whole_files.specs.declared.error.WriteError.TheVariants.{NotRegular, Taken, Failed, Left}
use Rattle.whole_files.specs.declared.file.Mode.{Mode}
use Rattle.whole_files.specs.declared.file.Mode.TheVariants.{Masked}
use Rattle.whole_files.specs.Files.{Files, Same, Puts}
use Rattle.whole_files.specs.Modes.{secret_mode}
use Rattle.whole_files.specs.Whole.{HasWhole, HasBegun}

-- the paths of a secret and its part, and of a public file and its part
pub record AreApart (kp ks pp ps : List ℕ) : Type 0 where
  pub secret : ks ≢ kp
  pub public : ps ≢ pp
  pub paths : kp ≢ pp
  pub path_part : kp ≢ ps
  pub part_path : ks ≢ pp
  pub parts : ks ≢ ps

-- what was there, or a new file where nothing was
abbrev pub IsOldOrNew : Files → List ℕ → Mode → List ℕ → Files → Type 0
IsOldOrNew m path mode bytes n = (n path ≡ m path) ⊎ ((m path ≡ None) × HasWhole mode bytes (n path))

-- At each moment of the making of two files: each path has what it had, or the new file, whole, where
-- nothing stood; beside each stands what stood there, or a file that is begun; and all else is the same.
pub record IsPairing (m : Files) (kp ks key pp ps public : List ℕ) (n : Files) : Type 0 where
  pub secret_at : IsOldOrNew m kp secret_mode key n
  pub secret_beside : (n ks ≡ m ks) ⊎ HasBegun secret_mode key (n ks)
  pub public_at : IsOldOrNew m pp Masked public n
  pub public_beside : (n ps ≡ m ps) ⊎ HasBegun Masked public (n ps)
  pub others : (q : List ℕ) → q ≢ kp → q ≢ ks → q ≢ pp → q ≢ ps → n q ≡ m q

-- both files stand whole where nothing stood, and all else is the same
pub record IsPair (m : Files) (kp ks key pp ps public : List ℕ) (n : Files) : Type 0 where
  pub secret_free : m kp ≡ None
  pub public_free : m pp ≡ None
  pub secret : HasWhole secret_mode key (n kp)
  pub public_file : HasWhole Masked public (n pp)
  pub others : (q : List ℕ) → q ≢ kp → q ≢ pp → n q ≡ m q

abbrev pub Pairs : {A : Type 0} → Files → List ℕ → List ℕ → List ℕ → List ℕ → List ℕ → List ℕ
    → Result A WriteError → Files → Type 0
Pairs m kp ks key pp ps public (Ok _) n = IsPair m kp ks key pp ps public n
Pairs m kp ks key pp ps public (Err NotRegular) n = ⊥
Pairs m kp ks key pp ps public (Err Taken) n =
    Same m n × (((m ks ≢ None) ⊎ (m kp ≢ None)) ⊎ ((m ps ≢ None) ⊎ (m pp ≢ None)))
Pairs m kp ks key pp ps public (Err Failed) n = Same m n
Pairs m kp ks key pp ps public (Err Left) n = IsPairing m kp ks key pp ps public n

-- after an error that left nothing, a path was taken away, or that failed; after one that left
-- something, nothing is touched
abbrev pub TakesBack : Files → List ℕ → WriteError → WriteError → Files → Type 0
TakesBack m path NotRegular answer n = ((answer ≡ NotRegular) × Puts m path None n) ⊎ ((answer ≡ Left) × Same m n)
TakesBack m path Taken answer n = ((answer ≡ Taken) × Puts m path None n) ⊎ ((answer ≡ Left) × Same m n)
TakesBack m path Failed answer n = ((answer ≡ Failed) × Puts m path None n) ⊎ ((answer ≡ Left) × Same m n)
TakesBack m path Left answer n = (answer ≡ Left) × Same m n
