-- Names of files that are begun.
use Rattle.std.specs.Prelude.{◌≡◌, ◌⊎◌, ℕ, true, List, All, length, ◌++◌, codes}
use Rattle.std.specs.Char.{is_ascii_hexdigit}

-- 16 hexadecimal digits and `.part`
pub record IsPartName (name : List ℕ) : Type 0 where
  pub digits : List ℕ
  pub whole : name ≡ digits ++ codes ".part"
  pub count : length digits ≡ 16
  pub are_digits : All (λ c. is_ascii_hexdigit c ≡ true) digits

abbrev pub EndsIn : List ℕ → List ℕ → Type 0
EndsIn end text = (front : List ℕ) × (text ≡ front ++ end)

-- a path ends as that of a file that is begun
abbrev pub HasPartEnd : List ℕ → Type 0
HasPartEnd path = EndsIn (codes ".part") path ⊎ EndsIn (codes ".part_") path
