-- The bytes of a string that are lent to be written over.
use Rattle.std.specs.Prelude.{ℕ, List, take, drop, ◌++◌, length}
use Rattle.std.specs.Borrow.{Lends, MutBor, Fml, Array, u8}
use Rattle.line_serve.specs.contracts.bytes.ByteString.{the_row}

-- ws in place of xs, with the length of xs
abbrev pub refill : List ℕ → List ℕ → List ℕ
refill xs ws = take (length xs) (ws ++ drop (length ws) xs)

-- the string ends with what is left behind r
abbrev pub LendsBytes : MutBor (List ℕ) → MutBor (List ℕ) → Fml
LendsBytes s r = Lends the_row (Array u8 0) s r (refill s.now)
