-- What a verifier or a signer is begun for.
use Rattle.std.specs.Prelude.{ℕ, List, Option}
use Rattle.slh_frames.specs.declared.frame.Mode.{Mode}

-- A verifier has no randomizer and no R, and a signer no signature: these are any. R is that of a
-- second pass, from the first.
pub record Terms : Type 0 where
  pub mode : Mode
  pub key : List ℕ
  pub context : List ℕ
  pub opt_rand : Option (List ℕ)
  pub signature : List ℕ
  pub rand : List ℕ
