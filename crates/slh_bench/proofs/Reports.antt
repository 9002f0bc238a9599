-- A report that is written in two parts.
use Rattle.std.proofs.Common.{ℕ, List, [], ◌++◌, refl, ap, ◌∙◌, append_assoc, Option}
use Rattle.std.proofs.KnownBytes.{Appends-nil}
use Rattle.line_serve.specs.Engine.{TakesFront}

-- nothing of it is written
pub nothing_taken : (a : Option (List ℕ)) (text : List ℕ) → TakesFront a a text
nothing_taken a text = record { front = []; rest = text; appends = Appends-nil a; split = refl }

-- a front of the first part is
pub front_taken : (a b : Option (List ℕ)) (first second : List ℕ) → TakesFront a b first → TakesFront a b (first ++ second)
front_taken a b first second took = record {
  front = took.front;
  rest = took.rest ++ second;
  appends = took.appends;
  split = ap (λ l. l ++ second) took.split ∙ append_assoc took.front took.rest second;
}
