-- What a whole run has done between ends that tell their bytes.
use Rattle.std.proofs.Common.{◌≡◌, ℕ, ◌<◌, List, ◌++◌, length, Option, Some, None, sym, ◌∙◌, ap, subst}
use Rattle.std.proofs.lemmas.List.{append-nil}
use Rattle.line_serve.specs.Lines.{lines, replies_to}
use Rattle.line_serve.specs.Served.{Served, AnswersAll, input_limit}

pub answers_all : (reply : List ℕ → List ℕ) (left left' taken taken' : Option (List ℕ)) (status : ℕ) → Served reply left left' taken taken' status → status ≡ 0 → AnswersAll reply left left' taken taken'
answers_all reply None left' taken taken' status s zero = tt
answers_all reply (Some input) left' None taken' status s zero = tt
answers_all reply (Some input) None (Some before) taken' status s zero = absurd s.consumed
answers_all reply (Some input) (Some rest) (Some before) None status s zero = absurd s.appended
answers_all reply (Some input) (Some rest) (Some before) (Some after) status s zero =
    let done = s.answered zero in
    let all : input ≡ s.p = s.consumed ∙ ap (λ (l : List ℕ). s.p ++ l) done.0 ∙ append-nil s.p in (
      ap Some done.0,
      subst (λ (l : List ℕ). length l < input_limit) (sym all) done.1,
      ap Some (s.appended ∙ ap (λ (l : List ℕ). before ++ l) (done.2 ∙ ap (λ (l : List ℕ). replies_to reply (lines l)) (sym all))),
    )
