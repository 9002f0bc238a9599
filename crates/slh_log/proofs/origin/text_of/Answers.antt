use Rattle.std.proofs.lemmas.Grind.{common_steps}
use Rattle.std.proofs.Common.{◌≡◌, List, ℕ, [], refl, inl, inr, arith}
use Rattle.std.specs.Str.{IsUtf8, is_utf8}
use Rattle.std.proofs.lemmas.Bool.{cases_Bool}
use Rattle.std.proofs.lemmas.Str.{IsUtf8-from_is_utf8, is_utf8-from_IsUtf8}
use Rattle.slh_log.specs.Reading.{text_of}
use Rattle.slh_log.proofs.origin.text_of.Goals as goal

is_text : (bytes : List ℕ) → IsUtf8 bytes → bytes ≡ text_of bytes
is_text bytes is =
    let text = is_utf8-from_IsUtf8 bytes is in
    rw text refl

is_none : (bytes : List ℕ) → ¬ (IsUtf8 bytes) → [] ≡ text_of bytes
is_none bytes not = elim (cases_Bool (is_utf8 bytes)) [
  | inl text ↦ absurd (not (IsUtf8-from_is_utf8 bytes text))
  | inr none ↦ rw none refl
]

pub returns-in-Ok : goal.returns-in-Ok
returns-in-Ok c = rw c.in-Ok.ensures.cases.0 (is_text c.args.bytes.now c.in-Ok.ensures.cases.1)

pub returns-in-Err : goal.returns-in-Err
returns-in-Err c = is_none c.args.bytes.now c.in-Err.ensures.cases.0

pub returns-in-Ok-text : goal.returns-in-Ok-text
returns-in-Ok-text c = grind (arith, common_steps)
