-- The text of a string of JSON, a byte after the other.
use Rattle.std.proofs.Common.{◌≡◌, ℕ, ◌+◌, ◌<◌, List, ◌++◌, length, take, get_or, ◌∙◌, ap, sym}
use Rattle.slh_bytes.specs.Verdicts.{json_byte, json_text}
use Rattle.slh_bytes.proofs.Texts.{text_more}

pub byte_more : (text after bytes : List ℕ) (i byte : ℕ) → i < length bytes
    → text ≡ json_text (take i bytes)
    → after ≡ text ++ json_byte (get_or bytes i byte)
    → after ≡ json_text (take (i + 1) bytes)
byte_more text after bytes i byte below so_far next =
    next ∙ ap (λ (l : List ℕ). l ++ json_byte (get_or bytes i byte)) so_far
    ∙ sym (text_more json_byte bytes i byte below)
