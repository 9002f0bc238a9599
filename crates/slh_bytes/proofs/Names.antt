-- Names that are printed as they stand, and others.
use Rattle.std.proofs.Common.{◌≡◌, ℕ, Bool, true, false, List, ◌++◌, ap, sym, ◌∙◌, map, not}
use Rattle.std.proofs.Math.Utf8.{encode}
use Rattle.std.proofs.lemmas.Bool.{false_from_ne_true}
use Rattle.std.proofs.lemmas.Str.{IsUtf8-from_is_utf8, chars_past_char, is_utf8-from_IsUtf8}
use Rattle.std.specs.Char.{is_control}
use Rattle.std.specs.Prelude.{◌&&◌, ◌||◌, if◌then◌else◌}
use Rattle.std.specs.Str.{chars, is_utf8, IsUtf8}
use Rattle.slh_bytes.specs.Shown.{has_control, shown_byte, shown_name}

-- the first character says so, or what follows it
pub has_control-first : (bs rest : List ℕ) (c : ℕ) → IsUtf8 bs → bs ≡ encode c ++ rest
    → has_control (chars bs) ≡ is_control c || has_control (chars rest)
has_control-first bs rest c valid is = ap has_control (chars_past_char bs rest c valid is)

-- what a name is shown as, by the two tests of it
abbrev shown_by : List ℕ → Bool → Bool → List ℕ
shown_by name utf8 control = if utf8 && not control then name else map shown_byte name

pub shown-plain : (name : List ℕ) → IsUtf8 name → has_control (chars name) ≡ false
    → name ≡ shown_name name
shown-plain name valid none =
    sym (ap (λ (b : Bool). shown_by name b (has_control (chars name))) (is_utf8-from_IsUtf8 name valid)
    ∙ ap (λ (b : Bool). shown_by name true b) none)

pub shown-control : (name : List ℕ) → IsUtf8 name → has_control (chars name) ≡ true
    → map shown_byte name ≡ shown_name name
shown-control name valid some =
    sym (ap (λ (b : Bool). shown_by name b (has_control (chars name))) (is_utf8-from_IsUtf8 name valid)
    ∙ ap (λ (b : Bool). shown_by name true b) some)

pub shown-other : (name : List ℕ) → ¬ IsUtf8 name → map shown_byte name ≡ shown_name name
shown-other name invalid =
    sym (ap (λ (b : Bool). shown_by name b (has_control (chars name)))
    (false_from_ne_true (is_utf8 name) (λ is. invalid (IsUtf8-from_is_utf8 name is))))
