-- Verdicts, a line for each: for people, and as objects of JSON (RFC 8259).
use Rattle.std.specs.Prelude.{ℕ, ◌==◌, ◌||◌, List, [], ◌∷◌, ◌++◌, codes, decimal, nat_lt}
use Rattle.std.specs.Prelude.{if◌then◌else◌}
use Rattle.std.specs.List.{flat_map}
use Rattle.hex.specs.Hex.{encode_lower}
use Rattle.slh_bytes.specs.declared.verdicts.Detail.{Detail}
use Rattle.slh_bytes.specs.declared.verdicts.Detail.TheVariants.{Nothing, Name, OtherName}
use Rattle.slh_bytes.specs.declared.verdicts.Detail.TheVariants.{Place, Evidence}
use Rattle.slh_bytes.specs.Outcomes.{word_of}
use Rattle.slh_bytes.specs.Shown.{shown_name}
use Rattle.slh_bytes.specs.declared.outcome.Outcome.{Outcome}
use Rattle.slh_bytes.specs.declared.verdicts.Form.{Form}
use Rattle.slh_bytes.specs.declared.verdicts.Form.TheVariants.{Text, Json}

-- a byte of a string's text: the quotation mark, the backslash and control characters are escaped
abbrev pub json_byte : ℕ → List ℕ
json_byte b =
    if b == 34 || b == 92 then 92 ∷ b ∷ []
    else if nat_lt b 32 || b == 127 then codes "\\u00" ++ encode_lower (b ∷ []) else b ∷ []

abbrev pub json_text : List ℕ → List ℕ
json_text text = flat_map json_byte text

-- a member of an object whose value is a string, behind what stands before it
abbrev pub string_member : List ℕ → List ℕ → List ℕ
string_member before text = before ++ json_text text ++ codes "\""

-- one whose string is hexadecimal digits
abbrev pub hex_member : List ℕ → List ℕ → List ℕ
hex_member before bytes = before ++ encode_lower bytes ++ codes "\""

-- what a verdict has besides its word
abbrev pub detail_members : Detail → List ℕ
detail_members Nothing = []
detail_members (Name name) = string_member (codes ",\"name\":\"") name.now
detail_members (OtherName name) = hex_member (codes ",\"name_hex\":\"") name.now
detail_members (Place index count) =
    codes ",\"index\":" ++ decimal index ++ codes ",\"count\":" ++ decimal count
detail_members (Evidence words) = string_member (codes ",\"evidence\":\"") words.now

abbrev pub verdict_line : List ℕ → Detail → List ℕ
verdict_line word detail =
    string_member (codes "{\"verdict\":\"") word ++ detail_members detail ++ codes "}\n"

-- what stands behind a verdict's word: a blank, and a name as it is shown, or evidence
abbrev pub behind_word : Detail → List ℕ
behind_word Nothing = []
behind_word (Name name) = 32 ∷ shown_name name.now
behind_word (OtherName name) = 32 ∷ shown_name name.now
behind_word (Place _ _) = []
behind_word (Evidence words) = 32 ∷ words.now

-- the line of a verdict
abbrev pub told_line : Form → Outcome → Detail → List ℕ
told_line Text outcome detail = word_of outcome ++ behind_word detail ++ codes "\n"
told_line Json outcome detail = verdict_line (word_of outcome) detail
