-- What is read in a checkpoint. Bytes are cut into lines at each line feed; the last of the parts
-- is what follows the last line feed, and no line.
use Rattle.std.specs.Prelude.{ℕ, ◌+◌, ◌^◌, ◌==◌, ◌&&◌, List, [], ◌∷◌, ◌++◌, length, take, drop}
use Rattle.std.specs.Prelude.{Bool, true, false, not, nat_le, decimal, Option, None, Some, is_some}
use Rattle.std.specs.Prelude.{if◌then◌else◌}
use Rattle.std.specs.Result.{result_ok}
use Rattle.std.specs.Str.{bytes_eq, is_utf8}
use Rattle.base64.specs.Engines.{standard}
use Rattle.base64.specs.GeneralPurpose.{decode_of, encoded_size_of}
use Rattle.line_serve.specs.Decimals.{decimal_value}
use Rattle.line_serve.specs.Fields.{field_at, for_some}
use Rattle.line_serve.specs.Lines.{parts}
use Rattle.slh_log.specs.Texts.{dash}

-- a byte of an origin: no space, no plus sign, and no control character of ASCII
abbrev pub is_origin_byte : ℕ → Bool
is_origin_byte b = nat_le 33 b && not (b == 43) && not (b == 127)

abbrev pub all_origin_bytes : List ℕ → Bool
all_origin_bytes [] = true
all_origin_bytes (b ∷ bytes) = is_origin_byte b && all_origin_bytes bytes

-- an origin has 1 to 255 bytes
abbrev pub is_origin : List ℕ → Bool
is_origin origin =
    nat_le 1 (length origin) && nat_le (length origin) 255 && all_origin_bytes origin

-- Bytes as the text that they are. What is none stands for the empty text, which no log has as its
-- origin.
abbrev pub text_of : List ℕ → List ℕ
text_of bytes = if is_utf8 bytes then bytes else []

-- a value where it passes
abbrev pub some_if : {A : Type 0} → Bool → A → Option A
some_if true value = Some value
some_if false value = None

-- the number below 2^64 that a line is the decimal form of, without leading zeros
abbrev pub size_value : List ℕ → Option ℕ
size_value line =
    for_some (decimal_value 20 (2 ^ 64) line) (λ n. some_if (bytes_eq (decimal n) line) n)

-- the so many bytes that a line is the base64 of
abbrev pub bytes_value : ℕ → List ℕ → Option (List ℕ)
bytes_value count line =
    if length line == encoded_size_of standard count
    then for_some (result_ok (decode_of standard line)) (λ b. some_if (length b == count) b)
    else None

-- how many bytes come before the first empty line
unfoldable pub text_len : List (List ℕ) → ℕ
text_len [] = 0
text_len (line ∷ later) = if length line == 0 then 0 else length line + 1 + text_len later

-- the parts after the first empty line
unfoldable pub after_text : List (List ℕ) → List (List ℕ)
after_text [] = []
after_text (line ∷ later) = if length line == 0 then later else after_text later

-- whether bytes begin with others
abbrev pub begins_with : List ℕ → List ℕ → Bool
begins_with front bytes = bytes_eq (take (length front) bytes) front

-- each line is one of a signature, and a line feed ends the last
unfoldable pub are_signatures : List (List ℕ) → Bool
are_signatures [] = false
are_signatures (line ∷ later) =
    if length later == 0 then length line == 0 else begins_with dash line && are_signatures later

-- what follows a front that bytes begin with
abbrev pub after_front : List ℕ → List ℕ → Option (List ℕ)
after_front front bytes = some_if (begins_with front bytes) (drop (length front) bytes)

-- the so many bytes of an id and a signature that the symbols of a line stand for
abbrev pub signed_value : ℕ → List ℕ → List ℕ → Option (List ℕ)
signed_value count id symbols =
    for_some (bytes_value count symbols) (λ b. some_if (begins_with id b) b)

-- the id and the signature of a line, if it is one of the key with a name and an id: an em dash,
-- the name, a space and the symbols
abbrev pub signature_in : ℕ → List ℕ → List ℕ → List ℕ → Option (List ℕ)
signature_in count name id line =
    for_some (after_front dash line)
    (λ named. for_some (after_front name named)
    (λ spaced. for_some (after_front (32 ∷ []) spaced) (signed_value count id)))

-- the first of two
abbrev pub first_some : {A : Type 0} → Option A → Option A → Option A
first_some None later = later
first_some (Some value) later = Some value

-- likewise of the first line that is one of this key
unfoldable pub own_signature : ℕ → List ℕ → List ℕ → List (List ℕ) → Option (List ℕ)
own_signature count name id [] = None
own_signature count name id (line ∷ later) =
    if length later == 0 then None
    else first_some (signature_in count name id line) (own_signature count name id later)

-- line i of some bytes
abbrev pub line_at : List ℕ → ℕ → List ℕ
line_at bytes i = field_at (parts bytes) i

-- the size and the root of a checkpoint, and the text that is signed
abbrev pub read_size : List ℕ → Option ℕ
read_size bytes = size_value (line_at bytes 1)

abbrev pub read_root : List ℕ → Option (List ℕ)
read_root bytes = bytes_value 32 (line_at bytes 2)

abbrev pub read_text : List ℕ → List ℕ
read_text bytes = take (text_len (parts bytes)) bytes

-- At most 2^60 bytes are a text, an empty line and lines of signatures. The text's first lines are
-- one that isn't empty, a size and a root.
abbrev pub has_form : List ℕ → Bool
has_form bytes =
    nat_le (length bytes) (2 ^ 60) && nat_le 1 (length (line_at bytes 0))
    && is_some (read_size bytes) && is_some (read_root bytes)
    && are_signatures (after_text (parts bytes))
