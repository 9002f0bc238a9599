-- Elements of DER (X.690): a tag of one byte, the length in its shortest form, and the content. No
-- length from 2^16 on is read or written here.
use Rattle.std.specs.Prelude.{ℕ, ◌+◌, ◌*◌, ◌/◌, ◌%◌, nat_lt, nat_le, ◌==◌, ◌||◌, ◌&&◌}
use Rattle.std.specs.Prelude.{List, [], ◌∷◌, ◌++◌}
use Rattle.std.specs.Prelude.{length, take, drop, slice_index, Option, None, Some, if◌then◌else◌}

-- the bytes of a length below 2^16 (8.1.3, 10.1)
unfoldable pub length_bytes : ℕ → List ℕ
length_bytes n =
    if nat_lt n 128 then n ∷ []
    else if nat_lt n 256 then 0x81 ∷ n ∷ []
    else 0x82 ∷ n / 256 ∷ n % 256 ∷ []

-- an element
unfoldable pub element : ℕ → List ℕ → List ℕ
element tag content = tag ∷ length_bytes (length content) ++ content

-- the first n bytes, and what stands behind them
abbrev pub parted : ℕ → List ℕ → Option (List ℕ × List ℕ)
parted n bytes = if nat_le n (length bytes) then Some (take n bytes, drop n bytes) else None

-- the content and what stands behind it, of bytes that begin with a length, which is in its
-- shortest form
unfoldable pub sized : List ℕ → Option (List ℕ × List ℕ)
sized bytes =
    let first = slice_index bytes 0 in
    let second = slice_index bytes 1 in
    let third = slice_index bytes 2 in
    if length bytes == 0 then None
    else if nat_lt first 128 then parted first (drop 1 bytes)
    else if first == 0x81 then
    (if nat_lt (length bytes) 2 || nat_lt second 128 then None else parted second (drop 2 bytes))
    else if first == 0x82 then
    (if nat_lt (length bytes) 3 || second == 0 then None
    else parted (256 * second + third) (drop 3 bytes))
    else None

-- the content of the first element, if it has this tag, and what stands behind the element
unfoldable pub cut : ℕ → List ℕ → Option (List ℕ × List ℕ)
cut tag bytes =
    if length bytes == 0 then None
    else if slice_index bytes 0 == tag then sized (drop 1 bytes)
    else None

-- the content of the only element
abbrev pub if_alone : Option (List ℕ × List ℕ) → Option (List ℕ)
if_alone None = None
if_alone (Some parts) = if length parts.1 == 0 then Some parts.0 else None

abbrev pub alone : ℕ → List ℕ → Option (List ℕ)
alone tag bytes = if_alone (cut tag bytes)

-- the number of at most four bytes that an INTEGER's content stands for, which is not negative and
-- in its shortest form (8.3)
unfoldable pub number_of : List ℕ → Option ℕ
number_of bytes =
    let n = length bytes in
    let at : ℕ → ℕ = λ k. slice_index bytes k in
    if n == 0 || nat_le 128 (at 0) then None
    else if n == 1 then Some (at 0)
    else if at 0 == 0 && nat_lt (at 1) 128 then None
    else if n == 2 then Some (256 * at 0 + at 1)
    else if n == 3 then Some (256 * (256 * at 0 + at 1) + at 2)
    else if n == 4 then Some (256 * (256 * (256 * at 0 + at 1) + at 2) + at 3)
    else None
