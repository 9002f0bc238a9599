-- Object identifiers as octets (X.690, 8.19).
use Rattle.std.specs.Prelude.{ℕ, ◌+◌, ◌-◌, ◌*◌, ◌/◌, ◌%◌, ◌^◌, ◌<◌, List, [], ◌∷◌, ◌++◌}
use Rattle.std.specs.Prelude.{None, Option, Some, drop, min, nat_lt, slice_index, if◌then◌else◌}

-- the five groups of seven bits of a number below 2^35, the highest first, each an octet whose top
-- bit says that another one follows
abbrev pub groups : ℕ → List ℕ
groups n =
    (128 + n / 2 ^ 28 % 128) ∷ (128 + n / 2 ^ 21 % 128) ∷ (128 + n / 2 ^ 14 % 128)
    ∷ (128 + n / 2 ^ 7 % 128) ∷ (n % 128) ∷ []

-- how many groups are zeros before the first that isn't, the lowest not counted
abbrev pub zero_groups : ℕ → ℕ
zero_groups n =
    if nat_lt n (2 ^ 7) then 4
    else if nat_lt n (2 ^ 14) then 3
    else if nat_lt n (2 ^ 21) then 2
    else if nat_lt n (2 ^ 28) then 1
    else 0

-- a number below 2^35 in its shortest base-128 form
abbrev pub base_128 : ℕ → List ℕ
base_128 n = drop (zero_groups n) (groups n)

-- each of these numbers in that form
abbrev pub base_128_all : List ℕ → List ℕ
base_128_all [] = []
base_128_all (n ∷ ns) = base_128 n ++ base_128_all ns

-- the octets of an object identifier's arcs, of which the first two are one number
abbrev pub encoding : List ℕ → List ℕ
encoding [] = []
encoding (first ∷ []) = []
encoding (first ∷ second ∷ rest) = base_128 (40 * first + second) ++ base_128_all rest

-- The numbers in base 128 that these octets are, where `begun` is what those before them began.
-- Numbers of 2^64 and more, which no object identifier has, are cut.
abbrev pub numbers : ℕ → List ℕ → List ℕ
numbers begun [] = []
numbers begun (octet ∷ octets) =
    if nat_lt octet 128 then (begun * 128 + octet) % 2 ^ 64 ∷ numbers 0 octets
    else numbers ((begun * 128 + (octet - 128)) % 2 ^ 64) octets

-- the first two arcs, of which a number was made
abbrev pub first_arc : ℕ → ℕ
first_arc n = min (n / 40) 2

abbrev pub second_arc : ℕ → ℕ
second_arc n = n - 40 * first_arc n

abbrev pub arcs_of_numbers : List ℕ → List ℕ
arcs_of_numbers [] = []
arcs_of_numbers (n ∷ ns) = first_arc n ∷ second_arc n ∷ ns

-- the arcs of an object identifier's octets
abbrev pub arcs_of : List ℕ → List ℕ
arcs_of octets = arcs_of_numbers (numbers 0 octets)

-- a list of what an option holds
abbrev pub held_by : Option ℕ → List ℕ
held_by None = []
held_by (Some arc) = arc ∷ []

-- the first two arcs, where they are still to come, and those of the octets
abbrev pub arcs_to_come : Option ℕ → Option ℕ → List ℕ → List ℕ
arcs_to_come first second octets = held_by first ++ held_by second ++ numbers 0 octets

-- each of these numbers is below 2^32
abbrev pub AllSmall : List ℕ → Type 0
AllSmall ns = (k : ℕ) → slice_index ns k < 2 ^ 32
