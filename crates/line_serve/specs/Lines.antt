-- Lines of bytes, and the replies to them.
use Rattle.std.specs.Prelude.{◌≡◌, ◌==◌, if◌then◌else◌, nat_lt, ℕ, ◌^◌, List, [], ◌∷◌, ◌++◌, length}
use Rattle.std.specs.Prelude.{codes, false}
use Rattle.std.specs.List.{slice_split, flat_map, All}

-- LF
abbrev pub line_feed : ℕ
line_feed = 10

-- the longest line that the replier answers, in bytes, a carriage return counted
abbrev pub line_limit : ℕ
line_limit = 2 ^ 22

-- the parts, cut at each line feed
abbrev pub parts : List ℕ → List (List ℕ)
parts b = slice_split (λ x. x == line_feed) b

-- no line feed is among them
abbrev pub HasNoLineFeed : List ℕ → Type 0
HasNoLineFeed b = All (λ x. (x == line_feed) ≡ false) b

abbrev pub all_but_last : List (List ℕ) → List (List ℕ)
all_but_last [] = []
all_but_last (x ∷ []) = []
all_but_last (x ∷ y ∷ ys) = x ∷ all_but_last (y ∷ ys)

abbrev pub last_of : List (List ℕ) → List ℕ
last_of [] = []
last_of (x ∷ []) = x
last_of (x ∷ y ∷ ys) = last_of (y ∷ ys)

-- the lines that a line feed ends
abbrev pub closed_lines : List ℕ → List (List ℕ)
closed_lines b = all_but_last (parts b)

-- what stands after the last line feed
abbrev pub unfinished : List ℕ → List ℕ
unfinished b = last_of (parts b)

-- all lines: a last piece without a line feed counts if it isn't empty
abbrev pub lines : List ℕ → List (List ℕ)
lines b = closed_lines b ++ (if length (unfinished b) == 0 then [] else unfinished b ∷ [])

-- the lines whose reply is known before more has come: a last piece that is too long already counts
abbrev pub ended_lines : List ℕ → List (List ℕ)
ended_lines b =
    closed_lines b ++ (if nat_lt line_limit (length (unfinished b)) then unfinished b ∷ [] else [])

-- the reply to a line that is too long: "error line" and a line feed
abbrev pub too_long : List ℕ
too_long = codes "error line\n"

-- the reply to a line, by a function that gives the replies to lines that aren't too long
abbrev pub reply_to : (List ℕ → List ℕ) → List ℕ → List ℕ
reply_to reply line = if nat_lt line_limit (length line) then too_long else reply line

-- the replies to the lines, one after another
abbrev pub replies_to : (List ℕ → List ℕ) → List (List ℕ) → List ℕ
replies_to reply list = flat_map (reply_to reply) list
