-- The replies of the program. Z is the scheme of the line's set.
use Rattle.std.specs.Prelude.{ℕ, ◌==◌, List, ◌++◌, length, codes, decimal, Option}
use Rattle.std.specs.Prelude.{Result, Ok, Err, if◌then◌else◌}
use Rattle.std.specs.Str.{bytes_eq}
use Rattle.hex.specs.Hex.{encode_lower}
use Rattle.line_serve.specs.Decimals.{decimal_value}
use Rattle.line_serve.specs.Fields.{field_at}
use Rattle.line_serve.specs.Texts.{hex_line, number_line}
use Rattle.slh_core.specs.Parameters.{Scheme}
use Rattle.slh_chain.specs.Links.{is_name_size, link_body, signed_link}
use Rattle.slh_chain.specs.Walks.{Ended, walk_answer}
use Rattle.slh_chain.specs.declared.error.ChainError.{ChainError}
use Rattle.slh_chain.specs.declared.error.ChainError.TheVariants.{Form, Budget, Invalid}
use Rattle.slh_line.specs.Readings.{and_then, bytes_at, checked_randomizer, randomizer_at}
use Rattle.slh_line.specs.Readings.{signing_key, some_or_fields, verifying_key}
use Rattle.slh_line.specs.Replies.{Answers}
use Rattle.slh_line.specs.declared.line_error.LineError.{LineError}
use Rattle.slh_line.specs.declared.line_error.LineError.TheVariants.{Command, Fields}

abbrev pub usage : List ℕ
usage = codes "usage: slh_chain_cli\n"

-- a depth on a line is 1 to 10 decimal digits with a value of at most 15
abbrev pub depth_at : List (List ℕ) → ℕ → Result ℕ LineError
depth_at fields i = some_or_fields (decimal_value 10 16 (field_at fields i))

-- what is answered to a name, where a link may be made
abbrev pub delegate_text : Scheme → List ℕ → List ℕ → ℕ → List ℕ → Option (List ℕ) → List ℕ
delegate_text Z key name depth subject opt_rand =
    if is_name_size (length name)
    then hex_line (codes "link ") (signed_link Z key opt_rand (link_body depth name subject))
    else codes "error name\n"

-- what is answered to the bytes of a line, and its depth
abbrev pub delegate_request : Scheme → List ℕ → List ℕ → ℕ → List ℕ → Option (List ℕ)
    → Result (List ℕ) LineError
delegate_request Z key name depth subject opt_rand =
    and_then (signing_key Z key) (λ key.
    and_then (verifying_key Z subject) (λ subject.
    and_then (checked_randomizer Z opt_rand) (λ opt_rand.
    Ok (delegate_text Z key name depth subject opt_rand))))

-- a line has a key, a name, a depth, the subject's verifying key, and a randomizer
abbrev pub delegate_answer : Scheme → List (List ℕ) → Result (List ℕ) LineError
delegate_answer Z fields =
    if length fields == 7 then
    and_then (depth_at fields 4) (λ depth.
    and_then (bytes_at fields 2) (λ key.
    and_then (bytes_at fields 3) (λ name.
    and_then (bytes_at fields 5) (λ subject.
    and_then (randomizer_at fields 6) (λ opt_rand.
    delegate_request Z key name depth subject opt_rand)))))
    else Err Fields

-- the last key, its budget, and the number of links
abbrev pub end_text : Ended → List ℕ
end_text end =
    codes "end " ++ encode_lower end.key ++ codes " " ++ decimal end.budget
    ++ codes " " ++ decimal end.links ++ codes "\n"

-- the end, or which link isn't good and why
abbrev pub walk_text : Result Ended ChainError → List ℕ
walk_text (Ok end) = end_text end
walk_text (Err (Form i)) = number_line (codes "bad form ") i
walk_text (Err (Budget i)) = number_line (codes "bad budget ") i
walk_text (Err (Invalid i)) = number_line (codes "bad invalid ") i

-- what is answered to a root key and a chain
abbrev pub walk_request : Scheme → List ℕ → List ℕ → Result (List ℕ) LineError
walk_request Z root chain =
    and_then (verifying_key Z root) (λ root. Ok (walk_text (walk_answer Z root chain)))

-- a line has these two
abbrev pub walk_line_answer : Scheme → List (List ℕ) → Result (List ℕ) LineError
walk_line_answer Z fields =
    if length fields == 4 then
    and_then (bytes_at fields 2) (λ root.
    and_then (bytes_at fields 3) (λ chain.
    walk_request Z root chain))
    else Err Fields

abbrev pub chain_answers : Answers
chain_answers Z name fields =
    if bytes_eq (field_at fields 1) (codes "delegate") then delegate_answer Z fields
    else if bytes_eq (field_at fields 1) (codes "walk") then walk_line_answer Z fields
    else Err Command
