-- What a script of faults is seen as.
use Rattle.std.specs.Prelude.{ℕ, ◌+◌, ◌-◌, ◌^◌, List, unwrap_or, min}
use Rattle.line_serve.specs.declared.script.Script.{Script}

-- the numbers of the calls that fail
abbrev pub script_fails : Script → List ℕ
script_fails script = script.fails.items

-- the number of the next call, 2^64 once none is left
abbrev pub script_number : Script → ℕ
script_number script = unwrap_or script.next (2 ^ 64)

-- how many calls failed
abbrev pub script_faults : Script → ℕ
script_faults script = script.faults

-- one more, up to the last number of 64 bits
abbrev pub one_more : ℕ → ℕ
one_more count = min (count + 1) (2 ^ 64 - 1)
