use Rattle.std.proofs.Common.{◌≡◌, take}
use Rattle.slh_bytes.specs.Verdicts.{json_text}
use Rattle.slh_bytes.proofs.verdicts.json_text.Given as goal

-- the bytes so far
abbrev pub invariant-loop-i : goal.invariant-loop-i
invariant-loop-i l = l.text ≡ json_text (take l.i l.bytes)
