use Rattle.std.proofs.Common.{◌≡◌, take}
use Rattle.slh_bytes.specs.Rings.{paths_text}
use Rattle.slh_bytes.proofs.rings.paths_text.Given as goal

-- the paths so far
abbrev pub invariant-loop-i : goal.invariant-loop-i
invariant-loop-i g l = l.text ≡ paths_text (take l.i l.ring)
