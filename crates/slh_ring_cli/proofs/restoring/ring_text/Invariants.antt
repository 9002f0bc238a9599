use Rattle.std.proofs.Common.{◌≡◌, ◌++◌, take}
use Rattle.std.specs.Prelude.{codes}
use Rattle.std.specs.List.{flat_map}
use Rattle.slh_ring.specs.PathTexts.{path_text}
use Rattle.slh_ring_cli.proofs.restoring.ring_text.Given as goal

-- the paths so far
abbrev pub invariant-loop-i : goal.invariant-loop-i
invariant-loop-i g l =
    l.text ≡ codes "ring" ++ flat_map (λ path. codes " " ++ path_text path) (take l.i l.ring)
