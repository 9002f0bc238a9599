use Rattle.std.proofs.Common.{◌≡◌}
use Rattle.sha2.specs.Sha512.{hash_after}
use Rattle.sha512_lanes.proofs.blocks.absorb_each.Given as goal

abbrev pub invariant-each_block : goal.invariant-each_block
invariant-each_block l = l.state ≡ hash_after l.initial.state l.blocks l.i
