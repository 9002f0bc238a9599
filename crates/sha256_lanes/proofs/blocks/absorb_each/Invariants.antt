use Rattle.std.proofs.Common.{◌≡◌}
use Rattle.sha256_lanes.specs.Sha256.{fold_blocks}
use Rattle.sha256_lanes.proofs.blocks.absorb_each.Given as goal

abbrev pub invariant-each_block : goal.invariant-each_block
invariant-each_block l = l.state ≡ fold_blocks l.initial.state l.blocks l.i
