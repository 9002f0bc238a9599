use Rattle.sha512_lanes.specs.Batches.{IsFilled}
use Rattle.sha512_lanes.proofs.bulk.expand_first.Given as goal

abbrev pub invariant-firsts : goal.invariant-firsts
invariant-firsts l = IsFilled l.next l.blocks l.t
