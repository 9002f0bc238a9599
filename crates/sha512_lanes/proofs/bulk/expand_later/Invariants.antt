use Rattle.std.proofs.Common.{List, ℕ}
use Rattle.sha512_lanes.specs.Batches.{IsFilled}
use Rattle.sha512_lanes.proofs.bulk.expand_later.Given as goal

abbrev pub invariant-laters : goal.invariant-laters
invariant-laters l = (p : List ℕ) → IsFilled l.initial.next p 16 → IsFilled l.next p l.t
