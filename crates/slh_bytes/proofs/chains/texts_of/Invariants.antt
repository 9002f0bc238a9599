use Rattle.std.proofs.Common.{◌≡◌, ◌++◌, map}
use Rattle.slh_bytes.specs.Chains.{parts_of}
use Rattle.slh_bytes.proofs.chains.texts_of.Given as goal

-- the links so far, and those that are left
abbrev pub invariant-loop-link : goal.invariant-loop-link
invariant-loop-link g l = map parts_of l.texts.items ++ l.link-iterator ≡ l.initial.link-iterator
