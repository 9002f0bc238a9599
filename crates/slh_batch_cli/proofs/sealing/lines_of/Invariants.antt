use Rattle.std.proofs.Common.{◌≡◌}
use Rattle.slh_batch_cli.specs.Replies.{receipt_lines}
use Rattle.slh_batch_cli.proofs.sealing.lines_of.Given as goal

-- the lines so far
abbrev pub invariant-each_message : goal.invariant-each_message
invariant-each_message g l = l.text ≡ receipt_lines l.sealed.leaves l.sealed.signature l.i
