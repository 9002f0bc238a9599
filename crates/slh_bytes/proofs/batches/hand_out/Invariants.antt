use Rattle.slh_bytes.specs.Batches.{TookSome}
use Rattle.slh_bytes.proofs.batches.hand_out.Given as goal

-- the head and the receipts so far are taken
abbrev pub invariant-each_message : goal.invariant-each_message
invariant-each_message g l =
    TookSome l.sealed.leaves l.sealed.signature l.i
    (g.R.Receipts.taken l.fn.receipts) (g.R.Receipts.taken l.receipts)
