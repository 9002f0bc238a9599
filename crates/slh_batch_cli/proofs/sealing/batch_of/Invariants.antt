use Rattle.std.proofs.Common.{◌≡◌, map, take, false}
use Rattle.std.specs.List.{list_any}
use Rattle.slh_batch.specs.Tree.{batch_leaf}
use Rattle.slh_batch_cli.specs.Replies.{is_long}
use Rattle.slh_batch_cli.proofs.sealing.batch_of.Given as goal

-- the messages so far are in the batch, and none of them was too long
abbrev pub invariant-each_message : goal.invariant-each_message
invariant-each_message l = record {
  batch : l.batch ≡ map batch_leaf (take l.i l.messages);
  short : list_any is_long (take l.i l.messages) ≡ false;
}
