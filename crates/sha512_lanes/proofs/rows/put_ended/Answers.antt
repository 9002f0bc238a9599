use Rattle.std.proofs.Common.{◌∙◌, ap, drop, length}
use Rattle.std.proofs.lemmas.List.{drop-replicate}
use Rattle.word_lanes.proofs.Blocks.{ended_is, joined_same}
use Rattle.sha512_lanes.proofs.rows.put_ended.Goals as goal

pub returns : goal.returns
returns c zeros =
    let row = c.args.row.now in
    ended_is 2304 row _ 0x80
    (joined_same _ _ _ _ c.copy_from_slice.ensures.after (ap (drop (length row)) zeros ∙ drop-replicate (length row) 2304 0))
    c.requires
