use Rattle.std.proofs.Common.{◌∙◌, ap, drop, length}
use Rattle.std.proofs.lemmas.List.{drop-replicate}
use Rattle.word_lanes.proofs.Blocks.{ended_is, joined_same}
use Rattle.sha256_lanes.proofs.blocks.put_ended.Goals as goal

pub returns : goal.returns
returns c zeros =
    let rest = c.args.rest.now in
    ended_is 64 rest _ 0x80 (joined_same _ _ _ _ c.copy_from_slice.ensures.after
    (ap (drop (length rest)) zeros ∙ drop-replicate (length rest) 64 0)) c.requires
