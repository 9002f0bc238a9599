use Rattle.std.proofs.Common.{◌∙◌, ap, length, take}
use Rattle.sha256_lanes.specs.Eight.{lane_bytes}
use Rattle.sha256_lanes.specs.Sha256.{word_bytes}
use Rattle.sha256_lanes.proofs.lanes.Eight.write_lane.Goals as goal

pub returns : goal.returns
unfolding lane_bytes
returns c =
    c.copy_from_slice.ensures.after
    ∙ ap (take (length c.args.out.now)) (c.word_bytes-bytes.ensures ∙ ap word_bytes c.row.ensures)
