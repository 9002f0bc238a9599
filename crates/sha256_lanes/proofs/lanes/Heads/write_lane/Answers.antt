use Rattle.std.proofs.Common.{◌∙◌, ap, refl, take}
use Rattle.sha256_lanes.specs.Eight.{head_bytes}
use Rattle.sha256_lanes.proofs.lanes.Heads.write_lane.Goals as goal

pub returns : goal.returns
unfolding head_bytes
returns c =
    c.copy_from_slice.ensures.after ∙ ap (take 22) c.word_bytes.ensures
    ∙ rw (
      c.lane_at.ensures,
      c.lane_at-2.ensures,
      c.lane_at-3.ensures,
      c.lane_at-4.ensures,
      c.lane_at-5.ensures,
      c.lane_at-6.ensures,
    ) refl
