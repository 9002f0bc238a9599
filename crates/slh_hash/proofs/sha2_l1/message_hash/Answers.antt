use Rattle.std.proofs.Common.{[], ◌∙◌, ap}
use Rattle.sha256_lanes.specs.Sha256.{sha256}
use Rattle.slh_hash.proofs.Pieces.{six_pieces}
use Rattle.slh_hash.proofs.sha2_l1.message_hash.Goals as goal

pub returns : goal.returns
returns g c =
    let rand = c.update.ensures.absorbs.grows [] c.from_core-hash.ensures.stands in
    let seed = c.update-2.ensures.absorbs.grows _ rand in
    let root = c.update-3.ensures.absorbs.grows _ seed in
    let head = c.update-4.ensures.absorbs.grows _ root in
    let ctx = c.update-5.ensures.absorbs.grows _ head in
    let digest = c.finalize_into.ensures _ (c.update-6.ensures.absorbs.grows _ ctx) in
    digest ∙ ap sha256 (six_pieces _ _ _ _ _ _ _ _ _ c.as_slice.ensures.value c.as_slice-2.ensures.value c.as_slice-3.ensures.value)
