use Rattle.std.proofs.Common.{◌∙◌, ap}
use Rattle.slh_hash.specs.HmacSha512.{hmac_sha512}
use Rattle.slh_hash.proofs.Pieces.{four_pieces}
use Rattle.slh_hash.proofs.mac.hmac_sha512.Goals as goal

pub returns : goal.returns
returns c =
    c.finalize.ensures _ _ (c.update-4.ensures _ _ (c.update-3.ensures _ _ (c.update-2.ensures _ _ (c.update.ensures _ _ c.new-mac.ensures))))
    ∙ ap (hmac_sha512 c.args.key.now) (four_pieces c.args.first.now c.args.head.now c.args.ctx.now c.args.msg.now)
