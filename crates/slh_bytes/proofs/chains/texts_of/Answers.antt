use Rattle.std.proofs.Common.{rules}
use Rattle.slh_bytes.proofs.Texts.{link_more}
use Rattle.slh_bytes.proofs.chains.texts_of.Goals as goal

pub loop-link-preserved : goal.loop-link-preserved
loop-link-preserved g c =
    link_more c.loop-link.texts.items c.push.new.self.items c.in_ok-text.text _ _ _ _ c.loop-link.invariant (search rules) c.in_ok-text.ensures
    (search rules)
