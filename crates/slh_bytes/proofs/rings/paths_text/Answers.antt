use Rattle.std.proofs.Common.{rules}
use Rattle.slh_bytes.proofs.Texts.{line_more}
use Rattle.slh_bytes.proofs.rings.paths_text.Goals as goal

pub loop-i-preserved : goal.loop-i-preserved
loop-i-preserved g c =
    line_more c.loop-i.text c.push_to.new.text c.push_slice.new.self c.args.ring.now c.loop-i.i c.in-Some.path.now
    (search rules) c.loop-i.invariant c.in_ok-push_to.ensures.ok c.in_ok-push_slice.ensures.ok
