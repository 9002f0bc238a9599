use Rattle.std.proofs.Common.{rules}
use Rattle.std.specs.Prelude.{codes}
use Rattle.slh_ring_cli.proofs.Texts.{path_more}
use Rattle.slh_ring_cli.proofs.restoring.ring_text.Goals as goal

pub loop-i-preserved : goal.loop-i-preserved
loop-i-preserved g c =
    path_more (codes "ring") c.loop-i.text c.push_slice.new.self c.push_to.new.text c.args.ring.now c.loop-i.i c.in-Some.path.now
    (search rules) c.loop-i.invariant c.in_ok-push_slice.ensures.ok c.in_ok-push_to.ensures.ok
