use Rattle.std.proofs.Common.{sym, ◌∙◌, refl}
use Rattle.merkle_tree.specs.Clashes.{first_clash}
use Rattle.merkle_clash.proofs.inputs.clash_of.Goals as goal

pub returns-then-do_clash : goal.returns-then-do_clash
unfolding first_clash
returns-then-do_clash g c = rw (sym c.do_clash.ensures ∙ c.if-do_clash.true) refl

pub returns : goal.returns
unfolding first_clash
returns g c = rw (sym c.do_clash.ensures ∙ c.if-do_clash.false) refl
