use Rattle.std.proofs.Common.{arith}
use Rattle.std.proofs.lemmas.Grind.{common_steps}
use Rattle.whole_files.proofs.whole.make_new.Goals as goal

pub link_new-requires : goal.link_new-requires
link_new-requires g c = grind (arith, common_steps)

pub returns-in_err-link_new : goal.returns-in_err-link_new
returns-in_err-link_new g c = grind (arith, common_steps)

pub returns : goal.returns
returns g c = grind (arith, common_steps)
