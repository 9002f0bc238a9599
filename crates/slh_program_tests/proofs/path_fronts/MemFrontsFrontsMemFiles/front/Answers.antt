use Rattle.std.proofs.Common.{◌∙◌}
use Rattle.slh_program_tests.proofs.MemoryFronts.{front_is}
use Rattle.slh_program_tests.proofs.path_fronts.MemFrontsFrontsMemFiles.front.Goals as goal

pub returns-in-Ok-clause-front : goal.returns-in-Ok-clause-front
returns-in-Ok-clause-front c = λ _. front_is _ c.in-Some.bytes.now _ c.in-Some.ensures (c.in-Ok.ensures ∙ c.front_of.ensures)
