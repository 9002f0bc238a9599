use Rattle.slh_ring.proofs.Restored.{form_falls, form_stands, restored, undone}
use Rattle.slh_ring.proofs.laws.records_are_restored.Goals as goal

pub returns-clause-undone : goal.returns-clause-undone
returns-clause-undone c = undone

pub returns-clause-ring : goal.returns-clause-ring
returns-clause-ring c = λ Z name master bytes paths ok small. (restored Z name master bytes paths ok small).ring

pub returns-clause-layout : goal.returns-clause-layout
returns-clause-layout c = λ Z name master bytes paths ok small. (restored Z name master bytes paths ok small).layout

pub returns-clause-formed : goal.returns-clause-formed
returns-clause-formed c = form_stands

pub returns-clause-unformed : goal.returns-clause-unformed
returns-clause-unformed c = form_falls
