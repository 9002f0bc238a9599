use Rattle.std.proofs.Common.{◌∙◌, length, ap, sym}
use Rattle.slh_ring.proofs.Got.{length-entries_in}
use Rattle.slh_ring.proofs.recorded.Record.len.Goals as goal

pub returns-clause-value : goal.returns-clause-value
returns-clause-value g c = sym (length-entries_in c.self.inside.count c.self.inside.entries.now) ∙ ap length c.self.view_is
