use Rattle.std.proofs.Common.{◌≡◌, ◌∙◌, length, ap, sym, arith}
use Rattle.slh_ring.proofs.Got.{got_none, length-entries_in}
use Rattle.slh_ring.proofs.recorded.Record.entry.Goals as goal

pub returns-then-i-self : goal.returns-then-i-self
returns-then-i-self g c =
    let count : c.self.inside.count ≡ length c.args.self.now = sym (length-entries_in c.self.inside.count c.self.inside.entries.now) ∙ ap length c.self.view_is in
    sym (got_none c.args.self.now c.args.i (omega (arith, count, c.if-i-self.true)))
