use Rattle.std.proofs.Common.{arith, ◌≡◌, ap, ◌∙◌, sym, length}
use Rattle.slh_manifest.proofs.Places.{length-entries_in}
use Rattle.slh_manifest.proofs.manifest.EntriesIterator.size_hint.Goals as goal

pub returns-clause-lower : goal.returns-clause-lower
returns-clause-lower c =
    let len : c.self.inside.count ≡ length c.args.self.now = sym (length-entries_in c.self.inside.count c.self.inside.left.now) ∙ ap length c.self.view_is in
    λ finite. omega (arith, len)

pub returns-clause-upper : goal.returns-clause-upper
returns-clause-upper c =
    let len : c.self.inside.count ≡ length c.args.self.now = sym (length-entries_in c.self.inside.count c.self.inside.left.now) ∙ ap length c.self.view_is in
    (tt, omega (arith, len))
