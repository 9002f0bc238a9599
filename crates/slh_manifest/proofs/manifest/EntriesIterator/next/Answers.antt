use Rattle.std.proofs.lemmas.Grind.{common_steps}
use Rattle.std.proofs.Common.{arith, rules, ◌≡◌, ◌<◌, ◌-◌, ◌∷◌, ◌∙◌, sym}
use Rattle.slh_manifest.specs.Reading.{entries_in}
use Rattle.slh_manifest.proofs.Places.{entries_next, entry_of_view, stand_len, stand_next}
use Rattle.slh_manifest.proofs.manifest.EntriesIterator.next.Goals as goal

pub invariant_of-result : goal.invariant_of-result
invariant_of-result c =
    let some : 0 < c.self.inside.count = omega (arith, c.if-self-eq0.false) in
    record { fits = stand_len _ _ c.in-Some.entry c.self.invariant some c.in-Some.ensures.value }

pub invariant_of-self : goal.invariant_of-self
invariant_of-self c =
    let some : 0 < c.self.inside.count = omega (arith, c.if-self-eq0.false) in
    stand_next _ _ c.in-Some.entry c.self.invariant some c.in-Some.ensures.value

pub returns-clause-steps : goal.returns-clause-steps
returns-clause-steps c =
    let some : 0 < c.self.inside.count = omega (arith, c.if-self-eq0.false) in
    sym c.self.view_is ∙ entries_next _ _ c.in-Some.entry some c.in-Some.ensures.value

pub returns-clause-goes : goal.returns-clause-goes
returns-clause-goes c =
    let some : 0 < c.self.inside.count = omega (arith, c.if-self-eq0.false) in
    let steps : c.args.self.now ≡ entry_of_view c.in-Some.entry ∷ entries_in (c.self.inside.count - 1) c.in-Some.entry.rest.now
    = sym c.self.view_is ∙ entries_next _ _ c.in-Some.entry some c.in-Some.ensures.value in
    rw steps (search rules)

pub returns-then-self-eq0 : goal.returns-then-self-eq0
returns-then-self-eq0 c = grind (arith, common_steps)
