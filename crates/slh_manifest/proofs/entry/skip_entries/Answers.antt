use Rattle.std.proofs.lemmas.Grind.{common_steps}
use Rattle.std.proofs.Common.{arith, ◌≡◌, false, None, Some, if◌then◌else◌, [], ◌∙◌, sym, ap}
use Rattle.slh_manifest.specs.Reading.{are_entries, is_front, rest_after}
use Rattle.slh_manifest.proofs.Fronts.{front_fits, front_unfit, front_long, entries_unfit, entries_step, rest_step, rest_within}
use Rattle.slh_manifest.proofs.entry.skip_entries.Goals as goal
use Rattle.slh_manifest.proofs.entry.skip_entries.Goals.{then-not-may_follow-via-then-not-may_follow, then-not-may_follow-via-else-not-may_follow+then-entry-gt-MAX_LEN}

pub returns-then-not-may_follow-clause-value : goal.returns-then-not-may_follow-clause-value
returns-then-not-may_follow-clause-value c =
    let unfit : is_front c.each_entry.last.now c.each_entry.left.now ≡ false = elim c.then-not-may_follow.branch [
      | then-not-may_follow-via-then-not-may_follow w ↦
          front_unfit _ _ c.in_ok-entry.entry c.in_ok-entry.ensures.value (sym c.may_follow.ensures ∙ w.if-not-may_follow.true)
      | then-not-may_follow-via-else-not-may_follow+then-entry-gt-MAX_LEN w ↦
          front_long _ _ c.in_ok-entry.entry c.in_ok-entry.ensures.value w.if-entry-gt-MAX_LEN.true
    ] in
    let none : are_entries c.args.count [] c.args.bytes.now ≡ false = c.each_entry.invariant.entries ∙ entries_unfit _ _ _ _ c.each_entry-test.true unfit in
    sym (ap (λ b. if b then Some (rest_after c.args.count c.args.bytes.now) else None) none)

pub each_entry-preserved : goal.each_entry-preserved
each_entry-preserved c =
    let front = front_fits _ _ c.in_ok-entry.entry c.in_ok-entry.ensures.value (sym c.may_follow.ensures ∙ c.if-not-may_follow.false) c.if-entry-gt-MAX_LEN.false in
    record {
      entries = c.each_entry.invariant.entries ∙ entries_step _ _ _ _ c.in_ok-entry.entry c.each_entry-test.true c.in_ok-entry.ensures.value front;
      rest = c.each_entry.invariant.rest ∙ rest_step _ _ _ c.in_ok-entry.entry c.each_entry-test.true c.in_ok-entry.ensures.value;
      within = rest_within _ _ _ c.in_ok-entry.ensures.value c.each_entry.invariant.within;
      short = omega (arith, c.in_ok-entry.ensures.short, c.each_entry.invariant.short);
    }

pub each_entry-init : goal.each_entry-init
each_entry-init c = grind (arith, common_steps)

pub returns : goal.returns
returns c = grind (arith, common_steps)
