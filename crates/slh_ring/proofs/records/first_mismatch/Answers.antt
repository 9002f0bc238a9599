use Rattle.std.proofs.Common.{◌≡◌, ◌-◌, ◌∙◌, ap, sym, arith}
use Rattle.slh_core.specs.Costs.{slh_keygen_cost}
use Rattle.slh_ring.proofs.Costs.{cost_more, cost_none}
use Rattle.slh_ring.proofs.Scans.{has_next, next_scan, scan_start, tag_right, tag_wrong, tags_over}
use Rattle.slh_ring.specs.Records.{entries_in}
use Rattle.slh_ring.specs.Restores.{first_mismatch}
use Rattle.slh_ring.proofs.records.first_mismatch.Goals as goal

pub loop-i-init : goal.loop-i-init
loop-i-init g c =
    let whole : c.args.count ≡ c.args.count - 0 = omega arith in
    record {
      scan = scan_start c.args.count (c.args.count - 0) c.args.bytes.now c.requires.form (sym whole);
      same = ap (λ n. first_mismatch g.P.ForsSizes.scheme g.P.SetSizes.set_name c.args.master.now 0 (entries_in n c.args.bytes.now)) whole;
      cost = cost_none _ (slh_keygen_cost g.P.ForsSizes.scheme);
    }

pub entry_of-entry-requires : goal.entry_of-entry-requires
entry_of-entry-requires g c = has_next c.args.count c.loop-i.i c.loop-i.rest.now c.loop-i-test.true c.loop-i.invariant.scan

pub loop-i-preserved : goal.loop-i-preserved
loop-i-preserved g c =
    let e = c.entry_of-entry.ensures in
    let r = c.entry_of-entry.result in
    record {
      scan = next_scan c.args.count c.loop-i.i c.loop-i.rest.now r.rest.now c.loop-i-test.true c.loop-i.invariant.scan e.rest;
      same = c.loop-i.invariant.same
          ∙ tag_right g.P.ForsSizes.scheme g.P.SetSizes.set_name c.args.master.now c.args.count c.loop-i.i r.path r.tag.now c.loop-i.rest.now r.rest.now _ c.loop-i-test.true
          e.path e.tag e.rest c.is_tagged.ensures.same c.if-not-is_tagged.false;
      cost = cost_more _ _ _ c.loop-i.i (slh_keygen_cost g.P.ForsSizes.scheme) c.loop-i.invariant.cost c.is_tagged.ensures.cost;
    }

pub returns-then-not-is_tagged-clause-first : goal.returns-then-not-is_tagged-clause-first
returns-then-not-is_tagged-clause-first g c =
    let e = c.entry_of-entry.ensures in
    let r = c.entry_of-entry.result in
    sym (c.loop-i.invariant.same
    ∙ tag_wrong g.P.ForsSizes.scheme g.P.SetSizes.set_name c.args.master.now c.args.count c.loop-i.i r.path r.tag.now c.loop-i.rest.now r.rest.now _ c.loop-i-test.true
    e.path e.tag e.rest c.is_tagged.ensures.same c.if-not-is_tagged.true)

pub returns-then-not-is_tagged-clause-cost : goal.returns-then-not-is_tagged-clause-cost
returns-then-not-is_tagged-clause-cost g c =
    cost_more _ _ _ c.loop-i.i (slh_keygen_cost g.P.ForsSizes.scheme) c.loop-i.invariant.cost c.is_tagged.ensures.cost

pub returns-clause-first : goal.returns-clause-first
returns-clause-first g c = sym (c.loop-i.invariant.same ∙ tags_over g.P.ForsSizes.scheme g.P.SetSizes.set_name c.args.master.now c.args.count c.loop-i.i c.loop-i.rest.now c.loop-i-test.false)
