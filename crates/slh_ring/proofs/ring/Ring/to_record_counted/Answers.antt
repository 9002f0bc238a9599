use Rattle.std.proofs.Common.{◌+◌, ◌*◌, length, ◌∙◌, ap}
use Rattle.slh_core.specs.Costs.{slh_keygen_cost}
use Rattle.slh_ring.proofs.Costs.{cost_end, cost_left}
use Rattle.slh_ring.proofs.Written.{record_ended, record_more, record_started}
use Rattle.slh_ring.specs.Keys.{ring_bytes}
use Rattle.slh_ring.proofs.ring.Ring.to_record_counted.Goals as goal

pub loop-path-init : goal.loop-path-init
loop-path-init g c =
    let all = c.into_iter-path-iterator.ensures.into_iter_gives.0 ∙ c.paths-path-items.ensures in
    record {
      written =
          record_started g.P.ForsSizes.scheme g.P.SetSizes.set_name c.as_bytes-name.result.now c.new-master.result c.in_ok-bytes.bytes.items c.args.self.now _ _
          c.in_ok-bytes.ensures (c.as_bytes-name.ensures.value ∙ c.set_name.ensures) c.len.ensures.len all;
      cost = ap (λ l. c.args.steps.now + length l * slh_keygen_cost g.P.ForsSizes.scheme) all;
    }

pub loop-path-preserved : goal.loop-path-preserved
loop-path-preserved g c =
    record {
      written =
          record_more g.P.ForsSizes.scheme g.P.SetSizes.set_name c.new-master.result c.loop-path.bytes.items _ _ c.in-Some.path.now _ _
          c.loop-path.invariant.written c.in-Some.ensures.steps c.in_ok-push_entry.ensures.entry;
      cost =
          cost_left _ _ _ (slh_keygen_cost g.P.ForsSizes.scheme) c.in-Some.path.now _ _ c.in-Some.ensures.steps
          c.loop-path.invariant.cost c.in_ok-push_entry.ensures.cost;
    }

pub returns-clause-record : goal.returns-clause-record
returns-clause-record g c =
    record_ended g.P.ForsSizes.scheme g.P.SetSizes.set_name c.new-master.result c.loop-path.bytes.items _ _
    c.loop-path.invariant.written c.in-None.ensures.steps.0
    ∙ ap (λ m. ring_bytes g.P.ForsSizes.scheme g.P.SetSizes.set_name m c.args.self.now) c.new-master.ensures

pub returns-clause-cost : goal.returns-clause-cost
returns-clause-cost g c =
    cost_end _ _ (slh_keygen_cost g.P.ForsSizes.scheme) _ c.in-None.ensures.steps.0 c.loop-path.invariant.cost
