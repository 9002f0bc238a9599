use Rattle.sha512_lanes.proofs.Batches.{filled_next}
use Rattle.sha512_lanes.proofs.bulk.put_later.Goals as goal

pub returns : goal.returns
returns c p filled =
    c.put.ensures p filled (λ j lane.
    filled_next c.args.next.now p c.args.t j _ filled c.requires.low c.requires.high lane (c.later_word.ensures j lane))
