use Rattle.std.proofs.Common.{arith, refl, slice_index}
use Rattle.sha256_lanes.specs.Batches.{block_in}
use Rattle.sha256_lanes.specs.Sha256.{constants, schedule}
use Rattle.sha256_lanes.proofs.Batches.{filled_more, keyed_is}
use Rattle.sha256_lanes.proofs.bulk.put.Goals as goal

pub returns : goal.returns
returns c p filled words =
    let t = c.args.t in
    filled_more c.args.next.now _ p t c.args.word c.sum.result filled (omega arith) (omega arith) refl refl words
    (λ j lane. keyed_is (slice_index (schedule (block_in p j) 64) t) (slice_index constants t) _ j c.args.word lane (words j lane) (c.sum.ensures j lane))
