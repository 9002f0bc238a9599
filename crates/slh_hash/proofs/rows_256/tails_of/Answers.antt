use Rattle.std.proofs.Common.{◌≡◌, ◌+◌, ◌-◌, ◌++◌, ◌∙◌, List, ℕ, [], arith, length, length-set, min, slice_index, take}
use Rattle.slh_core.specs.Address.{compressed_address}
use Rattle.slh_core.specs.Bytes.{part}
use Rattle.slh_hash.proofs.Placed.{one_more, tail_made}
use Rattle.slh_hash.proofs.rows_256.tails_of.Goals as goal

pub loop-k-preserved : goal.loop-k-preserved
loop-k-preserved g c =
    let at = g.A.RowAddress.numbered c.args.adrs.now in
    let numbers = c.args.numbers.now in
    let last : ℕ = length numbers - 1 in (
      length-set c.loop-k.tails c.loop-k.k c.tail_of.result ∙ c.loop-k.invariant.0,
      one_more (λ (k : ℕ) (t : List ℕ). take (22 + c.args.width) t ≡ compressed_address (at (slice_index numbers (min k last))) ++ part c.args.width c.args.inputs.now (min k last)) c.loop-k.tails c.loop-k.k c.tail_of.result [] (omega (arith, c.loop-k.invariant.0)) c.loop-k.invariant.1
          (tail_made compressed_address at c.args.width c.min-i.result (min c.loop-k.k last) numbers c.args.inputs.now (g.A.Address.bytes c.at_number.result) c.piece.result.now c.tail_of.result c.piece.ensures.len c.tail_of.ensures c.at_number.ensures c.piece.ensures.value c.min-i.ensures),
    )
