use Rattle.std.proofs.Common.{◌≡◌, ℕ, ◌+◌, ◌*◌, ◌/◌, ◌^◌, ◌<◌, List}
use Rattle.std.specs.Prelude.{count_ones}
use Rattle.slh_merkle.specs.Merkle.{merkle}
use Rattle.slh_merkle.specs.Treehash.{HoldsNodes}
use Rattle.slh_merkle.proofs.treehash.push_node.Given as goal

-- the node that is carried up, at the height of the low bits that were ones
abbrev pub invariant-loop-bits : goal.invariant-loop-bits
invariant-loop-bits g l =
    let n = g.P.N.ArraySize.USIZE in
    let K = g.P.HashSuite.keyed_suite l.keyed in
    let B = g.A.NodeAddress.place l.adrs in
    record {
      bits : l.bits ≡ l.q / 2 ^ l.h;
      index : l.index ≡ l.fn.index / 2 ^ l.h;
      carried : l.q + 1 ≡ 2 ^ l.h * (l.bits + 1);
      value : (leaves : ℕ → List ℕ) (i z : ℕ)
          → l.fn.index ≡ i * 2 ^ z + l.q
          → l.q < 2 ^ z
          → l.node ≡ merkle K B leaves l.base l.fn.index
          → HoldsNodes n (λ h. merkle K B leaves (l.base + h)) z i l.q l.store
          → l.current ≡ merkle K B leaves (l.base + l.h) l.index;
      cost : l.steps + count_ones l.bits ≡ l.fn.steps + count_ones l.q;
    }

abbrev pub decreases-loop-bits : goal.decreases-loop-bits
decreases-loop-bits g l = l.bits
