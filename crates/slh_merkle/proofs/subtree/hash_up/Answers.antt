use Rattle.std.proofs.Common.{arith, ◌≡◌, ◌∙◌, ◌+◌, ◌-◌, ◌*◌, ◌/◌, ◌^◌, ◌≤◌, refl}
use Rattle.std.proofs.lemmas.Nat.{mul-le}
use Rattle.slh_merkle.specs.Merkle.{merkle}
use Rattle.slh_merkle.proofs.Powers.{twice}
use Rattle.slh_merkle.proofs.Rows.{parent_up}
use Rattle.slh_merkle.proofs.subtree.hash_up.Goals as goal

pub loop-h-init : goal.loop-h-init
unfolding merkle
loop-h-init g c =
    let start : c.args.z - 0 ≡ c.args.z = omega arith in
    record {
      room = refl;
      count = rw start c.row_len-count.ensures.value;
      few = omega (arith, c.row_len-count.ensures.value);
      values = λ leaves given k below. rw c.row_len-count.ensures.value (given k (omega (arith, c.row_len-count.ensures.value)));
      cost = omega (arith, c.row_len-count.ensures.value);
    }

pub hash_level-requires-clause-room : goal.hash_level-requires-clause-room
hash_level-requires-clause-room g c =
    let i = c.loop-h.invariant in
    let n = g.P.N.ArraySize.USIZE in
    let half = c.loop-h.count / 2 in
    let inside : (2 * half) * n ≤ 2 ^ c.args.z * n = mul-le (2 * half) n (2 ^ c.args.z) n (omega (arith, i.few)) (omega arith) in
    omega (arith, i.room, c.requires.room)

pub loop-h-preserved : goal.loop-h-preserved
loop-h-preserved g c =
    let K = g.P.HashSuite.keyed_suite c.args.keyed.now in
    let B = g.A.NodeAddress.place c.args.adrs.now in
    let i = c.loop-h.invariant in
    let h = c.loop-h.h in
    let count = c.loop-h.count in
    let pairs = twice (c.args.z - h) 1 (omega (arith, c.loop-h-test.true)) in
    let even : count ≡ 2 * (count / 2) = omega (arith, i.count, pairs) in
    let next : c.args.z - (h + 1) ≡ c.args.z - h - 1 = omega arith in
    record {
      room = omega (arith, i.room);
      count = rw next (omega (arith, i.count, pairs));
      few = omega (arith, i.few);
      values = λ leaves given k below.
          let left = i.values leaves given (2 * k) (omega (arith, even)) in
          let right = i.values leaves given (2 * k + 1) (omega (arith, even)) in
          c.hash_level.ensures.parents k below ∙ rw (left, right) (parent_up K B leaves h c.args.i k count (count / 2) even);
      cost = omega (arith, i.cost, even, c.hash_level.ensures.cost);
    }

pub returns : goal.returns
returns g c =
    let i = c.loop-h.invariant in
    let last : c.loop-h.h ≡ c.args.z = omega arith in
    let none : c.args.z - c.loop-h.h ≡ 0 = omega (arith, last) in
    let one : c.loop-h.count ≡ 1 = rw (i.count, none) refl in
    let self : c.args.i * c.loop-h.count + 0 ≡ c.args.i = rw one (omega arith) in
    record {
      node = λ leaves given. i.values leaves given 0 (omega (arith, one)) ∙ rw (self, last) refl;
      cost = rw one at i.cost;
    }
