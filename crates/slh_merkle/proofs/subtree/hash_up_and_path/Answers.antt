use Rattle.std.proofs.Common.{arith, sym, length, ◌≡◌, ◌∙◌, ◌+◌, ◌-◌, ◌*◌, ◌/◌, ◌^◌, ◌<◌, ◌≤◌, refl}
use Rattle.std.proofs.lemmas.Nat.{mul-le}
use Rattle.std.proofs.lemmas.List.{take_all}
use Rattle.slh_core.specs.Bytes.{joined}
use Rattle.slh_core.proofs.Joins.{joined_more}
use Rattle.slh_merkle.specs.Merkle.{merkle, merkle_auth_path}
use Rattle.slh_merkle.proofs.Powers.{sibling_below_of, twice}
use Rattle.slh_merkle.proofs.Rows.{parent_of}
use Rattle.slh_merkle.proofs.subtree.hash_up_and_path.Goals as goal

pub loop-h-init : goal.loop-h-init
unfolding merkle joined
loop-h-init g c =
    let start : c.args.z - 0 ≡ c.args.z = omega arith in
    let none : 0 * c.USIZE-n.result ≡ 0 = omega arith in
    record {
      room = refl;
      count = rw start c.row_len-count.ensures.value;
      few = omega (arith, c.row_len-count.ensures.value);
      values = λ leaves given k below. given k (omega (arith, below, c.row_len-count.ensures.value));
      path = λ leaves given. rw none refl;
      cost = omega (arith, c.row_len-count.ensures.value);
    }

pub part_of-beside-requires-clause-small : goal.part_of-beside-requires-clause-small
part_of-beside-requires-clause-small g c = c.chain_sizes.ensures.n_high

pub part_of-beside-requires-clause-fits : goal.part_of-beside-requires-clause-fits
part_of-beside-requires-clause-fits g c =
    let i = c.loop-h.invariant in
    let n = g.P.N.ArraySize.USIZE in
    let b = c.sibling.result in
    let less : b < 1 * 2 ^ (c.args.z - c.loop-h.h) = rw c.sibling.ensures (sibling_below_of c.args.y c.loop-h.h c.args.z 1 (omega arith) (omega (arith, c.requires.leaf))) in
    let inside : (b + 1) * n ≤ 2 ^ c.args.z * n = mul-le (b + 1) n (2 ^ c.args.z) n (omega (arith, less, i.count, i.few)) (omega arith) in
    omega (arith, inside, i.room, c.requires.room)

pub hash_level-requires-clause-few : goal.hash_level-requires-clause-few
hash_level-requires-clause-few g c =
    let i = c.loop-h.invariant in
    omega (arith, i.few, c.row_len-count.ensures.value, c.row_len-count.ensures.few)

pub hash_level-requires-clause-indices : goal.hash_level-requires-clause-indices
hash_level-requires-clause-indices g c =
    let i = c.loop-h.invariant in
    omega (arith, i.few, c.row_len-count.ensures.value, c.row_len-count.ensures.few)

pub hash_level-requires-clause-room : goal.hash_level-requires-clause-room
hash_level-requires-clause-room g c =
    let i = c.loop-h.invariant in
    let n = g.P.N.ArraySize.USIZE in
    let half = c.loop-h.count / 2 in
    let inside : (2 * half) * n ≤ 2 ^ c.args.z * n = mul-le (2 * half) n (2 ^ c.args.z) n (omega (arith, i.few)) (omega arith) in
    omega (arith, inside, i.room, c.requires.room)

pub loop-h-preserved : goal.loop-h-preserved
loop-h-preserved g c =
    let K = g.P.HashSuite.keyed_suite c.args.keyed.now in
    let B = g.A.NodeAddress.place c.args.adrs.now in
    let i = c.loop-h.invariant in
    let h = c.loop-h.h in
    let count = c.loop-h.count in
    let pairs = twice (c.args.z - h) 1 (omega (arith, c.loop-h-test.true)) in
    let even : count ≡ 2 * (count / 2) = omega (arith, i.count, pairs) in
    let next : c.args.z - (h + 1) ≡ c.args.z - h - 1 = omega arith in
    let b = c.sibling.result in
    let less : b < 1 * 2 ^ (c.args.z - h) = rw c.sibling.ensures (sibling_below_of c.args.y h c.args.z 1 (omega arith) (omega (arith, c.requires.leaf))) in
    record {
      room = omega (arith, i.room);
      count = rw next (omega (arith, i.count, pairs));
      few = omega (arith, i.few);
      values = λ leaves given k below.
          let left = i.values leaves given (2 * k) (omega (arith, even, below)) in
          let right = i.values leaves given (2 * k + 1) (omega (arith, even, below)) in
          c.hash_level.ensures.parents k below ∙ rw (left, right) (parent_of K B leaves h k);
      path = λ leaves given.
          let beside = i.values leaves given b (omega (arith, less, i.count)) in
          rw (c.put_part.ensures.front, i.path leaves given, joined_more, c.as_slice.ensures.value, c.part_of-beside.ensures, beside, c.sibling.ensures) refl;
      cost = omega (arith, i.cost, even, c.hash_level.ensures.cost);
    }

pub returns : goal.returns
unfolding merkle_auth_path
returns g c =
    let i = c.loop-h.invariant in
    let last : c.loop-h.h ≡ c.args.z = omega arith in
    let none : c.args.z - c.loop-h.h ≡ 0 = omega (arith, last) in
    let one : c.loop-h.count ≡ 1 = rw (i.count, none) refl in
    let n = c.USIZE-n.result in
    let long : length c.loop-h.path ≤ c.args.z * n = rw c.USIZE-n.ensures (omega (arith, c.loop-h.auto.path, c.requires.path_room)) in
    record {
      root = λ leaves given. i.values leaves given 0 (omega (arith, one)) ∙ rw last refl;
      path = λ leaves given. sym (take_all (c.args.z * n) c.loop-h.path long) ∙ rw last at (i.path leaves given);
      cost = rw one at i.cost;
    }
