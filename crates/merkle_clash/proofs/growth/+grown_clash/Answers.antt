use Rattle.std.proofs.Common.{rules, ◌≡◌, ◌+◌, ◌-◌, ◌<◌, ◌^◌, [], ◌∷◌, length, take, drop, get_or, false, ap, ◌∙◌, arith, length-drop}
use Rattle.merkle_tree.proofs.Grown.{grown_all}
use Rattle.merkle_tree.specs.Binding.{grown_within, left_pairs, right_pair, tree_pairs}
use Rattle.merkle_tree.specs.Consistency.{proof_len_within, roots_within}
use Rattle.merkle_clash.proofs.Finding.{IsFirst, joined, joined_both}
use Rattle.merkle_clash.proofs.Proving.{front_grown, front_size, low_grown, low_len, rest_grown, rest_size, some_digest, tall}
use Rattle.merkle_clash.proofs.growth.+grown_clash.Goals as goal

pub returns-then-p-q : goal.returns-then-p-q
returns-then-p-q g t c = rw (grown_all g.H.TreeHash.hash c.args.height c.args.p.now c.args.q.now c.args.whole c.args.old_root.now c.args.proof.now (omega arith)) c.trees_clash.ensures

pub grown_clash-requires : goal.grown_clash-requires
grown_clash-requires g t c κs within =
    let h = c.args.height in
    let m = length c.args.p.now in
    let n = length c.args.q.now in
    let less : m < n = omega arith in
    let size : length c.args.proof.now ≡ proof_len_within (h - 1) m n c.args.whole = c.requires.size ∙ low_len h (h - 1) m n c.args.whole (tall h m n c.requires.some less c.requires.few) less (omega arith) in
    search (rules, size)

pub returns-then-q-front : goal.returns-then-q-front
returns-then-q-front g t c =
    let h = c.args.height in
    let m = length c.args.p.now in
    let n = length c.args.q.now in
    let less : m < n = omega arith in
    rw (low_grown g.H.TreeHash.hash h (h - 1) c.args.p.now c.args.q.now c.args.whole c.args.old_root.now c.args.proof.now (tall h m n c.requires.some less c.requires.few) less (omega arith)) c.grown_clash.ensures

pub overflow_sub-last : goal.overflow_sub-last
overflow_sub-last g t c = omega (arith, c.requires.size, some_digest c.args.height (length c.args.p.now) (length c.args.q.now) c.args.whole c.requires.some (omega arith) c.requires.few (omega arith))

pub bounds-proof-last : goal.bounds-proof-last
bounds-proof-last g t c = omega (arith, c.requires.size, some_digest c.args.height (length c.args.p.now) (length c.args.q.now) c.args.whole c.requires.some (omega arith) c.requires.few (omega arith))

pub right_clash-top-requires-clause-size : goal.right_clash-top-requires-clause-size
right_clash-top-requires-clause-size g t c = front_size c.args.height (length c.args.p.now) (length c.args.q.now) c.args.whole c.args.proof.now c.requires.some (omega arith) c.requires.few (omega arith) (omega arith) c.requires.size

pub grown_clash-requires-then-p-front : goal.grown_clash-requires-then-p-front
grown_clash-requires-then-p-front g t c κs within =
    let proof = c.args.proof.now in
    let h = c.args.height in
    let m = length c.args.p.now in
    let n = length c.args.q.now in
    let less : m < n = omega arith in
    let front : length c.split_at.result.0.now ≡ 2 ^ (h - 1) = omega (arith, c.split_at.ensures.front_len, c.front_len-front.ensures.value) in
    let size : length (take (length proof - 1) proof) ≡ proof_len_within (h - 1) m (length c.split_at.result.0.now) c.args.whole = rw front (front_size h m n c.args.whole proof c.requires.some less c.requires.few (omega arith) (omega arith) c.requires.size) in
    search (rules, size)

pub returns-then-p-front : goal.returns-then-p-front
returns-then-p-front g t c =
    let H = g.H.TreeHash.hash in
    let h = c.args.height in
    let z = h - 1 in
    let p = c.args.p.now in
    let q = c.args.q.now in
    let whole = c.args.whole in
    let old = c.args.old_root.now in
    let proof = c.args.proof.now in
    let s = 2 ^ z in
    let k = length proof - 1 in
    let less : length p < length q = omega arith in
    let size : length proof ≡ k + 1 = omega (arith, c.requires.size, some_digest h (length p) (length q) whole c.requires.some less c.requires.few (omega arith)) in
    let top = right_pair H z q (get_or proof k []) (roots_within H z (length p) s whole old (take k proof)) ∷ [] in
    let below = grown_within H z p (take s q) whole old (take k proof) in
    let found : IsFirst H c.grown_clash-then-p-front.result below = rw (← c.front_len-front.ensures.value, ← c.split_at.ensures.front) c.grown_clash-then-p-front.ensures in
    rw (front_grown H h z p q whole old proof k (tall h (length p) (length q) c.requires.some less c.requires.few) less (omega arith) (omega arith) size)
    (rw c.or.ensures (joined H c.right_clash-top.result c.grown_clash-then-p-front.result top below c.right_clash-top.ensures found))

pub left_clash-top-requires-clause-size : goal.left_clash-top-requires-clause-size
left_clash-top-requires-clause-size g t c = rest_size c.args.height (length c.args.p.now) (length c.args.q.now) c.args.whole c.args.proof.now c.requires.some (omega arith) c.requires.few (omega arith) c.requires.size

pub grown_clash-in_rest-requires : goal.grown_clash-in_rest-requires
grown_clash-in_rest-requires g t c κs within =
    let proof = c.args.proof.now in
    let h = c.args.height in
    let p = c.args.p.now in
    let q = c.args.q.now in
    let s = 2 ^ (h - 1) in
    let less : length p < length q = omega arith in
    let rest_q : length c.split_at.result.1.now ≡ length q - s = ap length c.split_at.ensures.back ∙ omega (arith, length-drop c.front_len-front.result q, c.front_len-front.ensures.value) in
    let rest_p : length c.split_at-2.result.1.now ≡ length p - s = ap length c.split_at-2.ensures.back ∙ omega (arith, length-drop c.front_len-front.result p, c.front_len-front.ensures.value) in
    let size : length (take (length proof - 1) proof) ≡ proof_len_within (h - 1) (length c.split_at-2.result.1.now) (length c.split_at.result.1.now) false = rw (rest_p, rest_q) (rest_size h (length p) (length q) c.args.whole proof c.requires.some less c.requires.few (omega arith) c.requires.size) in
    search (rules, size, rest_p, rest_q)

pub returns : goal.returns
returns g t c =
    let H = g.H.TreeHash.hash in
    let h = c.args.height in
    let z = h - 1 in
    let p = c.args.p.now in
    let q = c.args.q.now in
    let whole = c.args.whole in
    let old = c.args.old_root.now in
    let proof = c.args.proof.now in
    let s = 2 ^ z in
    let k = length proof - 1 in
    let less : length p < length q = omega arith in
    let size : length proof ≡ k + 1 = omega (arith, c.requires.size, some_digest h (length p) (length q) whole c.requires.some less c.requires.few (omega arith)) in
    let top = left_pairs H z p q (get_or proof k []) (roots_within H z (length p - s) (length q - s) false old (take k proof)) in
    let front = tree_pairs H z (take s p) (take s q) in
    let below = grown_within H z (drop s p) (drop s q) false old (take k proof) in
    let in_front : IsFirst H c.trees_clash-in_front.result front = rw (← c.front_len-front.ensures.value, ← c.split_at.ensures.front, ← c.split_at-2.ensures.front) c.trees_clash-in_front.ensures in
    let in_rest : IsFirst H c.grown_clash-in_rest.result below = rw (← c.front_len-front.ensures.value, ← c.split_at.ensures.back, ← c.split_at-2.ensures.back) c.grown_clash-in_rest.ensures in
    rw (rest_grown H h z p q whole old proof k (tall h (length p) (length q) c.requires.some less c.requires.few) less (omega arith) size)
    (joined_both H c.left_clash-top.result c.trees_clash-in_front.result c.grown_clash-in_rest.result c.or-2.result c.or-3.result top front below c.or-2.ensures c.or-3.ensures c.left_clash-top.ensures in_front in_rest)
