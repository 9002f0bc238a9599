use Rattle.std.proofs.Common.{rules, ◌≡◌, ◌+◌, ◌-◌, ◌<◌, length, take, get_or, [], false, refl, sym, ap, ◌∙◌, arith}
use Rattle.merkle_tree.proofs.Growing.{len_all, roots_all}
use Rattle.merkle_tree.specs.Consistency.{Roots, proof_len_within}
use Rattle.merkle_tree.specs.Tree.{node_hash}
use Rattle.merkle_clash.proofs.Proving.{front_roots, front_size, low_len, low_roots, rest_roots, rest_size, some_digest, tall}
use Rattle.merkle_clash.proofs.proof_roots.+proof_roots.Goals as goal

pub bounds-proof-0 : goal.bounds-proof-0
bounds-proof-0 g t c =
    let one : length c.args.proof.now ≡ 1 = c.requires.size ∙ len_all c.args.height c.args.old_size c.args.new_size c.args.whole (omega arith) ∙ rw c.if-whole.false refl in
    omega (arith, one)

pub returns-then-whole-clause-old : goal.returns-then-whole-clause-old
returns-then-whole-clause-old g t c = rw (roots_all g.H.TreeHash.hash c.args.height c.args.old_size c.args.new_size c.args.whole c.args.old_root.now c.args.proof.now (omega arith), c.if-whole.true) refl

pub returns-then-whole-clause-new : goal.returns-then-whole-clause-new
returns-then-whole-clause-new g t c = rw (roots_all g.H.TreeHash.hash c.args.height c.args.old_size c.args.new_size c.args.whole c.args.old_root.now c.args.proof.now (omega arith), c.if-whole.true) refl

pub returns-else-whole-clause-old : goal.returns-else-whole-clause-old
returns-else-whole-clause-old g t c = rw (roots_all g.H.TreeHash.hash c.args.height c.args.old_size c.args.new_size c.args.whole c.args.old_root.now c.args.proof.now (omega arith), c.if-whole.false) refl

pub returns-else-whole-clause-new : goal.returns-else-whole-clause-new
returns-else-whole-clause-new g t c = rw (roots_all g.H.TreeHash.hash c.args.height c.args.old_size c.args.new_size c.args.whole c.args.old_root.now c.args.proof.now (omega arith), c.if-whole.false) refl

pub proof_roots-requires : goal.proof_roots-requires
proof_roots-requires g t c κs within =
    let h = c.args.height in
    let m = c.args.old_size in
    let n = c.args.new_size in
    let less : m < n = omega arith in
    let size : length c.args.proof.now ≡ proof_len_within (h - 1) m n c.args.whole = c.requires.size ∙ low_len h (h - 1) m n c.args.whole (tall h m n c.requires.some less c.requires.few) less (omega arith) in
    search (rules, size)

pub returns-then-new_size-front-clause-old : goal.returns-then-new_size-front-clause-old
returns-then-new_size-front-clause-old g t c =
    let h = c.args.height in
    let m = c.args.old_size in
    let n = c.args.new_size in
    let less : m < n = omega arith in
    c.proof_roots.ensures.old ∙ ap (λ (r : Roots). r.old) (sym (low_roots g.H.TreeHash.hash h (h - 1) m n c.args.whole c.args.old_root.now c.args.proof.now (tall h m n c.requires.some less c.requires.few) less (omega arith)))

pub returns-then-new_size-front-clause-new : goal.returns-then-new_size-front-clause-new
returns-then-new_size-front-clause-new g t c =
    let h = c.args.height in
    let m = c.args.old_size in
    let n = c.args.new_size in
    let less : m < n = omega arith in
    c.proof_roots.ensures.new ∙ ap (λ (r : Roots). r.new) (sym (low_roots g.H.TreeHash.hash h (h - 1) m n c.args.whole c.args.old_root.now c.args.proof.now (tall h m n c.requires.some less c.requires.few) less (omega arith)))

pub overflow_sub-last : goal.overflow_sub-last
overflow_sub-last g t c = omega (arith, c.requires.size, some_digest c.args.height c.args.old_size c.args.new_size c.args.whole c.requires.some (omega arith) c.requires.few (omega arith))

pub bounds-proof-last : goal.bounds-proof-last
bounds-proof-last g t c = omega (arith, c.requires.size, some_digest c.args.height c.args.old_size c.args.new_size c.args.whole c.requires.some (omega arith) c.requires.few (omega arith))

pub proof_roots-requires-then-old_size-front : goal.proof_roots-requires-then-old_size-front
proof_roots-requires-then-old_size-front g t c κs within =
    let proof = c.args.proof.now in
    let h = c.args.height in
    let m = c.args.old_size in
    let n = c.args.new_size in
    let less : m < n = omega arith in
    let size : length (take (length proof - 1) proof) ≡ proof_len_within (h - 1) m c.front_len-front.result c.args.whole = rw c.front_len-front.ensures.value (front_size h m n c.args.whole proof c.requires.some less c.requires.few (omega arith) (omega arith) c.requires.size) in
    search (rules, size)

pub proof_roots-requires-else-old_size-front : goal.proof_roots-requires-else-old_size-front
proof_roots-requires-else-old_size-front g t c κs within =
    let proof = c.args.proof.now in
    let h = c.args.height in
    let m = c.args.old_size in
    let n = c.args.new_size in
    let less : m < n = omega arith in
    let front = c.front_len-front.result in
    let size : length (take (length proof - 1) proof) ≡ proof_len_within (h - 1) (m - front) (n - front) false = rw c.front_len-front.ensures.value (rest_size h m n c.args.whole proof c.requires.some less c.requires.few (omega arith) c.requires.size) in
    search (rules, size)

pub returns-then-old_size-front-clause-old : goal.returns-then-old_size-front-clause-old
returns-then-old_size-front-clause-old g t c =
    let H = g.H.TreeHash.hash in
    let h = c.args.height in
    let z = h - 1 in
    let m = c.args.old_size in
    let n = c.args.new_size in
    let old = c.args.old_root.now in
    let proof = c.args.proof.now in
    let k = length proof - 1 in
    let less : m < n = omega arith in
    let size : length proof ≡ k + 1 = omega (arith, c.requires.size, some_digest h m n c.args.whole c.requires.some less c.requires.few (omega arith)) in
    rw (front_roots H h z m n c.args.whole old proof k (tall h m n c.requires.some less c.requires.few) less (omega arith) (omega arith) size, ← c.front_len-front.ensures.value)
    c.proof_roots-then-old_size-front.ensures.old

pub returns-then-old_size-front-clause-new : goal.returns-then-old_size-front-clause-new
returns-then-old_size-front-clause-new g t c =
    let H = g.H.TreeHash.hash in
    let h = c.args.height in
    let z = h - 1 in
    let m = c.args.old_size in
    let n = c.args.new_size in
    let old = c.args.old_root.now in
    let proof = c.args.proof.now in
    let k = length proof - 1 in
    let less : m < n = omega arith in
    let size : length proof ≡ k + 1 = omega (arith, c.requires.size, some_digest h m n c.args.whole c.requires.some less c.requires.few (omega arith)) in
    rw (front_roots H h z m n c.args.whole old proof k (tall h m n c.requires.some less c.requires.few) less (omega arith) (omega arith) size, ← c.front_len-front.ensures.value)
    (c.node.ensures ∙ ap (λ x. node_hash H x (get_or proof k [])) c.proof_roots-then-old_size-front.ensures.new)

pub returns-else-old_size-front-clause-old : goal.returns-else-old_size-front-clause-old
returns-else-old_size-front-clause-old g t c =
    let H = g.H.TreeHash.hash in
    let h = c.args.height in
    let z = h - 1 in
    let m = c.args.old_size in
    let n = c.args.new_size in
    let old = c.args.old_root.now in
    let proof = c.args.proof.now in
    let k = length proof - 1 in
    let less : m < n = omega arith in
    let size : length proof ≡ k + 1 = omega (arith, c.requires.size, some_digest h m n c.args.whole c.requires.some less c.requires.few (omega arith)) in
    rw (rest_roots H h z m n c.args.whole old proof k (tall h m n c.requires.some less c.requires.few) less (omega arith) size, ← c.front_len-front.ensures.value)
    (c.node-else-old_size-front.ensures ∙ ap (λ x. node_hash H (get_or proof k []) x) c.proof_roots-else-old_size-front.ensures.old)

pub returns-else-old_size-front-clause-new : goal.returns-else-old_size-front-clause-new
returns-else-old_size-front-clause-new g t c =
    let H = g.H.TreeHash.hash in
    let h = c.args.height in
    let z = h - 1 in
    let m = c.args.old_size in
    let n = c.args.new_size in
    let old = c.args.old_root.now in
    let proof = c.args.proof.now in
    let k = length proof - 1 in
    let less : m < n = omega arith in
    let size : length proof ≡ k + 1 = omega (arith, c.requires.size, some_digest h m n c.args.whole c.requires.some less c.requires.few (omega arith)) in
    rw (rest_roots H h z m n c.args.whole old proof k (tall h m n c.requires.some less c.requires.few) less (omega arith) size, ← c.front_len-front.ensures.value)
    (c.node-else-old_size-front-2.ensures ∙ ap (λ x. node_hash H (get_or proof k []) x) c.proof_roots-else-old_size-front.ensures.new)
