use Rattle.std.proofs.Common.{◌≡◌, ◌+◌, ◌-◌, ◌<◌, ◌^◌, false, refl, sym, ap, ◌∙◌, arith}
use Rattle.merkle_tree.proofs.Growing.{len_all}
use Rattle.merkle_tree.specs.Consistency.{proof_len_within}
use Rattle.merkle_clash.proofs.Proving.{front_len, low_len, rest_len, tall}
use Rattle.merkle_clash.proofs.proof_roots.+proof_len.Goals as goal

pub returns-then-whole-clause-value : goal.returns-then-whole-clause-value
returns-then-whole-clause-value t c = sym (len_all c.args.height c.args.old_size c.args.new_size c.args.whole (omega arith) ∙ rw c.if-whole.true refl)

pub returns-else-whole-clause-value : goal.returns-else-whole-clause-value
returns-else-whole-clause-value t c = sym (len_all c.args.height c.args.old_size c.args.new_size c.args.whole (omega arith) ∙ rw c.if-whole.false refl)

pub returns-then-new_size-front-clause-value : goal.returns-then-new_size-front-clause-value
returns-then-new_size-front-clause-value t c =
    let h = c.args.height in
    let less : c.args.old_size < c.args.new_size = omega arith in
    c.proof_len.ensures.value ∙ sym (low_len h (h - 1) c.args.old_size c.args.new_size c.args.whole (tall h c.args.old_size c.args.new_size c.requires.some less c.requires.few) less (omega arith))

pub returns-then-old_size-front-clause-value : goal.returns-then-old_size-front-clause-value
returns-then-old_size-front-clause-value t c =
    let h = c.args.height in
    let m = c.args.old_size in
    let n = c.args.new_size in
    let less : m < n = omega arith in
    let below : c.proof_len-then-old_size-front.result ≡ proof_len_within (h - 1) m (2 ^ (h - 1)) c.args.whole = rw (← c.front_len-front.ensures.value) c.proof_len-then-old_size-front.ensures.value in
    ap (λ k. k + 1) below ∙ sym (front_len h (h - 1) m n c.args.whole (tall h m n c.requires.some less c.requires.few) less (omega arith) (omega arith))

pub returns-else-old_size-front-clause-value : goal.returns-else-old_size-front-clause-value
returns-else-old_size-front-clause-value t c =
    let h = c.args.height in
    let m = c.args.old_size in
    let n = c.args.new_size in
    let less : m < n = omega arith in
    let below : c.proof_len-else-old_size-front.result ≡ proof_len_within (h - 1) (m - 2 ^ (h - 1)) (n - 2 ^ (h - 1)) false = rw (← c.front_len-front.ensures.value) c.proof_len-else-old_size-front.ensures.value in
    ap (λ k. k + 1) below ∙ sym (rest_len h (h - 1) m n c.args.whole (tall h m n c.requires.some less c.requires.few) less (omega arith))
