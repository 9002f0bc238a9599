use Rattle.std.proofs.Common.{◌≡◌, ◌≢◌, ◌+◌, length, true, arith, ap, sym, ◌∙◌}
use Rattle.merkle_tree.proofs.Checks.{begins_part, begins_whole, len_part, len_whole}
use Rattle.merkle_tree.proofs.Growing.{len_all}
use Rattle.merkle_tree.specs.Ascent.{growth_sides}
use Rattle.merkle_tree.proofs.checking.proof_len.Goals as goal

pub returns-then-old_size-new_size : goal.returns-then-old_size-new_size
returns-then-old_size-new_size c = sym (len_all c.args.new_size c.args.old_size c.args.new_size true c.if-old_size-new_size.true)

pub returns-then-at-eq0 : goal.returns-then-at-eq0
returns-then-at-eq0 c =
    let m = c.args.old_size in
    let n = c.args.new_size in
    let start = c.lowest_node-at.result in
    let way = c.lowest_node-at.ensures in
    let whole = begins_whole start.0 start.1 m n way.inside way.sides c.if-at-eq0.true in
    c.len-sides.ensures.value ∙ ap length (c.sides_of.ensures ∙ way.sides)
    ∙ sym (len_whole m n c.requires.some c.requires.more whole)

pub returns-else-at-eq0 : goal.returns-else-at-eq0
returns-else-at-eq0 c =
    let m = c.args.old_size in
    let n = c.args.new_size in
    let start = c.lowest_node-at.result in
    let way = c.lowest_node-at.ensures in
    let later : start.0 ≢ 0 = c.if-at-eq0.false in
    let part = begins_part start.0 start.1 m n way.inside way.sides later in
    let sides : c.len-sides.result ≡ length (growth_sides m n) = c.len-sides.ensures.value ∙ ap length (c.sides_of.ensures ∙ way.sides) in
    omega (arith, sides, len_part m n c.requires.some c.requires.more part)
