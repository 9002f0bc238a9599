use Rattle.std.proofs.Common.{◌≤◌, ◌<◌, [], length, min, ℕ, List, Bor, arith, sym, ◌∙◌}
use Rattle.merkle_clash.proofs.EntryPairs.{shown_end, shown_here, shown_on}
use Rattle.merkle_clash.proofs.entries.leaves_clash.Goals as goal

-- what a place past the end of a list of references has
none : Bor (List ℕ)
none = record { ref_ptr = (0, 0); now = [] }

pub returns-then-do_clash : goal.returns-then-do_clash
unfolding none
returns-then-do_clash g c =
    let a = c.args.a.now in
    let b = c.args.b.now in
    let k = c.each_entry.k in
    let in_a : k < length a = omega (arith, c.min-len.ensures) in
    let in_b : k < length b = omega (arith, c.min-len.ensures) in
    sym c.each_entry.invariant ∙ shown_here g.H.TreeHash.hash a b k in_a in_b none none c.do_clash.result c.do_clash.ensures c.if-do_clash.true

pub each_entry-preserved : goal.each_entry-preserved
unfolding none
each_entry-preserved g c =
    let a = c.args.a.now in
    let b = c.args.b.now in
    let k = c.each_entry.k in
    let in_a : k < length a = omega (arith, c.min-len.ensures) in
    let in_b : k < length b = omega (arith, c.min-len.ensures) in
    shown_on g.H.TreeHash.hash a b k in_a in_b none none c.do_clash.result c.do_clash.ensures c.if-do_clash.false ∙ c.each_entry.invariant

pub returns : goal.returns
returns g c =
    let a = c.args.a.now in
    let b = c.args.b.now in
    let past : min (length a) (length b) ≤ c.each_entry.k = omega (arith, c.min-len.ensures, c.each_entry-test.false) in
    sym c.each_entry.invariant ∙ shown_end g.H.TreeHash.hash a b c.each_entry.k past
