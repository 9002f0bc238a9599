use Rattle.std.proofs.Common.{◌-◌, ◌^◌, [], ◌∷◌, length, false}
use Rattle.merkle_tree.specs.Binding.{top_input}
use Rattle.merkle_tree.specs.Clashes.{Inputs}
use Rattle.merkle_tree.specs.Consistency.{Roots, roots_within}
use Rattle.merkle_tree.specs.Tree.{pair_input}
use Rattle.merkle_clash.proofs.Finding.{IsFirst, joined}
use Rattle.merkle_clash.proofs.growth.left_clash.Goals as goal

pub returns : goal.returns
returns g c =
    let H = g.H.TreeHash.hash in
    let z = c.args.height - 1 in
    let p = c.args.p.now in
    let q = c.args.q.now in
    let e = c.args.sibling.now in
    let roots : Roots = roots_within H z (length p - 2 ^ z) (length q - 2 ^ z) false c.args.old_root.now c.args.proof.now in
    let old : Inputs = record { first = pair_input e roots.old; second = top_input H z p } in
    let new : Inputs = record { first = pair_input e roots.new; second = top_input H z q } in
    let in_old : IsFirst H c.clash_of-in_old.result (old ∷ []) = rw (← c.top_of.ensures, ← c.front_len-front.ensures.value, ← c.proof_roots.ensures.old) c.clash_of-in_old.ensures in
    let in_new : IsFirst H c.clash_of.result (new ∷ []) = rw (← c.top_of-2.ensures, ← c.front_len-front.ensures.value, ← c.proof_roots.ensures.new) c.clash_of.ensures in
    rw c.or.ensures (joined H c.clash_of-in_old.result c.clash_of.result (old ∷ []) (new ∷ []) in_old in_new)
