use Rattle.std.proofs.Common.{◌≡◌, ◌++◌, ap, sym, ◌∙◌, take, arith}
use Rattle.std.proofs.lemmas.Bool.{false≢true}
use Rattle.merkle_tree.specs.Consistency.{consistency_proof}
use Rattle.merkle_store.proofs.Passing.{proof_passes}
use Rattle.merkle_store.proofs.proving.prove_growth.Goals as goal

pub returns-then-not-check_consistency-clause-differs : goal.returns-then-not-check_consistency-clause-differs
returns-then-not-check_consistency-clause-differs g c = λ tells root old.
    let q = g.N.Nodes.digests c.args.nodes.now in
    let made : c.deref.result.now ≡ consistency_proof g.H.TreeHash.hash (take c.args.size q) c.args.old_size = c.deref.ensures.value ∙ c.in_ok-push_proof.ensures.proof tells
    ∙ ap (λ xs. xs ++ consistency_proof g.H.TreeHash.hash (take c.args.size q) c.args.old_size) c.new-proof.ensures.items in
    absurd (false≢true (sym c.if-not-check_consistency.true ∙ c.check_consistency.ensures
    ∙ proof_passes g.H.TreeHash.hash c.args.old_size c.args.size _ _ _ q (omega (arith, c.if-old_size-eq0.false)) (omega (arith, c.if-size-old_size.false)) c.requires old root made))
