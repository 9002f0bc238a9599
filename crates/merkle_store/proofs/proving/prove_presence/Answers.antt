use Rattle.std.proofs.Common.{◌≡◌, ◌++◌, ap, sym, ◌∙◌, take, arith}
use Rattle.std.proofs.lemmas.Bool.{false≢true}
use Rattle.merkle_tree.specs.Tree.{inclusion_path}
use Rattle.merkle_store.proofs.Passing.{path_passes}
use Rattle.merkle_store.proofs.proving.prove_presence.Goals as goal

pub returns-then-not-check_inclusion-clause-differs : goal.returns-then-not-check_inclusion-clause-differs
returns-then-not-check_inclusion-clause-differs g c = λ tells root leaf.
    let q = g.N.Nodes.digests c.args.nodes.now in
    let made : c.deref.result.now ≡ inclusion_path g.H.TreeHash.hash (take c.args.size q) c.args.index = c.deref.ensures.value ∙ c.in_ok-push_path.ensures.path tells
    ∙ ap (λ xs. xs ++ inclusion_path g.H.TreeHash.hash (take c.args.size q) c.args.index) c.new-path.ensures.items in
    absurd (false≢true (sym c.if-not-check_inclusion.true ∙ c.check_inclusion.ensures
    ∙ path_passes g.H.TreeHash.hash c.args.index c.args.size _ _ _ q (omega (arith, c.if-index-size.false)) c.requires leaf root made))
