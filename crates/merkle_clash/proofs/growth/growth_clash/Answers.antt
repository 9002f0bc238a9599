use Rattle.std.proofs.Common.{◌≡◌, ◌≤◌, ◌^◌, length, true, sym, ◌∙◌, arith}
use Rattle.merkle_tree.proofs.Ways.{enough}
use Rattle.merkle_tree.specs.Consistency.{proof_len}
use Rattle.merkle_tree.specs.Tree.{tree_root}
use Rattle.merkle_clash.proofs.Finding.{grown_any}
use Rattle.merkle_clash.proofs.Fitting.{growth_fits, no_growth, not_empty}
use Rattle.merkle_clash.proofs.Proving.{len_any}
use Rattle.merkle_clash.proofs.growth.growth_clash.Goals as goal

pub returns-then-proof-proof_len : goal.returns-then-proof-proof_len
returns-then-proof-proof_len g c =
    let p = c.args.p.now in
    let q = c.args.q.now in
    let few : length q ≤ 2 ^ 64 = omega arith in
    let len : c.proof_len.result ≡ proof_len (length p) (length q) = c.proof_len.ensures.value ∙ len_any 64 (length q) (length p) (length q) true c.if-q-p.false few (enough (length q)) in
    no_growth g.H.TreeHash.hash p q c.args.proof.now (not_empty (length p) (sym c.is_empty.ensures ∙ c.if-is_empty.false)) c.if-q-p.false (λ e. c.if-proof-proof_len.true (e ∙ sym len))

pub returns : goal.returns
returns g c =
    let H = g.H.TreeHash.hash in
    let p = c.args.p.now in
    let q = c.args.q.now in
    let proof = c.args.proof.now in
    let few : length q ≤ 2 ^ 64 = omega arith in
    let len : c.proof_len.result ≡ proof_len (length p) (length q) = c.proof_len.ensures.value ∙ len_any 64 (length q) (length p) (length q) true c.if-q-p.false few (enough (length q)) in
    rw (
      growth_fits H p q proof (not_empty (length p) (sym c.is_empty.ensures ∙ c.if-is_empty.false)) c.if-q-p.false (c.if-proof-proof_len.false ∙ len),
      grown_any H (length q) 64 p q true (tree_root H p) proof c.if-q-p.false (enough (length q)) few,
      ← c.root_of.ensures,
    )
    c.grown_clash.ensures
