use Rattle.std.proofs.Common.{arith}
use Rattle.std.proofs.lemmas.Grind.{common_steps}
use Rattle.slh_trees.specs.Signing.{digest_signature}
use Rattle.slh_trees.proofs.sign.sign_digest.Goals as goal

pub split_at_mut-first-requires : goal.split_at_mut-first-requires
split_at_mut-first-requires g c =
    let whole = rw c.forest_sizes.ensures.scheme at c.requires.room in
    omega (arith, whole, c.USIZE.ensures)

pub split_at_mut-forest-requires : goal.split_at_mut-forest-requires
split_at_mut-forest-requires g c =
    let whole = rw c.forest_sizes.ensures.scheme at c.requires.room in
    omega (arith, whole, c.USIZE.ensures, c.split_at_mut-first.ensures.back_len, c.forest_len.ensures.value)

pub ht_sign-requires-clause-room : goal.ht_sign-requires-clause-room
ht_sign-requires-clause-room g c =
    let whole = rw c.forest_sizes.ensures.scheme at c.requires.room in
    omega (arith, whole, c.USIZE.ensures, c.split_at_mut-first.ensures.back_len, c.forest_len.ensures.value, c.split_at_mut-forest.ensures.back_len)

pub returns-clause-value : goal.returns-clause-value
unfolding digest_signature
returns-clause-value g c = grind (arith, common_steps)

pub returns-clause-cost : goal.returns-clause-cost
returns-clause-cost g c =
    let layers = rw c.layer_sizes.ensures.signature_len at c.ht_sign.ensures.cost in
    rw c.forest_sizes.ensures.scheme (omega (arith, c.fors_sign_root-key.ensures.cost, layers))
