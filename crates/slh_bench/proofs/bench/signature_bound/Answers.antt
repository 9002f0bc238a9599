use Rattle.slh_bench.proofs.Signing.{signature_small}
use Rattle.slh_bench.proofs.bench.signature_bound.Goals as goal

pub returns : goal.returns
returns g c =
    let layers = c.layer_sizes.ensures in
    let forest = c.forest_sizes.ensures in
    rw forest.scheme (signature_small _ _ _ _ _ layers.n_high layers.height_high layers.few_layers forest.bits_high forest.trees_high)
