use Rattle.slh_dsa_c.proofs.TrueKeys.{told}
use Rattle.slh_sets.specs.Sets.{set_numbered}
use Rattle.slh_dsa_c.proofs.keys.slh_dsa_sha2_check_key.Goals as goal

pub returns-clause-true_key : goal.returns-clause-true_key
returns-clause-true_key c = told (set_numbered c.args.set) c.args.key.now c.read_in_set.result c.read_in_set.ensures
