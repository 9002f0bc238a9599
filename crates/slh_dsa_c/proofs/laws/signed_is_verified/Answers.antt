use Rattle.slh_dsa_c.proofs.Verified.{verified_in}
use Rattle.slh_dsa_c.proofs.laws.signed_is_verified.Goals as goal

pub returns : goal.returns
returns c = λ key context message opt_rand len. verified_in _ _ key context message opt_rand len _ c.read_in_set.ensures
