use Rattle.slh_ring.proofs.Infos.{infos_same}
use Rattle.slh_ring.proofs.laws.keys_have_their_own_info.Goals as goal

pub returns : goal.returns
returns c = record {
  names = λ name other p q is_p is_q same. (infos_same name other p q is_p is_q same).names;
  paths = λ name other p q is_p is_q same. (infos_same name other p q is_p is_q same).paths;
}
