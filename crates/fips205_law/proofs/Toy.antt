-- The toy suite's values, computed.
use Rattle.std.proofs.Common.{refl}
use Rattle.fips205_law.specs.Addresses.{setTreeAddress, setTypeAndClear, setKeyPairAddress, setChainAddress, setHashAddress, getKeyPairAddress, getTreeIndex}
use Rattle.fips205_law.specs.Bytes.{toInt, toByte, base_2b}
use Rattle.fips205_law.specs.Fors.{fors_skGen, fors_node, fors_sign, fors_pkFromSig}
use Rattle.fips205_law.specs.Loops.{for_below, while_within}
use Rattle.fips205_law.specs.Slh.{pure_message}
use Rattle.fips205_law.specs.Toy.{ToyAgrees}

pub toy_values : ToyAgrees
unfolding pure_message toByte toInt base_2b for_below while_within setTreeAddress setTypeAndClear setKeyPairAddress setChainAddress setHashAddress getKeyPairAddress getTreeIndex fors_skGen fors_node fors_sign fors_pkFromSig
toy_values = record {
  framed = refl;
  randomizer = refl;
  digest = λ root. refl;
  parts = refl;
  secret = refl;
  node = refl;
  forest = refl;
  key = refl;
}
