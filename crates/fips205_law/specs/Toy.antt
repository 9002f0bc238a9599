-- The values of the toy suite's worked signature that come before any chain, from the standard's
-- algorithms: secret seed 5, PRF key 7, public seed 3, the message 0x48 with an empty context. From
-- the chains on the standard's values are others: of n at 1 it has four chains, and the suite five.
use Rattle.std.specs.Prelude.{◌≡◌, ℕ, List, [], ◌∷◌}
use Rattle.slh_core.specs.Parameters.{scheme_of}
use Rattle.slh_merkle.specs.ToySuite.{toy}
use Rattle.fips205_law.specs.Fors.{fors_sign, fors_pkFromSig, fors_node, fors_skGen}
use Rattle.fips205_law.specs.Parameters.{Instance, instance_of}
use Rattle.fips205_law.specs.Slh.{Split, split, fors_address, pure_message}

-- n, h', d, a and k
abbrev pub toy_instance : Instance
toy_instance = instance_of (scheme_of toy 1 2 2 2 2)

-- the digest cut up: the forest's byte, tree 2 and leaf 3
abbrev pub toy_parts : Split
toy_parts = record { md = 0x9d ∷ []; idx_tree = 2; idx_leaf = 3 }

abbrev pub toy_forest : List ℕ
toy_forest = 0x52 ∷ 0x34 ∷ 0x89 ∷ 0x73 ∷ 0x3b ∷ 0x15 ∷ []

pub record ToyAgrees : Type 0 where
  pub framed : pure_message [] (0x48 ∷ []) ≡ 0 ∷ 0 ∷ 0x48 ∷ []
  pub randomizer : toy_instance.PRF_msg (7 ∷ []) (3 ∷ []) (0 ∷ 0 ∷ 0x48 ∷ []) ≡ 0x52 ∷ []
  pub digest : (root : List ℕ)
      → toy_instance.H_msg (0x52 ∷ []) (3 ∷ []) root (0 ∷ 0 ∷ 0x48 ∷ [])
      ≡ 0x9d ∷ 0xc2 ∷ 0xe7 ∷ []
  pub parts : split toy_instance (0x9d ∷ 0xc2 ∷ 0xe7 ∷ []) ≡ toy_parts
  pub secret : fors_skGen toy_instance (5 ∷ []) (3 ∷ []) (fors_address toy_parts) 7 ≡ 137 ∷ []
  pub node : fors_node toy_instance (5 ∷ []) 1 2 (3 ∷ []) (fors_address toy_parts) ≡ 184 ∷ []
  pub forest : fors_sign toy_instance (0x9d ∷ []) (5 ∷ []) (3 ∷ []) (fors_address toy_parts)
      ≡ toy_forest
  pub key : fors_pkFromSig toy_instance toy_forest (0x9d ∷ []) (3 ∷ []) (fors_address toy_parts)
      ≡ 0x2c ∷ []
