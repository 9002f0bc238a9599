-- Where the values of a signature stand in its bytes (FIPS 205, section 9.2 for the whole, 8.3 for
-- the forest's part, 5.2 and 6.2 for a layer's).
use Rattle.std.specs.Prelude.{ℕ, ◌+◌, ◌*◌, List, take, drop}
use Rattle.slh_core.specs.Bytes.{part}
use Rattle.slh_core.specs.Parameters.{Scheme, chain_count}
use Rattle.slh_trees.specs.Checking.{forest_of, layers_of}
use Rattle.slh_merkle.specs.Hypertree.{layer_size}

-- the randomizer
abbrev pub randomizer_of : Scheme → List ℕ → List ℕ
randomizer_of Z sig = take Z.n sig

-- what is opened in tree i of the forest: a secret, and its siblings from height 0 up
abbrev pub opened_of : Scheme → List ℕ → ℕ → List ℕ
opened_of Z sig i = part ((1 + Z.a) * Z.n) (forest_of Z sig) i

-- the secret that is opened in tree i
abbrev pub fors_secret_of : Scheme → List ℕ → ℕ → List ℕ
fors_secret_of Z sig i = take Z.n (opened_of Z sig i)

-- the sibling at height z in tree i
abbrev pub fors_sibling_of : Scheme → List ℕ → ℕ → ℕ → List ℕ
fors_sibling_of Z sig i z = part Z.n (drop Z.n (opened_of Z sig i)) z

-- the part of layer j: chain values, and the siblings from height 0 up
abbrev pub layer_of : Scheme → List ℕ → ℕ → List ℕ
layer_of Z sig j = part (layer_size Z.n Z.hp) (layers_of Z sig) j

-- the value of chain c of layer j
abbrev pub chain_value_of : Scheme → List ℕ → ℕ → ℕ → List ℕ
chain_value_of Z sig j c = part Z.n (take (chain_count Z.n * Z.n) (layer_of Z sig j)) c

-- the sibling at height z of layer j
abbrev pub sibling_node_of : Scheme → List ℕ → ℕ → ℕ → List ℕ
sibling_node_of Z sig j z = part Z.n (drop (chain_count Z.n * Z.n) (layer_of Z sig j)) z
