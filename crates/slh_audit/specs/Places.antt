-- Where an audit looks for evidence, in its order: the layers from the top one down, in each the
-- nodes from the root down, the leaf, and the chains, each with its steps from the last one down
-- and then its opening; then the roots of the forest, and its trees, each from its root down.
use Rattle.std.specs.Prelude.{ℕ, zero, suc, ◌+◌, ◌-◌, List, [], ◌∷◌, ◌++◌}
use Rattle.std.specs.Prelude.{◌≡◌, Option, true, false}
use Rattle.std.specs.List.{find, Contains}
use Rattle.slh_audit.specs.declared.evidence.Evidence.{Evidence}
use Rattle.slh_audit.specs.declared.evidence.Evidence.TheVariants.{ForsNode, ForsRoots}
use Rattle.slh_audit.specs.declared.evidence.Evidence.TheVariants.{ChainStep, Leaf, TreeNode, Early}
use Rattle.slh_audit.specs.Evidence.{Dispute, shows}
use Rattle.slh_core.specs.Parameters.{chain_count}

-- those of f 0, then those of f 1, .., up to f (k - 1)
unfoldable pub in_turn : (ℕ → List Evidence) → ℕ → List Evidence
in_turn f zero = []
in_turn f (suc k) = in_turn f k ++ f k

-- the nodes of a layer's tree on the way up, from height hp down to 1
abbrev pub tree_node_places : ℕ → ℕ → List Evidence
tree_node_places hp j = in_turn (λ down. TreeNode j (hp - down) ∷ []) hp

-- a chain's steps, from 14 down to 0, and its opening
abbrev pub chain_places : ℕ → ℕ → List Evidence
chain_places j c = in_turn (λ down. ChainStep j c (14 - down) ∷ []) 15 ++ Early j c ∷ []

-- a layer, with so many chains
abbrev pub layer_places : ℕ → ℕ → ℕ → List Evidence
layer_places hp len j =
    tree_node_places hp j ++ (Leaf j ∷ in_turn (chain_places j) len)

-- a tree of the forest, from height a down to 0
abbrev pub fors_tree_places : ℕ → ℕ → List Evidence
fors_tree_places a i = in_turn (λ down. ForsNode i (a - down) ∷ []) (a + 1)

-- the forest, of k trees
abbrev pub forest_places : ℕ → ℕ → List Evidence
forest_places a k = ForsRoots ∷ in_turn (fors_tree_places a) k

-- all layers, from the top one down
abbrev pub all_layers_places : Dispute → List Evidence
all_layers_places D =
    in_turn (λ down. layer_places D.hp (chain_count D.K.n) (D.d - 1 - down)) D.d

-- all places, in order
abbrev pub places : Dispute → List Evidence
places D = all_layers_places D ++ forest_places D.a D.k

-- the first evidence that shows
abbrev pub first_evidence : Dispute → Option Evidence
first_evidence D = find (shows D) (places D)

-- evidence shows, and nothing that stands before it in the order does
pub record IsFirst (D : Dispute) (e : Evidence) : Type 0 where
  pub shown : shows D e ≡ true
  pub before : List Evidence
  pub after : List Evidence
  pub place : places D ≡ before ++ e ∷ after
  pub none_before : (f : Evidence) → Contains before f → shows D f ≡ false
