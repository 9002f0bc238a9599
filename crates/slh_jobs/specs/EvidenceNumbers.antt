-- Evidence whose numbers are those of the code.
use Rattle.std.specs.Prelude.{◌<◌, ◌^◌, ⊤}
use Rattle.slh_audit.specs.declared.evidence.Evidence.{Evidence}
use Rattle.slh_audit.specs.declared.evidence.Evidence.TheVariants.{ForsNode, ForsRoots}
use Rattle.slh_audit.specs.declared.evidence.Evidence.TheVariants.{ChainStep, Leaf, TreeNode, Early}

-- each is below 2^32
abbrev pub HasNumbers : Evidence → Type 0
HasNumbers (ForsNode i z) = (i < 2 ^ 32) × (z < 2 ^ 32)
HasNumbers ForsRoots = ⊤
HasNumbers (ChainStep j c q) = (j < 2 ^ 32) × (c < 2 ^ 32) × (q < 2 ^ 32)
HasNumbers (Leaf j) = j < 2 ^ 32
HasNumbers (TreeNode j z) = (j < 2 ^ 32) × (z < 2 ^ 32)
HasNumbers (Early j c) = (j < 2 ^ 32) × (c < 2 ^ 32)
