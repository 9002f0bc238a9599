-- The first bytes of a file in memory.
use Rattle.std.proofs.Common.{◌≡◌, ◌∙◌, ap, List, ℕ, Option, None, Some, option_map, take}
use Rattle.whole_files.specs.Files.{Node}
use Rattle.slh_host.specs.Outputs.{IsFront}

pub front_is : (here : Option Node) (bytes front : List ℕ) → Some bytes ≡ option_map (λ (node : Node). node.bytes) here
    → front ≡ take 65536 bytes → IsFront here front
front_is None bytes front is first = absurd (cc is)
front_is (Some node) bytes front is first =
    let same : bytes ≡ node.bytes = cc is in
    first ∙ ap (take 65536) same
