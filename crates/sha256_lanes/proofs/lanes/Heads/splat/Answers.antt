use Rattle.std.proofs.Common.{[], List, ℕ, ◌∙◌, ap, arith, subst, sym, take}
use Rattle.std.proofs.lemmas.List.{get_or-replicate}
use Rattle.sha256_lanes.specs.Eight.{IsBlock}
use Rattle.sha256_lanes.proofs.EightWords.{take_padded_all}
use Rattle.sha256_lanes.proofs.lanes.Heads.splat.Goals as goal

pub of_blocks-requires : goal.of_blocks-requires
of_blocks-requires c = λ j h.
    subst IsBlock (sym (get_or-replicate {A = List ℕ} 8 j c.block_of.result [] h)) c.block_of.ensures.block

pub returns : goal.returns
returns c j h =
    c.of_blocks.ensures j h ∙ ap (take 22) (get_or-replicate {A = List ℕ} 8 j c.block_of.result [] h ∙ c.block_of.ensures.value)
    ∙ take_padded_all 22 c.args.head.now (omega arith) (omega arith)
