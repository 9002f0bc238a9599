use Rattle.std.proofs.Common.{List, ℕ, ◌≡◌, ◌-◌, ◌*◌, ◌/◌, ◌∙◌, ap, arith, drop, length, length-drop, take}
use Rattle.std.proofs.lemmas.List.{take_all}
use Rattle.sha256_lanes.specs.Sha256.{fold_blocks}
use Rattle.sha256_lanes.proofs.Batches.{fold_blocks_rest}
use Rattle.sha256_lanes.proofs.blocks.absorb_blocks.Goals as goal

pub returns : goal.returns
returns c =
    let p : List ℕ = c.args.blocks.now in
    let count : ℕ = length p / 512 in
    let from : ℕ = 512 * count in
    let rest : List ℕ = drop from p in
    let cut : take (length p - from) rest ≡ rest = take_all (length p - from) rest (omega (arith, length-drop from p)) in
    c.absorb_each-2.ensures
    ∙ ap (λ (l : List ℕ). fold_blocks c.absorb_batches.new.state l (length l / 64)) cut
    ∙ ap (λ (h : List ℕ). fold_blocks h rest (length rest / 64)) c.absorb_batches.ensures
    ∙ fold_blocks_rest c.args.state.now p count (omega arith)
