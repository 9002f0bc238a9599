use Rattle.std.proofs.Common.{List, ℕ, ◌≡◌, ◌-◌, ◌*◌, ◌/◌, ◌∙◌, ap, arith, drop, length, length-drop, take}
use Rattle.std.proofs.lemmas.List.{take_all}
use Rattle.sha2.specs.Sha512.{hash_after}
use Rattle.sha512_lanes.proofs.Batches.{hash_after_rest}
use Rattle.sha512_lanes.proofs.blocks.absorb_blocks.Goals as goal

pub returns : goal.returns
returns c =
    let p : List ℕ = c.args.blocks.now in
    let count : ℕ = length p / 512 in
    let from : ℕ = 512 * count in
    let rest : List ℕ = drop from p in
    let cut : take (length p - from) rest ≡ rest = take_all (length p - from) rest (omega (arith, length-drop from p)) in
    c.absorb_each-2.ensures
    ∙ ap (λ (l : List ℕ). hash_after c.absorb_batches.new.state l (length l / 128)) cut
    ∙ ap (λ (h : List ℕ). hash_after h rest (length rest / 128)) c.absorb_batches.ensures
    ∙ hash_after_rest c.args.state.now p count (omega arith)
