use Rattle.std.proofs.Common.{ℕ, ◌∙◌, ◌++◌, ap, sym, take}
use Rattle.std.proofs.lemmas.List.{get_or-replicate}
use Rattle.std.specs.Int.{to_be_bytes, w32}
use Rattle.sha256_lanes.specs.Begun.{HasBegun}
use Rattle.sha256_lanes.specs.Eight.{head_bytes}
use Rattle.sha256_lanes.proofs.EightHashes.{front_ended, front_kept}
use Rattle.sha256_lanes.proofs.hashing.Midstate.begin.Goals as goal

pub returns : goal.returns
unfolding HasBegun
returns c = λ m j held low.
    let heads = c.args.heads.now in
    let zeros = get_or-replicate {A = ℕ} 8 j 0 0 low in
    let is = c.ended-heads.ensures j low ∙ ap (λ x. take 18 (head_bytes heads j) ++ to_be_bytes w32 x) zeros in (
      held,
      sym (ap (take 18) is ∙ front_kept heads j _),
      front_ended heads c.ended-heads.result j is,
      rw c.opened.ensures.state (c.spread.ensures j low),
      c.opened.ensures.opened j low,
    )
