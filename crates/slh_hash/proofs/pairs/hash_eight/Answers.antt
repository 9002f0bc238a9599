use Rattle.std.proofs.Common.{List, ℕ, ◌++◌, ◌∙◌, ap, take}
use Rattle.sha256_lanes.specs.Eight.{lane_bytes}
use Rattle.sha256_lanes.specs.Sha256.{sha256}
use Rattle.slh_hash.specs.Sha2.{seed_block, tweaked_hash_256}
use Rattle.slh_hash.proofs.pairs.hash_eight.Goals as goal

pub returns : goal.returns
unfolding tweaked_hash_256
returns g c = λ a k low is.
    let n = g.N.ArraySize.USIZE in
    let keyed = c.args.keyed.now in
    let m = seed_block 64 n keyed.pk_seed in
    let x = take n (lane_bytes c.args.values.now k) in
    ap (take n) ((rw c.USIZE.ensures at (c.finalize_words.ensures m k keyed.begins low))
    ∙ ap (λ (h : List ℕ). sha256 (m ++ (h ++ x))) is)
