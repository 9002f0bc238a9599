use Rattle.std.proofs.Common.{List, ℕ, ◌++◌, ◌∙◌, ap, take}
use Rattle.sha256_lanes.specs.Eight.{lane_bytes}
use Rattle.sha256_lanes.specs.Sha256.{sha256}
use Rattle.slh_hash.specs.Sha2.{seed_block, tweaked_hash_256}
use Rattle.slh_hash.proofs.pairs.next_eight.Goals as goal

pub returns : goal.returns
unfolding tweaked_hash_256
returns c = λ s a front k low begun is.
    let n = c.args.n in
    let m = seed_block 64 n s in
    let x = take n (lane_bytes c.args.values.now k) in
    ap (take n) (c.finalize_words.ensures m front k begun low ∙ ap (λ (h : List ℕ). sha256 (m ++ (h ++ x))) is)
