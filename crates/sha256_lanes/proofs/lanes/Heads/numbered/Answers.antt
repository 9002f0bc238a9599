use Rattle.std.proofs.Common.{ℕ, mod-lt, pow_pos, slice_index}
use Rattle.std.proofs.lemmas.List.{get_or-replicate}
use Rattle.sha256_lanes.specs.Eight.{head_bytes, word_in}
use Rattle.sha256_lanes.proofs.EightWords.{numbered_bytes}
use Rattle.sha256_lanes.proofs.lanes.Heads.numbered.Goals as goal

pub returns : goal.returns
unfolding head_bytes
returns c j h =
    let s = c.args.self.now in
    rw (c.fronts.ensures j h, c.middle.ensures j h, get_or-replicate {A = ℕ} 8 j 0 0 h)
    (numbered_bytes (word_in s.w0 j) (word_in s.w1 j) (word_in s.w2 j) (word_in s.w3 j) (word_in s.w4 j) (word_in s.w5 j)
    (slice_index c.args.numbers.now j) (mod-lt (slice_index s.w3 j) (pow_pos 32)))
