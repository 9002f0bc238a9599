use Rattle.std.proofs.Common.{ℕ, mod-lt, pow_pos, slice_index}
use Rattle.std.proofs.lemmas.List.{get_or-replicate}
use Rattle.sha256_lanes.specs.Eight.{head_bytes, word_in}
use Rattle.sha256_lanes.proofs.EightWords.{stepped_bytes}
use Rattle.sha256_lanes.proofs.lanes.Heads.stepped.Goals as goal

pub returns-clause-bytes : goal.returns-clause-bytes
unfolding head_bytes
returns-clause-bytes c j h = λ none.
    let s = c.args.self.now in
    rw (get_or-replicate {A = ℕ} 8 j _ 0 h)
    (stepped_bytes (word_in s.w0 j) (word_in s.w1 j) (word_in s.w2 j) (word_in s.w3 j) (word_in s.w4 j) (word_in s.w5 j)
    c.args.number (mod-lt (slice_index s.w4 j) (pow_pos 32)) none c.requires.low)
