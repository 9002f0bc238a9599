-- How a stream of bytes is cut into blocks.
use Rattle.std.specs.Prelude.{◌≡◌, ℕ, ◌+◌, ◌-◌, ◌*◌, ◌/◌, List, ◌++◌, length, take, drop, replicate}
use Rattle.std.specs.Prelude.{nat_le, if◌then◌else◌}
use Rattle.block_buffer.specs.Sink.{SinkState, Takes}

-- Of `count` bytes, how many are handed out: as many whole blocks as leave the bytes that wait.
abbrev pub handed : ℕ → ℕ → ℕ → ℕ
handed waiting size count = (count - waiting) / size * size

-- the bytes of a stream that are handed out in blocks
abbrev pub blocks_of : ℕ → ℕ → List ℕ → List ℕ
blocks_of waiting size stream = take (handed waiting size (length stream)) stream

-- the bytes of a stream that are kept
abbrev pub rest_of : ℕ → ℕ → List ℕ → List ℕ
rest_of waiting size stream = drop (handed waiting size (length stream)) stream

-- the sink took all of the stream but what is held
pub record IsCut (before now : SinkState) (stream held : List ℕ) : Type 0 where
  pub taken : List ℕ
  pub joined : taken ++ held ≡ stream
  pub takes : Takes before now taken

-- so many bytes: some, then zeros, then a suffix
abbrev pub filled : ℕ → List ℕ → List ℕ → List ℕ
filled count head suffix = head ++ replicate (count - (length head + length suffix)) 0 ++ suffix

-- bytes, zeros and a suffix: one block where these fit one, else two
abbrev pub padded : ℕ → List ℕ → List ℕ → List ℕ
padded size head suffix =
    filled (if nat_le (length head + length suffix) size then size else 2 * size) head suffix
