-- What hashes that have begun go on from, lane by lane.
use Rattle.std.specs.Prelude.{◌≡◌, ℕ, ◌%◌, ◌^◌, List, take}
use Rattle.sha256_lanes.specs.Eight.{head_bytes, head_words, word_in}
use Rattle.sha256_lanes.specs.Lanes.{IsOpened, variables}
use Rattle.sha256_lanes.specs.Midstate.{BeginsWith}
use Rattle.sha256_lanes.specs.Rounds.{block_words}
use Rattle.sha256_lanes.specs.declared.eight.Begun.{Begun}

-- In lane j the hashes go on from the block m and then the 18 bytes: the state is that after m, the
-- head begins with the bytes and ends with zeros, and its rounds were taken from the state's words.
unfoldable pub HasBegun : Begun → ℕ → List ℕ → List ℕ → Type 0
HasBegun begun j m bytes =
    let at : List ℕ → ℕ = λ lanes. word_in lanes j in
    BeginsWith begun.midstate m
    × (bytes ≡ take 18 (head_bytes begun.heads j))
    × (word_in begun.heads.w4 j % 2 ^ 16 ≡ 0)
    × (variables at begun.opening.state ≡ begun.midstate.words)
    × ((b : List ℕ) → take 5 (block_words b) ≡ take 5 (head_words begun.heads j)
    → IsOpened at b begun.opening)
