-- What goes through a buffer in several calls of a sink.
use Rattle.std.proofs.Common.{◌≡◌, ℕ, ◌+◌, ◌*◌, ◌<◌, ◌≤◌, List, [], ◌++◌, length, take, drop, arith, refl, ap, sym, ◌∙◌, append_assoc, length-append, Option, None, Some}
use Rattle.std.proofs.lemmas.List.{append-nil, take-append-drop}
use Rattle.std.proofs.Math.Seq.{take-append-add, drop-append-add, take-append_seam}
use Rattle.block_buffer.specs.Sink.{SinkState, Takes, TakesPart, room_after}
use Rattle.std.specs.Prelude.{Result, Ok, Err, OnOk, OnErr}
use Rattle.block_buffer.specs.Blocks.{IsCut, handed, blocks_of, rest_of}
use Rattle.block_buffer.proofs.Handed.{handed_none, handed_more}

pub room_after_none : (room : Option ℕ) → room_after room 0 ≡ room
room_after_none None = refl
room_after_none (Some n) = ap (λ k. Some k) (omega arith)

pub room_after_twice : (room : Option ℕ) (m n : ℕ) → room_after (room_after room m) n ≡ room_after room (m + n)
room_after_twice None m n = refl
room_after_twice (Some k) m n = ap (λ k. Some k) (omega arith)

-- a sink that wasn't called took nothing
pub takes_nothing : (A : SinkState) → Takes A A []
takes_nothing A = record { grows = λ m stood. rw append-nil stood; room = sym (room_after_none A.room) }

-- two calls, one after the other
pub takes_both : (A B C : SinkState) (s t : List ℕ) → Takes A B s → Takes B C t → Takes A C (s ++ t)
takes_both A B C s t first second = record {
  grows = λ m stood. rw (← append_assoc m s t) (second.grows (m ++ s) (first.grows m stood));
  room = second.room ∙ (rw (first.room, room_after_twice A.room (length s) (length t), length-append s t) refl);
}

-- a sink that refuses at once took no block
pub part_none : (size : ℕ) (A B : SinkState) (t : List ℕ) → Takes A B [] → TakesPart size A B t
part_none size A B t none =
    let zero : 0 * size ≡ 0 = omega arith in
    record { blocks = 0; within = omega (arith, zero); takes = rw zero none }

-- a sink that refuses after a first block took that block
pub part_first : (size : ℕ) (A B C : SinkState) (s t : List ℕ) → length s ≡ size → Takes A B s → Takes B C [] → TakesPart size A C (s ++ t)
part_first size A B C s t full first none =
    let one : 1 * size ≡ length s = omega (arith, full) in
    record {
      blocks = 1;
      within = rw (one, length-append s t) (omega arith);
      takes = rw (one, take-append_seam s t) (rw append-nil at (takes_both A B C s [] first none));
    }

module _ (waiting size : ℕ) (some : 1 ≤ size) where
  -- bytes that fill no block are kept
  module _ (stream : List ℕ) (short : length stream < size + waiting) where
    none : handed waiting size (length stream) ≡ 0
    none = handed_none waiting size (length stream) some short

    pub blocks_of_short : blocks_of waiting size stream ≡ []
    blocks_of_short = rw none refl

    pub rest_of_short : rest_of waiting size stream ≡ stream
    rest_of_short = rw none refl

  -- a first block, and what follows it
  module _ (block right : List ℕ) (full : length block ≡ size) (enough : waiting ≤ length right) where
    count : handed waiting size (length (block ++ right)) ≡ length block + handed waiting size (length right)
    count = rw (length-append block right, full) (handed_more waiting size (length right) some enough)

    pub blocks_of_more : blocks_of waiting size (block ++ right) ≡ block ++ blocks_of waiting size right
    blocks_of_more = rw (count, take-append-add block right (handed waiting size (length right))) refl

    pub rest_of_more : rest_of waiting size (block ++ right) ≡ rest_of waiting size right
    rest_of_more = rw (count, drop-append-add block right (handed waiting size (length right))) refl

-- what the two parts of an input are
pub cut : (n : ℕ) (old xs left right : List ℕ) → left ≡ take n xs → right ≡ drop n xs → old ++ xs ≡ (old ++ left) ++ right
cut n old xs left right p q = rw (p, q, append_assoc, take-append-drop) refl

-- over a sink that didn't refuse, what was taken and what is held are the stream
pub unrefused : {T E : Type 0} (result : Result T E) (A B : SinkState) (waiting size : ℕ) (stream held : List ℕ) (Refuses : Type 0) → OnOk result (Takes A B (blocks_of waiting size stream)) → OnOk result (held ≡ rest_of waiting size stream) → OnErr result Refuses → (Refuses → ⊥) → IsCut A B stream held
unrefused (Ok v) A B waiting size stream held Refuses takes rest cause none = record {
  taken = blocks_of waiting size stream;
  joined = rw rest (take-append-drop (handed waiting size (length stream)) stream);
  takes = takes;
}
unrefused (Err e) A B waiting size stream held Refuses takes rest cause none = absurd (none cause)
