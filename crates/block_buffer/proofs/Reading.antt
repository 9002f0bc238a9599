-- What is read in several steps.
use Rattle.std.proofs.Common.{◌≡◌, ℕ, ◌+◌, ◌-◌, ◌*◌, ◌%◌, ◌<◌, ◌≤◌, zero, suc, add-one, inl, inr, List, [], ◌∷◌, ◌++◌, length, take, drop, arith, refl, sym, ◌∙◌, append_assoc, length-append}
use Rattle.std.proofs.lemmas.List.{append-nil, length-take-le, take-append-drop, take_at}
use Rattle.std.proofs.lemmas.Nat.{div-mul-add, le-div}
use Rattle.std.proofs.Math.Nat.{div-eq_of_lt, div-mul-le_self, mod-add-div'}
use Rattle.std.proofs.lemmas.Bool.{cases_lt}
use Rattle.std.specs.Prelude.{Option, None, Some}
use Rattle.block_buffer.specs.Gen.{GenState, Gives, Reads, blocks_for}
use Rattle.block_buffer.specs.Sink.{HasRoom, room_after}
use Rattle.block_buffer.proofs.Streams.{room_after_none, room_after_twice}

-- what was unread is read and left
pub cached : (count : ℕ) (old out : List ℕ) → count ≤ length old → take count (take count old ++ drop count out) ++ drop count old ≡ old
cached count old out fits =
    let n : length (take count old) ≡ count = length-take-le count old fits in
    rw (take_at (take count old) (drop count out) count n, take-append-drop count old) refl

-- a block that was read whole leaves nothing unread
pub unread_none : (piece unread : List ℕ) → length piece + length unread ≡ length piece → unread ≡ []
unread_none piece [] e = refl
unread_none piece (x ∷ xs) e = absurd (omega (arith, e))

module _ (size : ℕ) (some : 1 ≤ size) where
  blocks_none : (count : ℕ) → count ≡ 0 → blocks_for size count ≡ 0
  blocks_none count e = let below : count + (size - 1) < size = omega arith in div-eq_of_lt below

  blocks_more : (blocks count more : ℕ) → 0 < more → more ≤ size → count ≡ blocks * size + more → blocks_for size count ≡ blocks + 1
  blocks_more blocks count more low high e =
      let shape : count + (size - 1) ≡ (blocks + 1) * size + (more - 1) = omega (arith, e) in
      let below : more - 1 < size = omega arith in
      rw shape (div-mul-add (blocks + 1) size (more - 1) below)

  -- nothing beyond what was unread is needed
  pub reads_none : (A : GenState) (old front unread : List ℕ) → front ++ unread ≡ old → Reads size A A old front unread
  reads_none A old front unread e =
      let n : length front - length old ≡ 0 = rw (← e, length-append front unread) (omega arith) in
      let none : blocks_for size (length front - length old) ≡ 0 = blocks_none _ n in
      record {
        given = [];
        joined = rw append-nil (sym e);
        gives = rw none (record { grows = λ m stood. rw append-nil stood; room = sym (room_after_none A.room) });
        whole = rw none (omega arith);
      }

  -- one block more
  pub reads_more : (A B C : GenState) (old front piece unread : List ℕ) → 0 < length piece → length piece + length unread ≡ size → Reads size A B old front [] → Gives B C 1 (piece ++ unread) → Reads size A C old (front ++ piece) unread
  reads_more A B C old front piece unread low full before more =
      let blocks : ℕ = blocks_for size (length front - length old) in
      let lengths : length old + blocks * size ≡ length front = rw (← before.whole, ← length-append old before.given, before.joined, append-nil) refl in
      let high : length piece ≤ size = omega arith in
      let total : length (front ++ piece) - length old ≡ blocks * size + length piece = rw (length-append front piece) (omega (arith, lengths)) in
      let one : blocks_for size (length (front ++ piece) - length old) ≡ blocks + 1 = blocks_more blocks _ (length piece) low high total in
      record {
        given = before.given ++ (piece ++ unread);
        joined = rw (← append_assoc old before.given (piece ++ unread), before.joined, append-nil, append_assoc front piece unread) refl;
        gives = rw one (record {
          grows = λ m stood. rw (← append_assoc m before.given (piece ++ unread)) (more.grows (m ++ before.given) (before.gives.grows m stood));
          room = more.room ∙ (rw (before.gives.room, room_after_twice A.room blocks 1) refl);
        });
        whole = rw (one, length-append before.given (piece ++ unread), before.whole, length-append piece unread, full) (omega arith);
      }

  -- a block is begun for no byte, and none too few
  blocks_bounds : (count : ℕ) → (count ≤ blocks_for size count * size) × (blocks_for size count * size < count + size)
  blocks_bounds count =
      let parts : (count + (size - 1)) % size + blocks_for size count * size ≡ count + (size - 1) = mod-add-div' (count + (size - 1)) size in
      let low : (count + (size - 1)) % size < size = omega arith in
      (omega (arith, parts, low), omega (arith, parts))

  blocks_exact : (blocks count over : ℕ) → over < size → count + over ≡ blocks * size → blocks_for size count ≡ blocks
  blocks_exact zero count over low e = blocks_none count (omega (arith, e))
  blocks_exact (suc blocks) count over low e =
      let more : count ≡ blocks * size + (size - over) = omega (arith, e) in
      blocks_more blocks count (size - over) (omega arith) (omega arith) more ∙ add-one blocks

  -- what two pieces need, where the first leaves `left` bytes of `old` and of its blocks
  pub blocks_both : (old first left second : ℕ) → left < size → old + blocks_for size (first - old) * size ≡ first + left → blocks_for size (first + second - old) ≡ blocks_for size (first - old) + blocks_for size (second - left)
  blocks_both old first left second low e = elim (cases_lt (first + second) old) [
    | inl few ↦
        let none : blocks_for size (first - old) ≡ 0 = blocks_none _ (omega arith) in
        let kept : old ≡ first + left = omega (arith, (rw none at e)) in
        rw (blocks_none (first + second - old) (omega arith), none, blocks_none (second - left) (omega (arith, kept))) refl
    | inr enough ↦
        let a : ℕ = blocks_for size (first - old) in
        let b : ℕ = blocks_for size (second - left) in
        let bounds : (second - left ≤ b * size) × (b * size < second - left + size) = blocks_bounds (second - left) in
        let none : second < left → b ≡ 0 = λ short. blocks_none (second - left) (omega (arith, short)) in
        elim (cases_lt second left) [
          | inl short ↦
              let zero_blocks : b ≡ 0 = none short in
              rw zero_blocks (blocks_exact (a + 0) (first + second - old) (left - second) (omega arith) (omega (arith, e)))
          | inr long ↦ blocks_exact (a + b) (first + second - old) (b * size - (second - left)) (omega (arith, bounds.0, bounds.1)) (omega (arith, e, bounds.0))
        ]
  ]

  -- more bytes need no fewer blocks
  pub blocks_grow : (few many : ℕ) → few ≤ many → blocks_for size few ≤ blocks_for size many
  blocks_grow few many low =
      let positive : 0 < size = omega arith in
      le-div (blocks_for size few) (many + (size - 1)) size positive (omega (arith, low, div-mul-le_self (few + (size - 1)) size))

  pub reads_lengths : (A B : GenState) (old out unread : List ℕ) → Reads size A B old out unread → length old + blocks_for size (length out - length old) * size ≡ length out + length unread
  reads_lengths A B old out unread r = rw (← r.whole, ← length-append old r.given, r.joined, length-append out unread) refl

  -- one piece after another
  pub reads_both : (A B C : GenState) (old first left second unread : List ℕ) → length left < size → Reads size A B old first left → Reads size B C left second unread → Reads size A C old (first ++ second) unread
  reads_both A B C old first left second unread low before after =
      let a : ℕ = blocks_for size (length first - length old) in
      let b : ℕ = blocks_for size (length second - length left) in
      let lengths : length old + a * size ≡ length first + length left = reads_lengths A B old first left before in
      let sum : blocks_for size (length (first ++ second) - length old) ≡ a + b =
      rw (length-append first second) (blocks_both (length old) (length first) (length left) (length second) low lengths) in
      record {
        given = before.given ++ after.given;
        joined = rw (← append_assoc old before.given after.given, before.joined, append_assoc first left after.given, after.joined, append_assoc first second unread) refl;
        gives = rw sum (record {
          grows = λ m stood. rw (← append_assoc m before.given after.given) (after.gives.grows (m ++ before.given) (before.gives.grows m stood));
          room = after.gives.room ∙ (rw (before.gives.room, room_after_twice A.room a b) refl);
        });
        whole = rw (sum, length-append before.given after.given, before.whole, after.whole) (omega arith);
      }

-- room for more is room for less
pub room_less : (room : Option ℕ) (m n : ℕ) → m ≤ n → HasRoom room n → HasRoom room m
room_less None m n low fits = tt
room_less (Some k) m n low fits = omega (arith, low, fits)

-- what is left of the room once a part of it was used
pub room_left : (room now : Option ℕ) (m n : ℕ) → now ≡ room_after room m → HasRoom room (m + n) → HasRoom now n
room_left room now m n e fits = rw e (left room fits) where
  left : (room : Option ℕ) → HasRoom room (m + n) → HasRoom (room_after room m) n
  left None fits = tt
  left (Some k) fits = omega (arith, fits)
