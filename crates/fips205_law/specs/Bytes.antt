-- Byte strings, integers and digits (FIPS 205, section 4.4).
use Rattle.std.specs.Prelude.{ℕ, ◌+◌, ◌-◌, ◌*◌, ◌/◌, ◌%◌, ◌^◌, nat_lt}
use Rattle.std.specs.Prelude.{List, [], ◌∷◌, ◌++◌, replicate, slice_index, slice_set}
use Rattle.fips205_law.specs.Loops.{for_below, while_within}

-- Algorithm 2, toInt: the start is line 1, a turn line 3
unfoldable pub toInt : List ℕ → ℕ → ℕ
toInt X n = for_below n (λ i total. 256 * total + slice_index X i) 0

-- Algorithm 3, toByte: the start is line 1, a turn lines 3 and 4. The string that line 3 writes
-- into has n zeros before.
pub record ToByte : Type 0 where
  pub total : ℕ
  pub S : List ℕ

abbrev pub toByte_turn : ℕ → ℕ → ToByte → ToByte
toByte_turn n i s = record {
  total = s.total / 2 ^ 8;
  S = slice_set s.S (n - 1 - i) (s.total % 256);
}

unfoldable pub toByte : ℕ → ℕ → List ℕ
toByte x n = (for_below n (toByte_turn n) (record { total = x; S = replicate n 0 })).S

-- Algorithm 4, base_2b: the start is lines 1 to 3, `base_2b_read` lines 6 to 8 under the test of
-- line 5, a turn lines 5 to 11. The inner loop takes at most b turns, and line 11 writes the
-- elements in their order.
pub record Base2b : Type 0 where
  pub in_at : ℕ
  pub bits : ℕ
  pub total : ℕ
  pub baseb : List ℕ

abbrev pub base_2b_read : List ℕ → Base2b → Base2b
base_2b_read X s = record s {
  total = s.total * 2 ^ 8 + slice_index X s.in_at;
  in_at = s.in_at + 1;
  bits = s.bits + 8;
}

abbrev pub base_2b_turn : List ℕ → ℕ → ℕ → Base2b → Base2b
base_2b_turn X b out s =
    let read = while_within b (λ (v : Base2b). nat_lt v.bits b) (base_2b_read X) s in
    let bits = read.bits - b in
    record read { bits = bits; baseb = read.baseb ++ read.total / 2 ^ bits % 2 ^ b ∷ [] }

abbrev pub base_2b_start : Base2b
base_2b_start = record { in_at = 0; bits = 0; total = 0; baseb = [] }

unfoldable pub base_2b : List ℕ → ℕ → ℕ → List ℕ
base_2b X b out_len = (for_below out_len (base_2b_turn X b) base_2b_start).baseb
