-- The cipher and its inverse (FIPS 197, algorithms 1 and 3).
use Rattle.std.specs.Prelude.{◌≡◌, ℕ, zero, suc, ◌+◌, ◌-◌, ◌*◌, List, length, map, take, drop}
use Rattle.aes.specs.Field.{s_box, inverse_s_box}
use Rattle.aes.specs.Block.{added, shift_rows, inverse_shift_rows, mix_columns, inverse_mix_columns}
use Rattle.aes.specs.Schedule.{IsKeyLength, expanded_key, rounds_of}
use Rattle.aes.specs.declared.schedule.RoundKeys.{RoundKeys}

-- the key of round r, from the bytes of all
unfoldable pub round_key : List ℕ → ℕ → List ℕ
round_key w r = take 16 (drop (16 * r) w)

-- the state after r rounds that mix columns
unfoldable pub rounds_done : List ℕ → List ℕ → ℕ → List ℕ
rounds_done w block zero = added block (round_key w 0)
rounds_done w block (suc r) =
    added (mix_columns (shift_rows (map s_box (rounds_done w block r)))) (round_key w (suc r))

-- a block of sixteen bytes under a key (algorithm 1, CIPHER)
unfoldable pub cipher : List ℕ → List ℕ → List ℕ
cipher key block =
    let w = expanded_key key in
    added (shift_rows (map s_box (rounds_done w block (rounds_of key - 1))))
    (round_key w (rounds_of key))

-- the state after r rounds of the inverse that undo the mixing, of n rounds in all
unfoldable pub rounds_undone : List ℕ → ℕ → List ℕ → ℕ → List ℕ
rounds_undone w n block zero = added block (round_key w n)
rounds_undone w n block (suc r) =
    inverse_mix_columns (added
    (map inverse_s_box (inverse_shift_rows (rounds_undone w n block r))) (round_key w (n - suc r)))

-- a block under the inverse of the cipher (algorithm 3, INVCIPHER)
unfoldable pub inverse_cipher : List ℕ → List ℕ → List ℕ
inverse_cipher key block =
    let w = expanded_key key in
    added (map inverse_s_box
    (inverse_shift_rows (rounds_undone w (rounds_of key) block (rounds_of key - 1))))
    (round_key w 0)

-- the round keys are those of a key
pub record HasKey (keys : RoundKeys) (key : List ℕ) : Type 0 where
  pub size : IsKeyLength (length key)
  pub count : keys.rounds ≡ rounds_of key
  pub bytes : take (16 * (keys.rounds + 1)) keys.bytes ≡ expanded_key key
