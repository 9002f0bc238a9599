-- A key's block.
use Rattle.std.proofs.Common.{◌≡◌, ℕ, ◌-◌, ◌≤◌, List, length, length-append, nat_lt, replicate, true, false, inl, inr, arith}
use Rattle.std.proofs.lemmas.Bool.{cases_lt, le-ltb, lt-ltb}
use Rattle.std.proofs.lemmas.List.{length-map, length-replicate}
use Rattle.hmac_sha256.specs.Hmac.{inner_block, key_block, short_key}
use Rattle.sha256_lanes.proofs.Digest.{length-sha256}

length-short_key : (key : List ℕ) → length (short_key key) ≤ 64
length-short_key key = elim (cases_lt 64 (length key)) [
  | inl long ↦
      let yes : nat_lt 64 (length key) ≡ true = lt-ltb 64 (length key) long in
      rw yes (omega (arith, length-sha256 key))
  | inr short ↦
      let no : nat_lt 64 (length key) ≡ false = le-ltb 64 (length key) short in
      rw no short
]

length-key_block : (key : List ℕ) → length (key_block key) ≡ 64
length-key_block key =
    let zeros : List ℕ = replicate (64 - length (short_key key)) 0 in
    let count : length zeros ≡ 64 - length (short_key key) = length-replicate (64 - length (short_key key)) 0 in
    omega (arith, length-append (short_key key) zeros, count, length-short_key key)

pub length-inner_block : (key : List ℕ) → length (inner_block key) ≡ 64
unfolding inner_block
length-inner_block key = rw length-map (length-key_block key)
