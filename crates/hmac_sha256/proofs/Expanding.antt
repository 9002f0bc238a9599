-- What the steps of an expansion give.
use Rattle.std.proofs.Common.{◌≡◌, ℕ, zero, suc, ◌+◌, ◌-◌, ◌*◌, ◌<◌, ◌≤◌, List, [], ◌∷◌, ◌++◌, length, take, drop, refl, ap, sym, ◌∙◌, add-one, inl, inr, arith, length-append, min}
use Rattle.std.proofs.lemmas.Bool.{cases_lt}
use Rattle.std.proofs.lemmas.List.{drop-take, length-take-le, take_all}
use Rattle.std.proofs.lemmas.Slice.{take-put_mid}
use Rattle.std.proofs.Math.Seq.{take-append-add, drop-append-add}
use Rattle.hmac_sha256.specs.Hkdf.{output_block, output_blocks}
use Rattle.hmac_sha256.specs.Hmac.{hmac_sha256}
use Rattle.hmac_sha256.proofs.Codes.{length-hmac_sha256}
use borrow.Rule.Slice.PartMut.{put_mid}

module _ (prk info : List ℕ) where
  -- one step more
  pub output_block-add : (i : ℕ) → output_block prk info (i + 1) ≡ hmac_sha256 prk (output_block prk info i ++ info ++ (i + 1) ∷ [])
  unfolding output_block
  output_block-add i = rw add-one refl

  pub output_blocks-add : (n : ℕ) → output_blocks prk info (n + 1) ≡ output_blocks prk info n ++ output_block prk info (n + 1)
  unfolding output_blocks
  output_blocks-add n = rw add-one refl

  pub length-output_block : (i : ℕ) → length (output_block prk info (i + 1)) ≡ 32
  length-output_block i = rw output_block-add (length-hmac_sha256 prk (output_block prk info i ++ info ++ (i + 1) ∷ []))

  -- 32 bytes a step
  pub length-output_blocks : (n : ℕ) → length (output_blocks prk info n) ≡ 32 * n
  unfolding output_blocks
  length-output_blocks zero = refl
  length-output_blocks (suc n) =
      let last : length (output_block prk info (suc n)) ≡ 32 = rw (← add-one n) (length-output_block n) in
      omega (arith, length-append (output_blocks prk info n) (output_block prk info (suc n)), length-output_blocks n, last)

  -- the last step's bytes are the last 32
  pub drop-output_blocks : (n : ℕ) → drop (32 * n - 32) (output_blocks prk info n) ≡ output_block prk info n
  unfolding output_block output_blocks
  drop-output_blocks zero = refl
  drop-output_blocks (suc n) =
      let before : List ℕ = output_blocks prk info n in
      let count : 32 * suc n - 32 ≡ length before + 0 = omega (arith, length-output_blocks n) in
      rw (count, drop-append-add before (output_block prk info (suc n)) 0) refl

  -- what the last 32 bytes that were written lead to
  pub next_step : (len i from : ℕ) (out : List ℕ) → from ≡ 32 * i - 32 → 32 * i < len → take (min len (32 * i)) out ≡ take len (output_blocks prk info i) → hmac_sha256 prk (take (32 * i - from) (drop from out) ++ info ++ (i + 1) ∷ []) ≡ output_block prk info (i + 1)
  next_step len i from out begun inside filled =
      let here : min len (32 * i) ≡ 32 * i = omega arith in
      let all : length (output_blocks prk info i) ≤ len = omega (arith, length-output_blocks i) in
      let old : take (32 * i) out ≡ output_blocks prk info i = (rw here at filled) ∙ take_all len (output_blocks prk info i) all in
      let parts : from + (32 * i - from) ≡ 32 * i = omega arith in
      let last : take (32 * i - from) (drop from out) ≡ output_block prk info i =
      rw (← drop-take from (32 * i - from) out, parts, old, begun) (drop-output_blocks i) in
      rw (output_block-add, last) refl

-- what a step writes, whole or cut at the end of the output
pub filled_more : (len start stop : ℕ) (out before step piece : List ℕ) → length out ≡ len → start < len → stop ≡ min len (start + 32) → length before ≡ start → length step ≡ 32 → take (min len start) out ≡ take len before → piece ≡ take (stop - start) step → take (min len (start + 32)) (put_mid start (stop - start) out piece) ≡ take len (before ++ step)
filled_more len start stop out before step piece total inside end begun full filled cut =
    let fits : stop - start ≤ length step = omega arith in
    let count : length piece ≡ stop - start = rw cut (length-take-le (stop - start) step fits) in
    let reach : min len (start + 32) ≡ start + length piece = omega arith in
    let low : start ≤ length out = omega arith in
    let here : min len start ≡ start = omega arith in
    let all : length before ≤ len = omega arith in
    let old : take start out ≡ before = (rw here at filled) ∙ take_all len before all in
    let split : len ≡ length before + (len - start) = omega arith in
    let same : take (stop - start) step ≡ take (len - start) step = elim (cases_lt (len - start) 32) [
      | inl short ↦ let e : stop - start ≡ len - start = omega arith in rw e refl
      | inr long ↦
          let e : length step ≤ stop - start = omega arith in
          let f : length step ≤ len - start = omega arith in
          take_all (stop - start) step e ∙ sym (take_all (len - start) step f)
    ] in
    let whole : take len (before ++ step) ≡ before ++ take (len - start) step = ap (λ n. take n (before ++ step)) split ∙ take-append-add before step (len - start) in
    rw (take-put_mid start (stop - start) out piece _ reach low, old, cut, same, whole) refl
