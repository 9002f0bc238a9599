-- Whole blocks after whole blocks.
use Rattle.std.proofs.Common.{◌≡◌, ℕ, ◌+◌, ◌-◌, ◌/◌, ◌%◌, ◌<◌, ◌≤◌, List, length, arith, ap, ◌∙◌, Some}
use Rattle.std.specs.Prelude.{unwrap_or}
use Rattle.std.proofs.lemmas.List.{length-drop, length-take-le}
use Rattle.std.proofs.Math.Nat.{add-mul-mod_self_right, div-mul-le_self}
use Rattle.block_buffer.specs.Blocks.{blocks_of, handed, rest_of}
use Rattle.digest_core.specs.Wrapped.{IsWrapped}

-- what a core has absorbed and its buffer holds after more of a stream
pub wrapped_more : (limit size old new : ℕ) (stream rest : List ℕ) → new ≤ limit → old + length stream ≤ limit → Some (limit - new) ≡ Some (limit - old - length (blocks_of 0 size stream)) → rest ≡ rest_of 0 size stream → old % size ≡ 0 → length rest < size + 0 → IsWrapped limit size new (length rest)
wrapped_more limit size old new stream rest new_fits fits room is_rest whole short =
    let count : ℕ = handed 0 size (length stream) in
    let within : count ≤ length stream = omega (arith, div-mul-le_self (length stream - 0) size) in
    let blocks : length (blocks_of 0 size stream) ≡ count = length-take-le count stream within in
    let left : limit - new ≡ limit - old - length (blocks_of 0 size stream) = ap (λ o. unwrap_or o 0) room in
    let grown : new ≡ old + count = omega (arith, left, blocks, within, fits, new_fits) in
    let held : length rest ≡ length stream - count = ap length is_rest ∙ length-drop count stream in
    record {
      within = omega (arith, grown, held, within, fits);
      whole = rw grown (add-mul-mod_self_right old ((length stream - 0) / size) size ∙ whole);
      short = omega (arith, short);
    }
