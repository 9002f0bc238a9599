use Rattle.std.proofs.Common.{arith, ap, Ok, sym, subst, ◌∙◌, slice_index, ℕ, List, ◌+◌, ◌*◌}
use Rattle.std.proofs.lemmas.Simd.{put_chunk_whole}
use Rattle.hex.specs.Hex.{hex_digit_value}
use Rattle.line_serve.proofs.DigitPairs.{HasValue, pair_read}
use Rattle.line_serve.proofs.digits.decode_block.Goals as goal

pub returns : goal.returns
returns c = λ is k i low.
    let digits = c.args.digits.now in
    let high = slice_index c.digit_values-high.result k in
    let second = slice_index c.digit_values-low.result k in
    let small = c.are_digits.ensures c.if-not-are_digits.false k low in
    let small_second = c.are_digits-else-not-are_digits.ensures c.if-not-are_digits-2.false k low in
    let has = subst (λ (x : ℕ). HasValue (hex_digit_value x) high) (c.digit_pairs.ensures.first k low) (c.digit_values-high.ensures k low) in
    let has_second = subst (λ (x : ℕ). HasValue (hex_digit_value x) second) (c.digit_pairs.ensures.second k low) (c.digit_values-low.ensures k low) in
    let written = put_chunk_whole c.args.out.now c.joined.result (omega (arith, c.requires.room, c.joined.ensures.lanes)) in
    let there = ap (λ (l : List ℕ). slice_index l k) written ∙ c.joined.ensures.values k low small small_second in
    pair_read (slice_index digits (2 * k)) (slice_index digits (2 * k + 1)) i high second has has_second small small_second ∙ ap Ok (sym there)
