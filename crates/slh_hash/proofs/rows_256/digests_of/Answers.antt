use Rattle.std.proofs.Common.{ℕ, List, ◌+◌, ◌++◌, ◌∙◌, [], ap, arith, length, slice_index, slice_index_or}
use Rattle.std.proofs.lemmas.List.{get_or_append_left}
use Rattle.sha256_lanes.specs.Sha256.{sha256}
use Rattle.slh_core.specs.Address.{compressed_address}
use Rattle.slh_core.specs.Bytes.{part}
use Rattle.slh_hash.specs.Sha2.{seed_block}
use Rattle.slh_hash.proofs.Grouped.{digest_of_place}
use Rattle.slh_hash.proofs.rows_256.digests_of.Goals as goal

pub returns-then-numbers-gt4 : goal.returns-then-numbers-gt4
returns-then-numbers-gt4 g c = λ k low.
    let keyed = c.args.keyed.now in
    let m = seed_block 64 g.N.ArraySize.USIZE keyed.pk_seed in
    let tail : ℕ → List ℕ = λ i. compressed_address (g.A.RowAddress.numbered c.args.adrs.now (slice_index c.args.numbers.now i)) ++ part c.args.width c.args.inputs.now i in
    digest_of_place sha256 m (22 + c.args.width) _ k c.tails_of-tails.result c.finalize_eight.result tail (c.finalize_eight.ensures m keyed.begins) (c.tails_of-tails.ensures k (omega (arith, c.requires.few))) (omega (arith, low)) (omega (arith, c.requires.few))

pub returns-then-numbers-gt1 : goal.returns-then-numbers-gt1
returns-then-numbers-gt1 g c = λ k low.
    let keyed = c.args.keyed.now in
    let m = seed_block 64 g.N.ArraySize.USIZE keyed.pk_seed in
    let tail : ℕ → List ℕ = λ i. compressed_address (g.A.RowAddress.numbered c.args.adrs.now (slice_index c.args.numbers.now i)) ++ part c.args.width c.args.inputs.now i in
    let tails = c.tails_of-tails-then-numbers-gt1 in
    let made = digest_of_place sha256 m (22 + c.args.width) _ k tails.result c.finalize_four.result tail (c.finalize_four.ensures m keyed.begins) (tails.ensures k (omega (arith, c.if-numbers-gt4.false))) (omega (arith, low)) (omega (arith, c.if-numbers-gt4.false)) in
    get_or_append_left c.copy_from_slice.new.self _ [] k (omega (arith, ap length c.copy_from_slice.ensures.after, c.if-numbers-gt4.false)) ∙ ap (λ ds. slice_index_or ds k []) c.copy_from_slice.ensures.after ∙ made

pub returns-else-numbers-gt1 : goal.returns-else-numbers-gt1
returns-else-numbers-gt1 g c = λ k low.
    let keyed = c.args.keyed.now in
    let m = seed_block 64 g.N.ArraySize.USIZE keyed.pk_seed in
    let tail : ℕ → List ℕ = λ i. compressed_address (g.A.RowAddress.numbered c.args.adrs.now (slice_index c.args.numbers.now i)) ++ part c.args.width c.args.inputs.now i in
    let tails = c.tails_of-tails-else-numbers-gt1 in
    let made = digest_of_place sha256 m (22 + c.args.width) _ k tails.result c.finalize_one.result tail (c.finalize_one.ensures m keyed.begins) (tails.ensures k (omega (arith, c.if-numbers-gt1.false))) (omega (arith, low)) (omega (arith, c.if-numbers-gt1.false)) in
    get_or_append_left c.copy_from_slice-else-numbers-gt1.new.self _ [] k (omega (arith, c.copy_from_slice-else-numbers-gt1.ensures.len, c.if-numbers-gt1.false)) ∙ ap (λ ds. slice_index_or ds k []) c.copy_from_slice-else-numbers-gt1.ensures.after ∙ made
