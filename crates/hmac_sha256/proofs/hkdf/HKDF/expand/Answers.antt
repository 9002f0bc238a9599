use Rattle.std.proofs.Common.{◌≡◌, ℕ, ◌+◌, ◌*◌, ◌/◌, ◌<◌, ◌≤◌, [], length, min, refl, ◌∙◌, arith}
use Rattle.std.proofs.lemmas.Grind.{common_steps}
use Rattle.std.proofs.lemmas.List.{take_all}
use Rattle.hmac_sha256.specs.Hkdf.{hkdf_expand, output_blocks}
use Rattle.hmac_sha256.proofs.Expanding.{filled_more, length-output_block, length-output_blocks, next_step, output_blocks-add}
use Rattle.hmac_sha256.proofs.hkdf.HKDF.expand.Goals as goal

pub each_step-init : goal.each_step-init
unfolding output_blocks
each_step-init c =
    let none : min (length c.args.out.now) 0 ≡ 0 = omega arith in
    let empty : 0 ≤ length c.args.out.now = omega arith in
    record { len = refl; filled = rw (none, take_all (length c.args.out.now) [] empty) refl }

pub each_step-preserved : goal.each_step-preserved
each_step-preserved c =
    let len : ℕ = length c.args.out.now in
    let start : ℕ = 32 * c.each_step.i in
    let blocks = output_blocks c.args.prk.now c.args.info.now in
    let inside : start < len = omega arith in
    let count : 32 * (c.each_step.i + 1) ≡ start + 32 = omega arith in
    let step = c.output_step-step.ensures _ c.new-keyed.ensures.empty ∙ next_step c.args.prk.now c.args.info.now len c.each_step.i c.saturating_sub.result c.each_step.out (omega arith) inside c.each_step.invariant.filled in
    let size : length c.output_step-step.result ≡ 32 = rw step (length-output_block c.args.prk.now c.args.info.now c.each_step.i) in
    let begun = length-output_blocks c.args.prk.now c.args.info.now c.each_step.i in
    record {
      len = grind (arith, common_steps);
      filled = rw (count, output_blocks-add, ← step) (filled_more len start c.min-end.result c.each_step.out _ c.output_step-step.result c.copy_from_slice.new.self c.each_step.invariant.len inside (omega arith) begun size c.each_step.invariant.filled c.copy_from_slice.ensures.after);
    }

pub returns : goal.returns
unfolding hkdf_expand
returns c =
    let len : ℕ = length c.args.out.now in
    let count : c.each_step.i ≡ (len + 31) / 32 = omega arith in
    let all : length c.each_step.out ≤ min len (32 * c.each_step.i) = omega arith in
    rw (← count, ← c.each_step.invariant.filled, take_all _ c.each_step.out all) refl
