use Rattle.std.proofs.Common.{◌≡◌, ◌/◌, ◌∙◌, ap, ℕ, List, length, arith}
use Rattle.std.proofs.lemmas.Grind.{common_steps}
use Rattle.aes.specs.Block.{added}
use Rattle.aes.specs.Cbc.{cbc_blocks}
use Rattle.aes.specs.Cipher.{cipher}
use Rattle.aes.proofs.Chaining.{no_blocks, nothing_chained, one_block, one_chained}
use Rattle.aes.proofs.schedule.RoundKeys.encrypt_blocks.Goals as goal

pub blocks-2-init : goal.blocks-2-init
blocks-2-init c = record {
  count = grind (arith, common_steps);
  last = λ key held. nothing_chained key c.args.iv.now c.args.message.now;
  all = λ key held. c.new-blocks.ensures.items ∙ no_blocks key c.args.iv.now c.args.message.now;
}

pub blocks-2-preserved : goal.blocks-2-preserved
blocks-2-preserved c =
    let m = c.args.message.now in
    let iv = c.args.iv.now in
    let j = c.blocks-2.j in
    record {
      count = grind (arith, common_steps);
      last = λ key held.
          c.encrypt-chain.ensures key held
          ∙ ap (cipher key) (c.added.ensures ∙ ap (λ (t : List ℕ). added t c.blocks-2.chain) c.block_at.ensures)
          ∙ one_chained key iv m c.blocks-2.chain j (c.blocks-2.invariant.last key held);
      all = λ key held.
          c.in_ok-extend_from_slice.ensures.items
          ∙ one_block key iv m c.blocks-2.blocks.items c.encrypt-chain.result j (c.blocks-2.invariant.all key held)
          (c.encrypt-chain.ensures key held
          ∙ ap (cipher key) (c.added.ensures ∙ ap (λ (t : List ℕ). added t c.blocks-2.chain) c.block_at.ensures)
          ∙ one_chained key iv m c.blocks-2.chain j (c.blocks-2.invariant.last key held));
    }

pub returns-clause-value : goal.returns-clause-value
returns-clause-value c = λ key held.
    let end : c.blocks-2.j ≡ length c.args.message.now / 16 = omega arith in
    c.blocks-2.invariant.all key held ∙ ap (cbc_blocks key c.args.iv.now c.args.message.now) end
