use Rattle.std.proofs.Common.{rules, ◌≡◌, arith, ◌∙◌, sym}
use Rattle.std.proofs.lemmas.List.{take_all}
use Rattle.std.proofs.lemmas.Slice.{overwrites}
use Rattle.sha2.specs.Sha512.{digest_bytes}
use Rattle.sha2.proofs.Absorbing512.{digest_more}
use Rattle.sha512_lanes.proofs.hashing.word_bytes.Goals as goal

pub each_word-init : goal.each_word-init
unfolding digest_bytes
each_word-init c = search rules

pub each_word-preserved : goal.each_word-preserved
each_word-preserved c = (
  search (rules, overwrites),
  digest_more c.each_word.bytes c.args.words.now _ c.each_word.i _ c.each_word.invariant.1 (omega arith)
      (c.copy_from_slice.ensures.after ∙ c.to_be_bytes.ensures),
)

pub returns : goal.returns
returns c =
    let done : c.each_word.i ≡ 8 = omega arith in
    let words = rw done at c.each_word.invariant.1 in
    sym (take_all 64 c.each_word.bytes (omega arith)) ∙ words
