use Rattle.std.proofs.Common.{◌∙◌, refl, sym}
use Rattle.log_files.proofs.Separate.{all_of, not_separate, one_more}
use Rattle.log_files.proofs.publishing.are_separate.Goals as goal

pub loop-i-preserved : goal.loop-i-preserved
loop-i-preserved c =
    one_more c.args.pieces.now c.loop-i.i _ c.loop-i-test.true (sym c.eq.ensures ∙ c.if-eq.false) c.loop-i.invariant

pub returns : goal.returns
returns c = (λ yes. all_of c.args.pieces.now c.loop-i.i c.loop-i-test.false c.loop-i.invariant, λ all. refl)

pub returns-then-eq : goal.returns-then-eq
returns-then-eq c = (
  λ no i p is same. cc no,
  λ all. absurd (not_separate c.args.pieces.now c.loop-i.i _ c.loop-i-test.true (sym c.eq.ensures ∙ c.if-eq.true) all),
)
