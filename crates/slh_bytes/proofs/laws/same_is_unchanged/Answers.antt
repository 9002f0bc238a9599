use Rattle.std.proofs.Common.{List, ℕ, ap, sym, ◌∙◌}
use Rattle.slh_frames.specs.Frames.{frame}
use Rattle.slh_bytes.proofs.laws.same_is_unchanged.Goals as goal
use Rattle.slh_stream.specs.Passes.{randomizer_for}

pub returns : goal.returns
returns c Z key context all opt_rand may_fail (first, second, whole, whole_again, differ) =
    differ (ap (λ (m : List ℕ). randomizer_for Z key opt_rand (frame context m)) (whole ∙ sym whole_again))
