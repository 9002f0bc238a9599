use Rattle.std.proofs.Common.{◌≡◌, length, rules}
use Rattle.slh_bytes.proofs.Passed.{other_rand, same_rand}
use Rattle.slh_bytes.proofs.signing.end_pass.Goals as goal
use Rattle.slh_bytes.specs.Answers.{EndsPass}
use Rattle.slh_jobs.proofs.Signed.{written}
use Rattle.slh_trees.specs.Checking.{signature_size}

pub returns-in-Ok : goal.returns-in-Ok
unfolding EndsPass
returns-in-Ok g c key opt_rand context m stood =
    let size : length c.finish_into.new.out ≡ length c.in_ok-signature.signature = search rules in (
      same_rand _ _ _ (c.in-Ok.ensures.refusal key opt_rand context m stood),
      rw (written c.finish_into.new.out c.in_ok-signature.signature size) (c.in-Ok.ensures.value key opt_rand context m stood),
    )

pub returns-in-Err-Changed : goal.returns-in-Err-Changed
unfolding EndsPass
returns-in-Err-Changed g c key opt_rand context m stood =
    other_rand (signature_size g.P.ForsSizes.scheme) (length c.as_mut_slice.result.now) _ _
    (rw c.in-Err-Changed.field-0-is at c.in-Err-Changed.ensures.refusal key opt_rand context m stood)
