use Rattle.std.proofs.Common.{◌≡◌, ◌*◌, ◌∙◌, length, ap, arith}
use Rattle.hybrid_array.specs.Runs.{joined}
use Rattle.hybrid_array.proofs.RunLemmas.{joined-runs}
use Rattle.hybrid_array.proofs.laws.unflatten_then_flatten.Goals as goal

pub returns : goal.returns
returns g c =
    let whole : length c.args.array ≡ g.M.ArraySize.USIZE * g.Q.ArraySize.USIZE = rw (← c.as_slice-items.ensures.value) (omega arith) in
    c.in_ok-back.ensures ∙ (ap joined c.in_ok-rows.ensures ∙ joined-runs _ _ _ whole)
