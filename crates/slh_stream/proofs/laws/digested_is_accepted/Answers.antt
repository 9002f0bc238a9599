use Rattle.std.proofs.Common.{◌≡◌, ◌++◌, Option, None, IsOk}
use Rattle.std.specs.Prelude.{Result, Ok, Err}
use Rattle.slh_dsa.specs.Calls.{hash_verify_error}
use Rattle.slh_stream.proofs.laws.digested_is_accepted.Goals as goal
use Rattle.slh_core.specs.Refusals.{RefusedExactly}

not_refused : {T E : Type 0} (r : Result T E) (refusal : Option E) → refusal ≡ None → RefusedExactly r refusal → IsOk r
not_refused (Ok x) refusal none is = search
not_refused (Err e) refusal none is = cc

pub returns : goal.returns
returns g c signing opt_rand is true_key size key_is fits short =
    let message = c.args.first.now ++ c.args.second.now in
    let written = c.in_ok-finish_into.ensures.value _ _ _ _ _ is in
    let accepted = c.signed_is_accepted.ensures c.args.mode _ c.args.ctx.now message opt_rand true_key size fits short in
    let none : hash_verify_error g.P.ForsSizes.scheme c.args.mode c.args.key.now c.args.ctx.now message c.finish_into.new.out ≡ None =
    rw (key_is, written) accepted in
    not_refused c.verify_two.result _ none c.verify_two.ensures
