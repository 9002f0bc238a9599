use Rattle.std.proofs.Common.{arith, length-append, rules}
use Rattle.std.proofs.lemmas.Grind.{common_steps}
use Rattle.digest_core.proofs.Blocks.{wrapped_more}
use Rattle.digest_core.proofs.wrapper.CoreWrapperUpdate.update.Goals as goal

pub invariant_of-self : goal.invariant_of-self
invariant_of-self g c =
    let joined = length-append c.self.inside.buffer c.args.input.now in
    wrapped_more _ _ _ _ _ _ c.digest_blocks.new.sink.within (search rules) c.in-Ok.ensures.ok.room c.in-Ok.ensures.rest c.self.invariant.whole c.in-Ok.ensures.short

pub returns : goal.returns
returns g c = grind (arith, common_steps)
