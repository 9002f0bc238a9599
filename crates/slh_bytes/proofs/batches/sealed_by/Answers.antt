use Rattle.std.proofs.Common.{Option, Some, subst, sym}
use Rattle.std.specs.Option.{option_copied}
use Rattle.slh_batch.specs.Calls.{seal_refusal}
use Rattle.slh_batch.specs.declared.error.BatchError.{BatchError}
use Rattle.slh_batch.specs.declared.error.BatchError.TheVariants.{Memory}
use Rattle.slh_bytes.proofs.Keys.{one_key}
use Rattle.slh_bytes.proofs.batches.sealed_by.Goals as goal
use Rattle.slh_core.specs.Refusals.{RefusedOrNoMemory}

pub returns-clause-refusal : goal.returns-clause-refusal
returns-clause-refusal g c =
    let refusal = seal_refusal g.P.ForsSizes.scheme c.args.batch (option_copied c.args.opt_rand) in
    subst (λ (o : Option BatchError). RefusedOrNoMemory Memory c.seal.result o) (sym (one_key _ refusal (Some Memory) c.in-Ok.ensures.refusal))
    c.seal.ensures.refusal

pub returns-clause-signature : goal.returns-clause-signature
returns-clause-signature g c = rw c.in-Ok.ensures.value at c.seal.ensures.signature
