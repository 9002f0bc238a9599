use Rattle.std.proofs.Common.{arith}
use Rattle.std.proofs.lemmas.Grind.{common_steps}
use Rattle.slh_manifest.proofs.Whole.{are_read, entries_are_of, not_refused, refused_by_signature}
use Rattle.slh_manifest.proofs.manifest.Manifest.open.Goals as goal

pub invariant_of-result : goal.invariant_of-result
invariant_of-result g c =
    let found = c.in-Some.ensures in
    are_read g.P.ForsSizes.scheme c.args.bytes.now c.in-Some.parts.count c.in-Some.parts.entries.now found.form found.count found.entries

pub returns-then-not-is_valid-clause-refusal : goal.returns-then-not-is_valid-clause-refusal
returns-then-not-is_valid-clause-refusal g c =
    let found = c.in-Some.ensures in
    refused_by_signature g.P.ForsSizes.scheme c.args.vk.now c.args.bytes.now c.in-Some.parts.body.now c.in-Some.parts.signature.now found.form found.body found.signature c.is_valid.result (rw c.fitting-body.ensures at c.is_valid.ensures) c.if-not-is_valid.true

pub returns-clause-refusal : goal.returns-clause-refusal
returns-clause-refusal g c =
    let found = c.in-Some.ensures in
    not_refused g.P.ForsSizes.scheme c.args.vk.now c.args.bytes.now c.in-Some.parts.body.now c.in-Some.parts.signature.now found.form found.body found.signature c.is_valid.result (rw c.fitting-body.ensures at c.is_valid.ensures) c.if-not-is_valid.false

pub returns-clause-entries : goal.returns-clause-entries
returns-clause-entries g c =
    let found = c.in-Some.ensures in
    entries_are_of c.args.bytes.now c.in-Some.parts.count c.in-Some.parts.entries.now found.count found.entries

pub returns-in_default : goal.returns-in_default
returns-in_default g c = grind (arith, common_steps)

pub is_valid-requires : goal.is_valid-requires
is_valid-requires g c = grind (arith, common_steps)
