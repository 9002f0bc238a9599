use Rattle.std.proofs.Common.{inr, subst, List}
use Rattle.slh_manifest.specs.Checking.{NamesEntry, SpeaksOf}
use Rattle.slh_manifest.specs.declared.entry.Entry.{Entry}
use Rattle.slh_manifest.specs.declared.error.CheckError.TheVariants.{Form, Invalid}
use Rattle.std.specs.Result.{IfErr}
use Rattle.slh_manifest.proofs.Measures.{told_all, told_then}
use Rattle.slh_manifest.proofs.Whole.{check_refused, decided_by_entries, decided_exactly, names_none, never_form, never_invalid, no_fault, none_unread, refused_as, refused_by_itself, refused_exactly, speaks_of_none}
use Rattle.slh_manifest.proofs.checking.check.Goals as goal

pub returns-in-Err-clause-form : goal.returns-in-Err-clause-form
returns-in-Err-clause-form g c = refused_as _ c.in-Err.error Form c.in-Err.ensures.refusal

pub returns-in-Err-clause-invalid : goal.returns-in-Err-clause-invalid
returns-in-Err-clause-invalid g c = refused_as _ c.in-Err.error Invalid c.in-Err.ensures.refusal

pub returns-in-Err-clause-named : goal.returns-in-Err-clause-named
returns-in-Err-clause-named g c =
    names_none _ c.in-Err.error (refused_by_itself g.P.ForsSizes.scheme c.args.vk.now c.args.manifest.now c.in-Err.error c.in-Err.ensures.refusal)

pub returns-in-Err-clause-fault : goal.returns-in-Err-clause-fault
returns-in-Err-clause-fault g c =
    no_fault c.in-Err.error (refused_by_itself g.P.ForsSizes.scheme c.args.vk.now c.args.manifest.now c.in-Err.error c.in-Err.ensures.refusal)

pub returns-in-Err-clause-told : goal.returns-in-Err-clause-told
returns-in-Err-clause-told g c =
    told_all _ _ (λ files. inr (check_refused g.P.ForsSizes.scheme c.args.vk.now c.args.manifest.now c.in-Err.error c.in-Err.ensures.refusal files))

pub returns-in-Err-clause-exact : goal.returns-in-Err-clause-exact
returns-in-Err-clause-exact g c =
    refused_exactly (g.T.Store.files c.args.store.now) _ g.P.ForsSizes.scheme c.args.vk.now c.args.manifest.now c.in-Err.error c.in-Err.ensures.refusal

pub returns-in-Err-clause-entry : goal.returns-in-Err-clause-entry
returns-in-Err-clause-entry g c =
    told_all _ _ (λ files. speaks_of_none files _ c.in-Err.error (refused_by_itself g.P.ForsSizes.scheme c.args.vk.now c.args.manifest.now c.in-Err.error c.in-Err.ensures.refusal))

pub returns-in-Ok-clause-form : goal.returns-in-Ok-clause-form
returns-in-Ok-clause-form g c = never_form c.check.result _ c.in-Ok.ensures.refusal c.check.ensures.only

pub returns-in-Ok-clause-invalid : goal.returns-in-Ok-clause-invalid
returns-in-Ok-clause-invalid g c = never_invalid c.check.result _ c.in-Ok.ensures.refusal c.check.ensures.only

pub returns-in-Ok-clause-named : goal.returns-in-Ok-clause-named
returns-in-Ok-clause-named g c =
    subst (λ (entries : List Entry). IfErr c.check.result (NamesEntry entries)) c.in-Ok.ensures.entries c.check.ensures.named

pub returns-in-Ok-clause-told : goal.returns-in-Ok-clause-told
returns-in-Ok-clause-told g c =
    told_then _ _ _ (λ files told. decided_by_entries g.P.ForsSizes.scheme c.args.vk.now c.args.manifest.now c.check.result c.in-Ok.manifest c.in-Ok.ensures.refusal c.in-Ok.ensures.entries files told)
    c.check.ensures.told

pub returns-in-Ok-clause-exact : goal.returns-in-Ok-clause-exact
returns-in-Ok-clause-exact g c =
    decided_exactly (g.T.Store.files c.args.store.now) g.P.ForsSizes.scheme c.args.vk.now c.args.manifest.now c.check.result c.in-Ok.manifest c.in-Ok.ensures.refusal c.in-Ok.ensures.entries
    c.check.ensures.told c.check.ensures.fault

pub returns-in-Ok-clause-entry : goal.returns-in-Ok-clause-entry
returns-in-Ok-clause-entry g c =
    told_then _ _ _ (λ files is. subst (λ (entries : List Entry). IfErr c.check.result (SpeaksOf files entries)) c.in-Ok.ensures.entries is) c.check.ensures.entry

pub returns-in-Ok-clause-unread : goal.returns-in-Ok-clause-unread
returns-in-Ok-clause-unread g c = λ some. none_unread _ c.in-Ok.ensures.refusal some
