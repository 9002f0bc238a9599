use Rattle.std.proofs.Common.{◌≡◌, ◌∙◌, ◌+◌, ◌∷◌, ◌++◌, [], ℕ, List, ap, arith, string_bytes, subst, suc, sym, take}
use Rattle.std.proofs.Math.Seq.{take-suc}
use Rattle.std.proofs.lemmas.Grind.{common_steps}
use Rattle.log_files.specs.Names.{below}
use Rattle.log_files.specs.declared.appending.LogFile.{LogFile}
use Rattle.slh_log_commands.proofs.Pieces.{one_named}
use Rattle.slh_log_commands.specs.Writing.{AreNamesOf}
use Rattle.slh_log_commands.specs.declared.file_names.Names.{Names}
use Rattle.slh_log_commands.proofs.writing.all_names.Goals as goal

pub loop-file-preserved : goal.loop-file-preserved
loop-file-preserved c =
    let files = c.args.log_files.now in
    let i = c.loop-file.file-index in
    let file = c.file-item.result in
    let name = c.in_ok-names_of.field-0 in
    let pushed : c.push.new.self.items ≡ c.loop-file.names.items ++ name ∷ [] = grind (arith, common_steps) in
    let next : i + 1 ≡ suc i = omega arith in
    let taken : take (i + 1) files ≡ take i files ++ file ∷ []
    = ap (λ (k : ℕ). take k files) next ∙ take-suc files i file c.loop-file-test.true
    ∙ ap (λ (x : LogFile). take i files ++ x ∷ []) (sym c.file-item.is) in
    let path : string_bytes name.path ≡ below c.args.folder.path.now (string_bytes file.name)
    = c.in_ok-names_of.ensures.path ∙ ap (below c.args.folder.path.now) c.as_str.ensures.value in
    let more = one_named c.args.folder.path.now (take i files) c.loop-file.names.items file name c.loop-file.invariant path c.in_ok-names_of.ensures.end in
    subst (λ (l : List LogFile). AreNamesOf c.args.folder.path.now l c.push.new.self.items) (sym taken)
    (subst (λ (l : List Names). AreNamesOf c.args.folder.path.now (take i files ++ file ∷ []) l) (sym pushed) more)
