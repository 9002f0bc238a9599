use Rattle.std.proofs.Common.{◌≡◌, ◌∙◌, sym, ap, Some, None, Option, List, ℕ, length, subst}
use Rattle.std.specs.Option.{option_map}
use Rattle.slh_manifest.specs.Files.{ReadsFrom, bytes_of, read_count}
use Rattle.slh_manifest.specs.Memory.{store_files}
use Rattle.slh_manifest.proofs.Stores.{bytes_found}
use Rattle.slh_manifest.proofs.memory.MemStoreStore.read.Goals as goal

pub returns-in-Some-clause-bytes : goal.returns-in-Some-clause-bytes
returns-in-Some-clause-bytes c =
    let here : bytes_of (store_files c.args.self.now) c.args.name.now ≡ Some c.as_slice.result.now =
    bytes_found _ c.args.name.now c.args.self.now.files.entries
    ∙ sym c.in-Some.ensures.value ∙ ap Some (sym c.as_slice.ensures) in
    subst (λ (o : Option (List ℕ)). ReadsFrom o c.args.at (Some c.copy_from.result) c.copy_from.new.buf) (sym here) c.copy_from.ensures.reads

pub returns-in-None-clause-bytes : goal.returns-in-None-clause-bytes
returns-in-None-clause-bytes c =
    let none : bytes_of (store_files c.args.self.now) c.args.name.now ≡ None =
    bytes_found _ c.args.name.now c.args.self.now.files.entries ∙ sym c.in-None.ensures.value in
    subst (λ (o : Option (List ℕ)). ReadsFrom o c.args.at None c.args.buf.now) (sym none) tt

pub returns-in-Some-clause-whole : goal.returns-in-Some-clause-whole
returns-in-Some-clause-whole c =
    let here : bytes_of (store_files c.args.self.now) c.args.name.now ≡ Some c.as_slice.result.now =
    bytes_found _ c.args.name.now c.args.self.now.files.entries
    ∙ sym c.in-Some.ensures.value ∙ ap Some (sym c.as_slice.ensures) in
    ap Some c.copy_from.ensures.count ∙ ap (option_map (read_count c.args.at (length c.copy_from.new.buf))) (sym here)

pub returns-in-None-clause-whole : goal.returns-in-None-clause-whole
returns-in-None-clause-whole c =
    let none : bytes_of (store_files c.args.self.now) c.args.name.now ≡ None =
    bytes_found _ c.args.name.now c.args.self.now.files.entries ∙ sym c.in-None.ensures.value in
    ap (option_map (read_count c.args.at (length c.args.buf.now))) (sym none)
