use Rattle.std.proofs.Common.{◌∙◌, ap, List, ℕ}
use Rattle.std.specs.FinMap.{from_entries, insert}
use Rattle.slh_manifest.specs.Memory.{store_files}
use Rattle.slh_manifest.proofs.Stores.{named, put_is_insert}
use Rattle.slh_manifest.proofs.memory.MemStore.put.Goals as goal

pub returns-in-Ok-clause-ok : goal.returns-in-Ok-clause-ok
returns-in-Ok-clause-ok c =
    ap (λ es. from_entries (named (λ k. k.items) es)) c.in-Ok.ensures.entries
    ∙ put_is_insert (λ k. k.items) c.in_ok-name.name c.in_ok-bytes.bytes c.args.self.now.files.entries
    ∙ ap (λ (n : List ℕ). insert (store_files c.args.self.now) n c.in_ok-bytes.bytes) c.in_ok-name.ensures.items
    ∙ ap (λ (b : List ℕ). insert (store_files c.args.self.now) c.args.name.now b) c.in_ok-bytes.ensures
