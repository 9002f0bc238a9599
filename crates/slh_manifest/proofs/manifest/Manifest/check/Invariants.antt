use Rattle.std.proofs.Common.{◌≡◌, ◌≤◌, ◌+◌, IfSome, length}
use Rattle.slh_manifest.specs.Checking.{entries_error}
use Rattle.slh_manifest.proofs.manifest.Manifest.check.Given as goal

-- the entries that are left decide
abbrev pub invariant-each_entry : goal.invariant-each_entry
invariant-each_entry g l = record {
  left : length l.entries + l.i ≡ length l.self;
  told : IfSome (g.T.Store.files l.initial.store) (λ files. entries_error files 0 l.self ≡ entries_error files l.i l.entries);
  kept : g.T.Store.files l.store ≡ g.T.Store.files l.initial.store;
  later : g.T.Store.faults l.initial.store ≤ g.T.Store.faults l.store;
}
