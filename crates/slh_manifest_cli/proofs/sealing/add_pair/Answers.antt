use Rattle.slh_manifest.specs.Memory.{store_files}
use Rattle.slh_manifest_cli.proofs.InPairs.{pair_entry, pair_fits, pair_refused, quiet}
use Rattle.slh_manifest_cli.proofs.sealing.add_pair.Goals as goal

pub returns-clause-fits : goal.returns-clause-fits
returns-clause-fits c =
    pair_fits c.add.result (store_files c.args.store.now.inner) (store_files c.put.new.self.inner) c.args.builder.now c.args.name.now c.args.bytes.now c.in_ok-put.ensures
    (c.add.ensures.exact quiet)

pub returns-clause-refused : goal.returns-clause-refused
returns-clause-refused c =
    pair_refused c.add.result (store_files c.args.store.now.inner) (store_files c.put.new.self.inner) c.args.builder.now c.args.name.now c.args.bytes.now c.in_ok-put.ensures
    (c.add.ensures.exact quiet)

pub returns-clause-entry : goal.returns-clause-entry
returns-clause-entry c =
    pair_entry c.add.result (store_files c.args.store.now.inner) (store_files c.put.new.self.inner) c.args.builder.now c.args.name.now c.args.bytes.now c.in_ok-put.ensures
    c.add.new.self c.add.ensures.entry
