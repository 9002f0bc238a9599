use Rattle.log_files.proofs.Apart.{all_finished, bundle_pushed, no_files, tile_pushed}
use Rattle.log_files.specs.Names.{IsFullBundle, IsFullTile}
use Rattle.log_files.proofs.laws.names_stay_apart.Goals as goal

pub returns-clause-begun : goal.returns-clause-begun
returns-clause-begun c = λ count. record {
  bundles_are = no_files (IsFullBundle count);
  tiles_are = no_files (IsFullTile count);
}

pub returns-clause-pushed : goal.returns-clause-pushed
returns-clause-pushed c = λ H count bundles tiles bytes q low are. record {
  bundles_are = bundle_pushed count bundles bytes low are.bundles_are;
  tiles_are = tile_pushed H count tiles q low are.tiles_are;
}

pub returns-clause-finished : goal.returns-clause-finished
returns-clause-finished c = λ H count bundles tiles bytes q low are.
    all_finished H count bundles tiles bytes q low are.bundles_are are.tiles_are
