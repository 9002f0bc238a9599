use Rattle.slh_manifest.proofs.Calls.{made_entries, made_names}
use Rattle.slh_manifest.proofs.laws.calls_list_the_names.Goals as goal

pub returns : goal.returns
returns c = record {
  names = λ files calls new. made_names files calls new;
  entries = λ files calls new. made_entries files calls new;
}
