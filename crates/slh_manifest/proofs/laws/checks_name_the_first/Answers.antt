use Rattle.slh_manifest.proofs.Accepted.{entries_right}
use Rattle.slh_manifest.proofs.Named.{differs_first, each_right, missing_first, one_of_both}
use Rattle.slh_manifest.proofs.laws.checks_name_the_first.Goals as goal

pub returns : goal.returns
returns c = record {
  each = λ files entries. each_right files 0 entries;
  right = λ files entries. entries_right files 0 entries;
  missing = missing_first;
  differs = differs_first;
  others = one_of_both;
}
