use Rattle.slh_manifest.proofs.Accepted.{accepted_with, invalid_with}
use Rattle.slh_manifest.proofs.laws.bodies_are_signed_elsewhere.Goals as goal

pub returns : goal.returns
returns c = record {
  accepted = λ Z key sig entries files form size. accepted_with Z key sig entries form size files;
  invalid = λ Z key sig entries form size. invalid_with Z key sig entries form size;
}
