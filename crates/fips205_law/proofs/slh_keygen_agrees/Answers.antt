use Rattle.fips205_law.proofs.Rows.{secret_made}
use Rattle.fips205_law.proofs.slh_keygen_agrees.Goals as goal

pub returns : goal.returns
returns c = λ Z sk prf s row. secret_made Z sk prf s row
