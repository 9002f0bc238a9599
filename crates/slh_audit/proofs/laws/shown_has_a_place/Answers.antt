use Rattle.slh_audit.proofs.Meaning.{shows_means}
use Rattle.slh_audit.proofs.Order.{shown_has}
use Rattle.slh_audit.proofs.laws.shown_has_a_place.Goals as goal

pub returns : goal.returns
returns c = λ D e holds. shown_has D e ((shows_means D e).0 holds)
