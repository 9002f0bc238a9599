use Rattle.std.proofs.Common.{length}
use Rattle.std.proofs.lemmas.Bool.{and_parts}
use Rattle.slh_log.proofs.Opened.{texts_bind}
use Rattle.slh_log.proofs.Plain.{plain_origin}
use Rattle.slh_log.proofs.SignedTexts.{opened_signed}
use Rattle.slh_log.proofs.laws.opened_is_signed.Goals as goal

pub returns-clause-signed : goal.returns-clause-signed
returns-clause-signed g c = λ key origin bytes root size are is.
    opened_signed g.P.ForsSizes.scheme g.P.SetSizes.set_name key origin bytes root size are is

pub returns-clause-once : goal.returns-clause-once
returns-clause-once g c = λ a b r s x y m n is_a is_b low_m low_n bytes_r bytes_s len_r len_s same.
    texts_bind a b m n r s x y (plain_origin a (and_parts _ _ is_a).1) (plain_origin b (and_parts _ _ is_b).1) low_m low_n bytes_r bytes_s len_r len_s same
