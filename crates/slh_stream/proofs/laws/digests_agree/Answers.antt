use Rattle.slh_stream.proofs.Agreeing.{answer_256, answer_512}
use Rattle.slh_stream.proofs.laws.digests_agree.Goals as goal

pub returns-clause-answer_256 : goal.returns-clause-answer_256
returns-clause-answer_256 g c = answer_256 g.P.ForsSizes.scheme

pub returns-clause-answer_512 : goal.returns-clause-answer_512
returns-clause-answer_512 g c = answer_512 g.P.ForsSizes.scheme
