use Rattle.line_serve.proofs.Found.{first_is_position}
use Rattle.line_serve.proofs.place.first_place.Goals as goal

pub returns-clause-value : goal.returns-clause-value
returns-clause-value c = first_is_position c.args.byte c.args.bytes.now _ c.memchr.ensures
