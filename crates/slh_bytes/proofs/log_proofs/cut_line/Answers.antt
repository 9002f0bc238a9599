use Rattle.std.proofs.Common.{◌+◌, ◌∷◌, take, sym, ◌∙◌, ap}
use Rattle.line_serve.specs.Lines.{parts}
use Rattle.line_serve.proofs.Found.{first_is_position, split_found, split_none}
use Rattle.line_serve.proofs.Fronts.{to_end}
use Rattle.slh_bytes.proofs.log_proofs.cut_line.Goals as goal

pub returns-in-Some-clause-cut : goal.returns-in-Some-clause-cut
returns-in-Some-clause-cut c =
    let bytes = c.args.bytes.now in
    let at = c.in-Some.at in
    let found = first_is_position 10 bytes c.memchr.result c.memchr.ensures in
    split_found 10 bytes at (sym c.in-Some.is ∙ found)
    ∙ ap (λ rest. take at bytes ∷ parts rest) (sym (to_end bytes (at + 1)))

pub returns-in-None-clause-cut : goal.returns-in-None-clause-cut
returns-in-None-clause-cut c =
    let bytes = c.args.bytes.now in
    split_none 10 bytes (sym c.in-None.is ∙ first_is_position 10 bytes c.memchr.result c.memchr.ensures)
