use Rattle.std.proofs.Common.{sym, arith, length-take}
use Rattle.std.proofs.lemmas.List.{take_all}
use Rattle.slh_program_tests.proofs.path_fronts.front_of.Goals as goal

pub slice_bounds-result-end : goal.slice_bounds-result-end
slice_bounds-result-end c = omega (arith, length-take 65536 c.args.bytes.now, c.if-bytes-gt-FRONT.true)

pub returns-else-bytes-gt-FRONT : goal.returns-else-bytes-gt-FRONT
returns-else-bytes-gt-FRONT c = sym (take_all 65536 c.args.bytes.now (omega (arith, c.if-bytes-gt-FRONT.false)))
