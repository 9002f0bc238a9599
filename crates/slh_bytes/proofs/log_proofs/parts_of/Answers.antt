use Rattle.std.proofs.Common.{◌≡◌, Some, None, ◌∙◌}
use Rattle.std.proofs.lemmas.Result.{err_from_is_err_and}
use Rattle.slh_bytes.proofs.LogReading.{front_off, number_is, number_there}
use Rattle.slh_bytes.proofs.log_proofs.parts_of.Goals as goal

pub returns-in_default-cut_line-clause-read : goal.returns-in_default-cut_line-clause-read
returns-in_default-cut_line-clause-read c = λ number digests checkpoint t.
    let rest = c.in-Some.rest.now in
    let is = front_off c.args.purpose c.args.bytes.now c.front.result.now number digests checkpoint t c.front.ensures rest c.in-Some.ensures.cases.1 in
    absurd (number_there number digests checkpoint rest t.low is c.in_default-cut_line.ensures.cut)

pub returns-in_default-decimal_size-clause-read : goal.returns-in_default-decimal_size-clause-read
returns-in_default-decimal_size-clause-read c = λ number digests checkpoint t.
    let rest = c.in-Some.rest.now in
    let is = front_off c.args.purpose c.args.bytes.now c.front.result.now number digests checkpoint t c.front.ensures rest c.in-Some.ensures.cases.1 in
    let of = number_is number digests checkpoint rest c.in-Some-cut_line.line.now c.in-Some-cut_line.rest.now t.low is c.in-Some-cut_line.ensures.cut in
    let none : None ≡ Some number = c.in_default-decimal_size.ensures ∙ of.value in
    absurd (cc none)

pub returns-in_err-digests-clause-read : goal.returns-in_err-digests-clause-read
returns-in_err-digests-clause-read c = λ number digests checkpoint t.
    let rest = c.in-Some.rest.now in
    let is = front_off c.args.purpose c.args.bytes.now c.front.result.now number digests checkpoint t c.front.ensures rest c.in-Some.ensures.cases.1 in
    let of = number_is number digests checkpoint rest c.in-Some-cut_line.line.now c.in-Some-cut_line.rest.now t.low is c.in-Some-cut_line.ensures.cut in
    let error = err_from_is_err_and c.from_residual.result c.from_residual.ensures.1 in
    rw (error.1, error.2) (c.in_err-digests.ensures.read digests checkpoint t.digests_are of.rest_is)

pub returns-clause-read : goal.returns-clause-read
returns-clause-read c = λ number digests checkpoint t.
    let rest = c.in-Some.rest.now in
    let is = front_off c.args.purpose c.args.bytes.now c.front.result.now number digests checkpoint t c.front.ensures rest c.in-Some.ensures.cases.1 in
    let of = number_is number digests checkpoint rest c.in-Some-cut_line.line.now c.in-Some-cut_line.rest.now t.low is c.in-Some-cut_line.ensures.cut in
    let read = c.in_ok-digests.ensures.read digests checkpoint t.digests_are of.rest_is in
    let some : Some c.in-Some-decimal_size.number ≡ Some number = c.in-Some-decimal_size.ensures ∙ of.value in
    let same : c.in-Some-decimal_size.number ≡ number = cc in
    (same, read.0, read.1)
