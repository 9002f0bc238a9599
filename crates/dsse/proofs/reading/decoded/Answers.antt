use Rattle.base64.specs.Engines.{standard, standard_no_pad, url_safe, url_safe_no_pad}
use Rattle.std.proofs.Common.{◌∙◌}
use Rattle.dsse.proofs.Decoding.{Tells, first_form, found, last_form, nothing, second_form, tells, third_form}
use Rattle.dsse.proofs.reading.decoded.Goals as goal

pub returns-in-Some-clause-ok : goal.returns-in-Some-clause-ok
returns-in-Some-clause-ok c =
    let first : Tells standard c.args.text.now c.in_ok-bytes.field-0 =
    tells standard c.as_bytes-symbols.result.now c.args.text.now c.decode.result c.found.result c.in_ok-bytes.field-0 c.as_bytes-symbols.ensures.value c.decode.ensures.ok
    c.decode.ensures.err c.found.ensures c.in_ok-bytes.was in
    first_form c.args.text.now _ (found first c.in-Some.is)

pub returns-in-Some-2-clause-ok : goal.returns-in-Some-2-clause-ok
returns-in-Some-2-clause-ok c =
    let first : Tells standard c.args.text.now c.in_ok-bytes.field-0 =
    tells standard c.as_bytes-symbols.result.now c.args.text.now c.decode.result c.found.result c.in_ok-bytes.field-0 c.as_bytes-symbols.ensures.value c.decode.ensures.ok
    c.decode.ensures.err c.found.ensures c.in_ok-bytes.was in
    let second : Tells standard_no_pad c.args.text.now c.in_ok-bytes-2.field-0 =
    tells standard_no_pad c.as_bytes-symbols.result.now c.args.text.now c.decode-2.result c.found-2.result c.in_ok-bytes-2.field-0 c.as_bytes-symbols.ensures.value c.decode-2.ensures.ok
    c.decode-2.ensures.err c.found-2.ensures c.in_ok-bytes-2.was in
    second_form c.args.text.now _ (nothing first c.in_default.not-Some) (found second c.in-Some-2.is)

pub returns-in-Some-3-clause-ok : goal.returns-in-Some-3-clause-ok
returns-in-Some-3-clause-ok c =
    let first : Tells standard c.args.text.now c.in_ok-bytes.field-0 =
    tells standard c.as_bytes-symbols.result.now c.args.text.now c.decode.result c.found.result c.in_ok-bytes.field-0 c.as_bytes-symbols.ensures.value c.decode.ensures.ok
    c.decode.ensures.err c.found.ensures c.in_ok-bytes.was in
    let second : Tells standard_no_pad c.args.text.now c.in_ok-bytes-2.field-0 =
    tells standard_no_pad c.as_bytes-symbols.result.now c.args.text.now c.decode-2.result c.found-2.result c.in_ok-bytes-2.field-0 c.as_bytes-symbols.ensures.value c.decode-2.ensures.ok
    c.decode-2.ensures.err c.found-2.ensures c.in_ok-bytes-2.was in
    let third : Tells url_safe c.args.text.now c.in_ok-bytes-3.field-0 =
    tells url_safe c.as_bytes-symbols.result.now c.args.text.now c.decode-3.result c.found-3.result c.in_ok-bytes-3.field-0 c.as_bytes-symbols.ensures.value c.decode-3.ensures.ok
    c.decode-3.ensures.err c.found-3.ensures c.in_ok-bytes-3.was in
    third_form c.args.text.now _ (nothing first c.in_default.not-Some) (nothing second c.in_default-2.not-Some) (found third c.in-Some-3.is)

pub returns-in-Some-4-clause-ok : goal.returns-in-Some-4-clause-ok
returns-in-Some-4-clause-ok c =
    let first : Tells standard c.args.text.now c.in_ok-bytes.field-0 =
    tells standard c.as_bytes-symbols.result.now c.args.text.now c.decode.result c.found.result c.in_ok-bytes.field-0 c.as_bytes-symbols.ensures.value c.decode.ensures.ok
    c.decode.ensures.err c.found.ensures c.in_ok-bytes.was in
    let second : Tells standard_no_pad c.args.text.now c.in_ok-bytes-2.field-0 =
    tells standard_no_pad c.as_bytes-symbols.result.now c.args.text.now c.decode-2.result c.found-2.result c.in_ok-bytes-2.field-0 c.as_bytes-symbols.ensures.value c.decode-2.ensures.ok
    c.decode-2.ensures.err c.found-2.ensures c.in_ok-bytes-2.was in
    let third : Tells url_safe c.args.text.now c.in_ok-bytes-3.field-0 =
    tells url_safe c.as_bytes-symbols.result.now c.args.text.now c.decode-3.result c.found-3.result c.in_ok-bytes-3.field-0 c.as_bytes-symbols.ensures.value c.decode-3.ensures.ok
    c.decode-3.ensures.err c.found-3.ensures c.in_ok-bytes-3.was in
    let fourth : Tells url_safe_no_pad c.args.text.now c.in_ok-bytes-4.field-0 =
    tells url_safe_no_pad c.as_bytes-symbols.result.now c.args.text.now c.decode-4.result c.found-4.result c.in_ok-bytes-4.field-0 c.as_bytes-symbols.ensures.value c.decode-4.ensures.ok
    c.decode-4.ensures.err c.found-4.ensures c.in_ok-bytes-4.was in
    last_form c.args.text.now (nothing first c.in_default.not-Some) (nothing second c.in_default-2.not-Some) (nothing third c.in_default-3.not-Some) ∙ (found fourth c.in-Some-4.is)

pub returns-clause-form : goal.returns-clause-form
returns-clause-form c = λ _.
    let first : Tells standard c.args.text.now c.in_ok-bytes.field-0 =
    tells standard c.as_bytes-symbols.result.now c.args.text.now c.decode.result c.found.result c.in_ok-bytes.field-0 c.as_bytes-symbols.ensures.value c.decode.ensures.ok
    c.decode.ensures.err c.found.ensures c.in_ok-bytes.was in
    let second : Tells standard_no_pad c.args.text.now c.in_ok-bytes-2.field-0 =
    tells standard_no_pad c.as_bytes-symbols.result.now c.args.text.now c.decode-2.result c.found-2.result c.in_ok-bytes-2.field-0 c.as_bytes-symbols.ensures.value c.decode-2.ensures.ok
    c.decode-2.ensures.err c.found-2.ensures c.in_ok-bytes-2.was in
    let third : Tells url_safe c.args.text.now c.in_ok-bytes-3.field-0 =
    tells url_safe c.as_bytes-symbols.result.now c.args.text.now c.decode-3.result c.found-3.result c.in_ok-bytes-3.field-0 c.as_bytes-symbols.ensures.value c.decode-3.ensures.ok
    c.decode-3.ensures.err c.found-3.ensures c.in_ok-bytes-3.was in
    let fourth : Tells url_safe_no_pad c.args.text.now c.in_ok-bytes-4.field-0 =
    tells url_safe_no_pad c.as_bytes-symbols.result.now c.args.text.now c.decode-4.result c.found-4.result c.in_ok-bytes-4.field-0 c.as_bytes-symbols.ensures.value c.decode-4.ensures.ok
    c.decode-4.ensures.err c.found-4.ensures c.in_ok-bytes-4.was in
    last_form c.args.text.now (nothing first c.in_default.not-Some) (nothing second c.in_default-2.not-Some) (nothing third c.in_default-3.not-Some) ∙ (nothing fourth c.in_default-4.not-Some)
