use Rattle.std.proofs.Common.{◌≡◌, ◌<◌, ◌∷◌, [], ◌++◌, length, sym, ◌∙◌, ap, arith}
use Rattle.std.proofs.lemmas.Bool.Decides.{Decides-eqb}
use Rattle.std.proofs.lemmas.List.{length_push}
use Rattle.slh_bytes.proofs.LogReading.{ends, has_value, not_none, reads_on, some_line}
use Rattle.slh_bytes.proofs.log_proofs.read_digests.Goals as goal

pub returns-then-is_empty-clause-read : goal.returns-then-is_empty-clause-read
returns-then-is_empty-clause-read c = λ digests rest are is.
    let line = c.in-Some.line.now in
    let empty : length line ≡ 0 = (Decides-eqb _ _).0 (sym c.is_empty.ensures ∙ c.if-is_empty.true) in
    let end = ends digests c.each_line.digests.items rest c.each_line.rest.now line c.in-Some.later.now are (c.each_line.invariant.left digests rest are is) c.in-Some.ensures.cut empty in
    (end.all, end.rest_is)

pub returns-in_default-digest_of-clause-read : goal.returns-in_default-digest_of-clause-read
returns-in_default-digest_of-clause-read c = λ digests rest are is.
    let line = c.in-Some.line.now in
    let some : 0 < length line = not_none (length line) (sym c.is_empty.ensures ∙ c.if-is_empty.false) in
    absurd (has_value digests c.each_line.digests.items rest c.each_line.rest.now line c.in-Some.later.now are (c.each_line.invariant.left digests rest are is) c.in-Some.ensures.cut some c.in_default-digest_of.ensures)

pub each_line-preserved : goal.each_line-preserved
each_line-preserved c =
    let line = c.in-Some.line.now in
    let done = c.each_line.digests.items in
    let digest = c.in-Some-digest_of.digest in
    let some : 0 < length line = not_none (length line) (sym c.is_empty.ensures ∙ c.if-is_empty.false) in
    let pushed : c.push.new.all.items ≡ done ++ digest ∷ [] = c.in_ok-push.ensures.ok in
    record {
      few = omega (arith, c.each_line.invariant.few, c.if-len-eq-MAX_DIGESTS.false, c.len.ensures, ap length pushed, length_push done digest);
      left = λ digests rest are is.
          reads_on digests done c.push.new.all.items rest c.each_line.rest.now line c.in-Some.later.now digest are (c.each_line.invariant.left digests rest are is) c.in-Some.ensures.cut some
          c.in-Some-digest_of.ensures pushed;
    }

pub returns-clause-read : goal.returns-clause-read
returns-clause-read c = λ digests rest are is.
    let left = c.each_line.invariant.left digests rest are is in
    absurd (some_line left.more c.each_line.rest.now rest left.lines c.in_default.ensures.cut)
