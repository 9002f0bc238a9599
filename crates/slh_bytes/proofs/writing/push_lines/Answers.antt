use Rattle.std.proofs.Common.{◌≡◌, ◌*◌, ◌++◌, List, ℕ, sym, ◌∙◌, ap, arith}
use Rattle.std.proofs.lemmas.List.{append-nil}
use Rattle.slh_bytes.specs.Writing.{first_lines}
use Rattle.slh_bytes.proofs.Rows.{line_is, line_pushed}
use Rattle.slh_bytes.proofs.writing.push_lines.Goals as goal

pub loop-i-init : goal.loop-i-init
loop-i-init c = sym (append-nil c.args.text.now)

pub loop-i-preserved : goal.loop-i-preserved
loop-i-preserved c =
    let line = c.in_ok-push_slice.ensures.ok in
    let ended = c.in_ok-push_slice-2.ensures.ok in
    line_pushed c.loop-i.i c.args.bytes.now c.args.text.now c.loop-i.text c.push_slice.new.self c.push_slice-in-loop-i.new.self
    c.loop-i.invariant (line ∙ ap (λ (t : List ℕ). c.loop-i.text ++ t) (line_is c.min.result (64 * c.loop-i.i) c.args.bytes.now c.min.ensures)) ended

pub returns : goal.returns
returns c =
    let last : c.loop-i.i ≡ c.div_ceil-i-end.result = omega (arith, c.loop-i-test.false, c.loop-i.auto.i-end) in
    c.loop-i.invariant ∙ ap (λ k. c.args.text.now ++ first_lines k c.args.bytes.now) (last ∙ c.div_ceil-i-end.ensures)
