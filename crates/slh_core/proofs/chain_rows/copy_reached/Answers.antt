use Rattle.std.proofs.Common.{◌≡◌, ◌==◌, ◌+◌, ◌*◌, ◌∙◌, true, false, arith, refl}
use Rattle.std.proofs.lemmas.Bool.{eq-eqb, ne_eqb}
use Rattle.std.specs.Prelude.{slice_index}
use Rattle.slh_core.proofs.Joins.{drop_later, joined_more, part_later, take_part}
use Rattle.slh_core.proofs.chain_rows.copy_reached.Goals.{then-digit-q, else-digit-q}
use Rattle.slh_core.proofs.chain_rows.copy_reached.Goals as goal

pub loop-c-preserved : goal.loop-c-preserved
loop-c-preserved c =
    let n = c.args.n in
    let at = c.loop-c.c in
    let old = c.args.out.now in
    let cur = c.loop-c.out in
    let digit = slice_index c.args.digits.now at in
    let i = c.loop-c.invariant in
    let later = drop_later cur old (at * n) ((at + 1) * n) (omega arith) i.rest in
    elim c.if-digit-q.branch [
      | then-digit-q w ↦
          let end : at * n + n ≡ (at + 1) * n = omega arith in
          let yes : (digit == c.args.q) ≡ true = eq-eqb digit c.args.q w.if-digit-q.true in
          record {
            parts = rw (w.out-is, w.put_part.ensures.front, i.parts, joined_more, yes, end) refl;
            rest = rw w.out-is (w.put_part.ensures.rest ∙ later);
          }
      | else-digit-q w ↦
          let no : (digit == c.args.q) ≡ false = ne_eqb digit c.args.q w.if-digit-q.false in
          record {
            parts = rw (w.out-is, take_part n cur at, i.parts, joined_more, no, part_later n cur old at i.rest) refl;
            rest = rw w.out-is later;
          }
    ]
