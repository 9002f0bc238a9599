use Rattle.std.proofs.Common.{Err, arith}
use Rattle.std.proofs.lemmas.Grind.{common_steps}
use Rattle.std.proofs.lemmas.Result.{err_from_is_err_and}
use Rattle.whole_files.proofs.Steps.{link_is_making, unlink_is_making, unlinked_is_made, removal_is_making, removal_makes}
use Rattle.whole_files.proofs.Steps.{not_linked_is_making, not_linked_makes, placing_makes}
use Rattle.whole_files.proofs.whole.link_new.Goals as goal

pub place-requires : goal.place-requires
place-requires g c = grind (arith, common_steps)

pub returns-in_err-place : goal.returns-in_err-place
returns-in_err-place g c = record {
  files = λ t.
      let p = err_from_is_err_and c.from_residual.result c.from_residual.ensures.1 in
      rw (p.1, p.2) (placing_makes _ _ c.args.path.now c.args.part.now c.args.mode c.args.bytes.now _ c.requires.apart (c.in_err-place.ensures.files t));
  failed = grind (arith, common_steps);
  left = grind (arith, common_steps);
  later = grind (arith, common_steps);
}

pub link-requires : goal.link-requires
link-requires g c = λ t n r links.
    c.requires.permitted t n
    (link_is_making _ _ n c.args.path.now c.args.part.now c.args.mode c.args.bytes.now r c.requires.apart (c.in_ok-place.ensures.files t) links)

pub remove-requires : goal.remove-requires
remove-requires g c = λ t n r removes.
    let names = rw c.in-Ok-true.field-0-test at (c.in-Ok-true.ensures.files t) in
    c.requires.permitted t n
    (unlink_is_making _ _ _ n c.args.path.now c.args.part.now c.args.mode c.args.bytes.now r c.requires.apart (c.in_ok-place.ensures.files t) names removes)

pub remove-requires-in-Ok-false : goal.remove-requires-in-Ok-false
remove-requires-in-Ok-false g c = λ t n r removes.
    let stays = rw c.in-Ok-false.field-0-test at (c.in-Ok-false.ensures.files t) in
    c.requires.permitted t n
    (removal_is_making _ _ _ n c.args.path.now c.args.part.now c.args.mode c.args.bytes.now r c.requires.apart (c.in_ok-place.ensures.files t) stays.0 removes)

pub take_away-requires : goal.take_away-requires
take_away-requires g c = λ t n r removes.
    c.requires.permitted t n
    (removal_is_making _ _ _ n c.args.path.now c.args.part.now c.args.mode c.args.bytes.now r c.requires.apart (c.in_ok-place.ensures.files t) (c.in-Err.ensures.files t) removes)

pub returns-in-Ok : goal.returns-in-Ok
returns-in-Ok g c = record {
  files = λ t.
      let names = rw c.in-Ok-true.field-0-test at (c.in-Ok-true.ensures.files t) in
      unlinked_is_made _ _ _ _ c.args.path.now c.args.part.now c.args.mode c.args.bytes.now c.requires.apart (c.in_ok-place.ensures.files t) names (c.in-Ok.ensures.files t);
  failed = grind (arith, common_steps);
  left = grind (arith, common_steps);
  later = grind (arith, common_steps);
}

pub returns-in-Err-remove : goal.returns-in-Err-remove
returns-in-Err-remove g c = record {
  files = λ t.
      let names = rw c.in-Ok-true.field-0-test at (c.in-Ok-true.ensures.files t) in
      unlink_is_making _ _ _ _ c.args.path.now c.args.part.now c.args.mode c.args.bytes.now (Err c.in-Err-remove.field-0) c.requires.apart (c.in_ok-place.ensures.files t) names (c.in-Err-remove.ensures.files t);
  failed = grind (arith, common_steps);
  left = grind (arith, common_steps);
  later = grind (arith, common_steps);
}

pub returns-in-Ok-remove : goal.returns-in-Ok-remove
returns-in-Ok-remove g c = record {
  files = λ t.
      let stays = rw c.in-Ok-false.field-0-test at (c.in-Ok-false.ensures.files t) in
      not_linked_makes _ _ _ _ c.args.path.now c.args.part.now c.args.mode c.args.bytes.now c.requires.apart (c.in_ok-place.ensures.files t) stays (c.in-Ok-remove.ensures.files t);
  failed = grind (arith, common_steps);
  left = grind (arith, common_steps);
  later = grind (arith, common_steps);
}

pub returns-in-Err-remove-2 : goal.returns-in-Err-remove-2
returns-in-Err-remove-2 g c = record {
  files = λ t.
      let stays = rw c.in-Ok-false.field-0-test at (c.in-Ok-false.ensures.files t) in
      not_linked_is_making _ _ _ _ c.args.path.now c.args.part.now c.args.mode c.args.bytes.now c.requires.apart (c.in_ok-place.ensures.files t) stays.0 (c.in-Err-remove-2.ensures.files t);
  failed = grind (arith, common_steps);
  left = grind (arith, common_steps);
  later = grind (arith, common_steps);
}

pub returns-in-Err : goal.returns-in-Err
returns-in-Err g c = record {
  files = λ t.
      removal_makes _ _ _ _ c.args.path.now c.args.part.now c.args.mode c.args.bytes.now c.take_away.result c.requires.apart (c.in_ok-place.ensures.files t) (c.in-Err.ensures.files t) (c.take_away.ensures.files t);
  failed = grind (arith, common_steps);
  left = grind (arith, common_steps);
  later = grind (arith, common_steps);
}
