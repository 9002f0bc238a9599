use Rattle.std.proofs.Common.{arith}
use Rattle.std.proofs.lemmas.Grind.{common_steps}
use Rattle.whole_files.proofs.Steps.{rename_is_writing, removal_is_writing, removal_writes, renamed_is_written}
use Rattle.whole_files.proofs.whole.write_whole.Goals as goal

pub returns-in_err-mode : goal.returns-in_err-mode
returns-in_err-mode g c = grind (arith, common_steps)

pub returns-in_err-place : goal.returns-in_err-place
returns-in_err-place g c = grind (arith, common_steps)

pub rename-requires : goal.rename-requires
rename-requires g c = record {
  apart = c.requires.apart;
  permitted = λ t n r renames.
      c.requires.permitted t n
      (rename_is_writing _ _ _ n c.args.path.now c.args.part.now c.args.bytes.now c.in_ok-mode.mode r c.requires.apart
      (c.in_ok-mode.ensures.same t) (c.in_ok-mode.ensures.mode t).0 (c.in_ok-place.ensures.files t) renames);
}

pub take_away-requires : goal.take_away-requires
take_away-requires g c = λ t n r removes.
    c.requires.permitted t n
    (removal_is_writing _ _ _ _ n c.args.path.now c.args.part.now c.args.bytes.now c.in_ok-mode.mode r c.requires.apart
    (c.in_ok-mode.ensures.same t) (c.in_ok-mode.ensures.mode t).0 (c.in_ok-place.ensures.files t) (c.in-Err.ensures.files t) removes)

pub returns-in-Ok : goal.returns-in-Ok
returns-in-Ok g c = record {
  files = λ t.
      renamed_is_written _ _ _ _ _ c.args.path.now c.args.part.now c.args.bytes.now c.in_ok-mode.mode c.requires.apart
      (c.in_ok-mode.ensures.same t) (c.in_ok-mode.ensures.mode t).0 (c.in_ok-mode.ensures.mode t).1
      (c.in_ok-place.ensures.files t) (c.in-Ok.ensures.files t) (c.settle.ensures.same t);
  kept = grind (arith, common_steps);
  unsettled = grind (arith, common_steps);
  failed = grind (arith, common_steps);
  left = grind (arith, common_steps);
  later = grind (arith, common_steps);
}

pub returns-in-Err : goal.returns-in-Err
returns-in-Err g c = record {
  files = λ t.
      removal_writes _ _ _ _ _ c.args.path.now c.args.part.now c.args.bytes.now c.in_ok-mode.mode c.take_away.result
      (c.in_ok-mode.ensures.same t) (c.in_ok-mode.ensures.mode t).0 (c.in_ok-place.ensures.files t) (c.in-Err.ensures.files t)
      (c.take_away.ensures.files t);
  kept = grind (arith, common_steps);
  unsettled = grind (arith, common_steps);
  failed = grind (arith, common_steps);
  left = grind (arith, common_steps);
  later = grind (arith, common_steps);
}
