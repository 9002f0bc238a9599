use Rattle.std.proofs.Common.{arith}
use Rattle.std.proofs.lemmas.Grind.{common_steps}
use Rattle.std.proofs.lemmas.Result.{err_from_is_err_and}
use Rattle.whole_files.proofs.Pairs.{secret_is_pairing, secret_not_made, public_is_pairing, public_not_made, both_made, removal_is_pairing}
use Rattle.whole_files.proofs.pair.make_pair.Goals as goal

pub link_new-requires : goal.link_new-requires
link_new-requires g c = record {
  apart = c.requires.apart.secret;
  permitted = λ t n making.
      c.requires.permitted t n
      (secret_is_pairing _ n c.args.key_path.now c.args.key_part.now c.args.key.now c.args.public_path.now c.args.public_part.now c.args.public.now c.requires.apart making);
}

pub returns-in_err-link_new : goal.returns-in_err-link_new
returns-in_err-link_new g c = record {
  files = λ t.
      let p = err_from_is_err_and c.from_residual.result c.from_residual.ensures.1 in
      rw (p.1, p.2) (secret_not_made _ _ c.args.key_path.now c.args.key_part.now c.args.key.now c.args.public_path.now c.args.public_part.now c.args.public.now _ c.requires.apart (c.in_err-link_new.ensures.files t));
  kept = grind (arith, common_steps);
  unsettled = grind (arith, common_steps);
  failed = grind (arith, common_steps);
  left = grind (arith, common_steps);
  later = grind (arith, common_steps);
}

pub link_new-requires-2 : goal.link_new-requires-2
link_new-requires-2 g c = record {
  apart = c.requires.apart.public;
  permitted = λ t n making.
      c.requires.permitted t n
      (public_is_pairing _ _ n c.args.key_path.now c.args.key_part.now c.args.key.now c.args.public_path.now c.args.public_part.now c.args.public.now c.requires.apart (c.in_ok-link_new.ensures.files t) making);
}

pub take_back-requires : goal.take_back-requires
take_back-requires g c = λ t n r removes.
    c.requires.permitted t n
    (removal_is_pairing _ _ _ n c.args.key_path.now c.args.key_part.now c.args.key.now c.args.public_path.now c.args.public_part.now c.args.public.now _ r c.requires.apart (c.in_ok-link_new.ensures.files t) (c.in-Err.ensures.files t) removes)

pub returns-in-Ok : goal.returns-in-Ok
returns-in-Ok g c = record {
  files = λ t.
      both_made _ _ _ _ c.args.key_path.now c.args.key_part.now c.args.key.now c.args.public_path.now c.args.public_part.now c.args.public.now c.requires.apart (c.in_ok-link_new.ensures.files t) (c.in-Ok.ensures.files t) (c.settle_both.ensures.same t);
  kept = grind (arith, common_steps);
  unsettled = grind (arith, common_steps);
  failed = grind (arith, common_steps);
  left = grind (arith, common_steps);
  later = grind (arith, common_steps);
}

pub returns-in-Err : goal.returns-in-Err
returns-in-Err g c = record {
  files = λ t.
      public_not_made _ _ _ _ c.args.key_path.now c.args.key_part.now c.args.key.now c.args.public_path.now c.args.public_part.now c.args.public.now _ _ c.requires.apart (c.in_ok-link_new.ensures.files t) (c.in-Err.ensures.files t) (c.take_back.ensures.files t);
  kept = grind (arith, common_steps);
  unsettled = grind (arith, common_steps);
  failed = grind (arith, common_steps);
  left = grind (arith, common_steps);
  later = grind (arith, common_steps);
}
