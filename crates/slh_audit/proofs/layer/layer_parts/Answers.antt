use Rattle.std.proofs.Common.{arith, length}
use Rattle.std.proofs.lemmas.Grind.{common_steps}
use Rattle.slh_audit.proofs.Told.{path_len}
use Rattle.slh_audit.proofs.layer.layer_parts.Goals as goal

pub returns : goal.returns
returns g c = record {
  chains = grind (arith, common_steps);
  path = grind (arith, common_steps);
  chains_len = grind (arith, common_steps);
  path_len = path_len g.P.N.ArraySize.USIZE g.P.WotsSizes.WOTS_SIG_LEN g.P.XmssSizes.H_PRIME (length c.args.sig.now) (length c.split_at.result.1.now)
      c.tree_sizes.ensures.signature_len c.requires (rw (c.WOTS_SIG_LEN.ensures, c.USIZE.ensures) at c.split_at.ensures.back_len);
}
