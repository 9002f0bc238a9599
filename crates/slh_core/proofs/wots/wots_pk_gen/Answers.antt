use Rattle.std.proofs.Common.{◌≡◌, ap, refl}
use Rattle.slh_core.specs.Wots.{wots_pk}
use Rattle.slh_core.proofs.wots.wots_pk_gen.Goals as goal

pub returns-clause-value : goal.returns-clause-value
unfolding wots_pk
returns-clause-value g c =
    let K = g.P.HashSuite.keyed_suite c.args.keyed.now in
    let size : K.n ≡ g.P.N.ArraySize.USIZE = ap (λ k. k.n) (g.met.P.HashSuite.keyed_suite_is c.args.keyed.now) in
    rw (c.t.ensures.value, c.pk_adrs.ensures, c.write_ends.ensures.value, c.chain_sizes.ensures.signature_len, ← size) refl
