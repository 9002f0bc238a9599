use Rattle.std.proofs.Common.{◌≡◌, ap, false, rules, true}
use Rattle.slh_audit.proofs.Answered.{invalid_told, judged_told, mismatch_told}
use Rattle.slh_core.specs.Parameters.{Scheme}
use Rattle.slh_audit.proofs.calls.audit_by_digest.Goals as goal

pub returns-then-not-same_value : goal.returns-then-not-same_value
returns-then-not-same_value g c =
    let differs : c.same_value.result ≡ false = search rules in
    mismatch_told g.P.ForsSizes.scheme g.P.N.ArraySize.USIZE (ap (λ (Z : Scheme). Z.n) c.forest_sizes.ensures.scheme) c.args.key.now c.args.digest.now c.args.sig.now _ _ _ _ c.same_value.result
    c.part_of-sk_seed.ensures c.part_of-pk_seed.ensures c.part_of-pk_root.ensures c.top_root-own.ensures.value c.same_value.ensures differs

pub returns-then-not-same_value-2 : goal.returns-then-not-same_value-2
returns-then-not-same_value-2 g c =
    let yes : c.same_value.result ≡ true = search rules in
    let differs : c.same_value-2.result ≡ false = search rules in
    invalid_told g.P.ForsSizes.scheme g.P.N.ArraySize.USIZE (ap (λ (Z : Scheme). Z.n) c.forest_sizes.ensures.scheme) c.args.key.now c.args.digest.now c.args.sig.now _ _ _ _ c.same_value.result
    c.part_of-sk_seed.ensures c.part_of-pk_seed.ensures c.part_of-pk_root.ensures c.top_root-own.ensures.value c.same_value.ensures
    _ c.same_value-2.result yes c.root_for_digest-root.ensures.value c.same_value-2.ensures differs

pub returns : goal.returns
returns g c =
    let yes : c.same_value.result ≡ true = search rules in
    let led : c.same_value-2.result ≡ true = search rules in
    judged_told g.P.ForsSizes.scheme g.P.N.ArraySize.USIZE (ap (λ (Z : Scheme). Z.n) c.forest_sizes.ensures.scheme) c.args.key.now c.args.digest.now c.args.sig.now _ _ _ _ c.same_value.result
    c.part_of-sk_seed.ensures c.part_of-pk_seed.ensures c.part_of-pk_root.ensures c.top_root-own.ensures.value c.same_value.ensures
    _ c.same_value-2.result yes c.root_for_digest-root.ensures.value c.same_value-2.ensures _ led c.digest_verdict.ensures
