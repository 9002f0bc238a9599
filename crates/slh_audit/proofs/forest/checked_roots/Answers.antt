use Rattle.std.proofs.Common.{◌≡◌, length, refl, rules}
use Rattle.slh_audit.proofs.forest.checked_roots.Goals as goal

pub returns : goal.returns
returns g c =
    let count : length c.base_2b.new.out ≡ g.P.ForsSizes.K = search rules in
    let made = rw (c.A.ensures, ← c.base_2b.auto.out, count) at c.base_2b.ensures.value in
    rw (c.climb_all.ensures.value, made) refl
