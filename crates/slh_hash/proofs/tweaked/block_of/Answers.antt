use Rattle.std.proofs.Common.{refl, length, ℕ}
use Rattle.std.proofs.lemmas.List.{drop-replicate}
use Rattle.slh_hash.proofs.tweaked.block_of.Goals as goal

pub returns : goal.returns
returns g c =
    rw (drop-replicate {X = ℕ} (length c.as_slice-seed.result.now) g.row.B 0, c.copy_from_slice.ensures.after, c.as_slice-seed.ensures.len, c.as_slice-seed.ensures.value) refl
