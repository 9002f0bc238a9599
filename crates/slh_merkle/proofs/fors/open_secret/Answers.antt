use Rattle.std.proofs.Common.{arith, refl}
use Rattle.slh_merkle.specs.Fors.{fors_leaf}
use Rattle.slh_merkle.proofs.fors.open_secret.Goals as goal

pub write_auth_path-requires-clause-leaf : goal.write_auth_path-requires-clause-leaf
write_auth_path-requires-clause-leaf g c = c.requires.leaf

pub write_auth_path-requires-clause-height : goal.write_auth_path-requires-clause-height
write_auth_path-requires-clause-height g c = c.A-height.ensures

pub write_auth_path-requires-clause-room : goal.write_auth_path-requires-clause-room
write_auth_path-requires-clause-room g c =
    let back = rw c.USIZE.ensures at c.split_at_mut-secret.ensures.back_len in
    rw c.A-height.ensures (omega (arith, back, c.requires.room))

pub returns : goal.returns
unfolding fors_leaf
returns g c = record {
  value = rw (c.copy_from_slice.ensures.after, c.as_slice.ensures.value, c.fors_sk_gen.ensures.value, c.write_auth_path.ensures.value, c.A-height.ensures) refl;
  cost = omega (arith, c.fors_sk_gen.ensures.cost, rw c.A-height.ensures at c.write_auth_path.ensures.cost);
}
