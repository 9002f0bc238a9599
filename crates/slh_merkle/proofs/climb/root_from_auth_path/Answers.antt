use Rattle.std.proofs.Common.{◌+◌, arith}
use Rattle.std.proofs.lemmas.Nat.{mul-le}
use Rattle.slh_merkle.proofs.climb.root_from_auth_path.Goals as goal

pub part_of-beside-requires-clause-fits : goal.part_of-beside-requires-clause-fits
part_of-beside-requires-clause-fits g c =
    let n = g.P.N.ArraySize.USIZE in
    let inside = mul-le (c.loop-z.z + 1) n c.args.heights n (omega arith) (omega arith) in
    omega (arith, inside, c.requires.enough)
