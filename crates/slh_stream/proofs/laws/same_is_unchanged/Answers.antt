use Rattle.std.proofs.Common.{◌==◌, true, ◌≡◌, refl}
use Rattle.std.proofs.lemmas.Bool.Decides.{Decides-eqb}
use Rattle.slh_stream.proofs.Agreeing.{same_bytes}
use Rattle.slh_stream.specs.Passes.{randomizer_for}
use Rattle.slh_stream.proofs.laws.same_is_unchanged.Goals as goal
use Rattle.slh_trees.specs.Checking.{signature_size}

pub returns : goal.returns
returns g c key message opt_rand =
    let Z = g.P.ForsSizes.scheme in
    let size : (signature_size Z == signature_size Z) ≡ true = (Decides-eqb (signature_size Z) (signature_size Z)).1 refl in
    rw (size, same_bytes (randomizer_for Z key opt_rand message)) refl
