use Rattle.std.proofs.Common.{refl}
use Rattle.std.proofs.lemmas.List.{drop-replicate}
use Rattle.slh_hash.proofs.mac.zero_padded.Goals as goal

pub returns : goal.returns
returns c = rw (c.copy_from_slice.ensures.after, drop-replicate) refl
