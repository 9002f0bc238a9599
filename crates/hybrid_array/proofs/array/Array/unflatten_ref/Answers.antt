use Rattle.std.proofs.Common.{◌≡◌, ◌*◌, length, arith}
use Rattle.hybrid_array.proofs.ChunkLemmas.{take-whole_count}
use Rattle.hybrid_array.proofs.array.Array.unflatten_ref.Goals as goal

pub returns : goal.returns
returns g c =
    let whole : length c.as_slice.result.now ≡ g.M.ArraySize.USIZE * g.Q.ArraySize.USIZE = omega arith in
    rw (c.slice_as_chunks-chunks.ensures.chunks, take-whole_count _ _ _ c.requires.some whole) c.as_slice.ensures.value
