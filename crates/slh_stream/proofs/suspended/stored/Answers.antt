use Rattle.std.proofs.Common.{length, arith, ap, ◌∙◌}
use Rattle.std.proofs.lemmas.List.{drop-replicate}
use Rattle.std.proofs.lemmas.Slice.{drop-append-drop}
use Rattle.slh_stream.proofs.suspended.stored.Goals as goal

pub returns-clause-rest : goal.returns-clause-rest
returns-clause-rest g c =
    let n = g.N.ArraySize.USIZE in
    drop-append-drop (length c.as_slice-bytes.result.now) _ c.copy_from_slice.new.self n (omega (arith, c.as_slice-bytes.ensures.len))
    (ap length c.copy_from_slice.ensures.after)
    ∙ drop-replicate n 32 0
