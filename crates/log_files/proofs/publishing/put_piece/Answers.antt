use Rattle.std.proofs.Common.{refl}
use Rattle.std.proofs.lemmas.Option.{slice_get-get_or}
use Rattle.log_files.proofs.publishing.put_piece.Goals as goal

pub write_whole-requires-clause-permitted : goal.write_whole-requires-clause-permitted
write_whole-requires-clause-permitted g c = λ t n writing.
    c.requires.permitted t n _ (slice_get-get_or c.args.pieces.now c.args.i _ c.requires.there) writing

pub returns-in-Ok-Settled-clause-files : goal.returns-in-Ok-Settled-clause-files
returns-in-Ok-Settled-clause-files g c = λ t.
    (_, slice_get-get_or c.args.pieces.now c.args.i _ c.requires.there, c.in-Ok-Settled.ensures.files t)

pub returns-in-Ok-Unsettled-clause-files : goal.returns-in-Ok-Unsettled-clause-files
returns-in-Ok-Unsettled-clause-files g c = λ t.
    (refl, (_, slice_get-get_or c.args.pieces.now c.args.i _ c.requires.there, c.in-Ok-Unsettled.ensures.files t))

pub returns-in-Err-clause-files : goal.returns-in-Err-clause-files
returns-in-Err-clause-files g c = λ t.
    (refl, (_, slice_get-get_or c.args.pieces.now c.args.i _ c.requires.there, c.in-Err.ensures.files t))
