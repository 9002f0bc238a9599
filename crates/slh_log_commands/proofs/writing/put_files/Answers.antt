use Rattle.std.proofs.Common.{◌≡◌, ◌∷◌, ◌++◌, [], arith, map, refl, string_bytes, subst, sym}
use Rattle.std.proofs.lemmas.Grind.{common_steps}
use Rattle.log_files.specs.Appending.{named}
use Rattle.log_files.specs.declared.publishing.Piece.{Piece}
use Rattle.slh_log_commands.proofs.Beside.{IsLast, answered_with, done_with, separate_with, stopped_with}
use Rattle.slh_log_commands.proofs.Pieces.{pieces_are}
use Rattle.slh_log_commands.proofs.writing.put_files.Goals as goal
use Rattle.whole_files.specs.Parts.{HasPartEnd}

pub publish-requires-clause-apart : goal.publish-requires-clause-apart
publish-requires-clause-apart g c =
    let folder = c.args.folder.path.now in
    let files = map named c.args.log_files.now in
    let l : Piece = record { path = c.as_str.result; part = c.as_str-2.result; bytes = c.args.checkpoint } in
    let head : Piece = record { path = c.as_str-3.result; part = c.as_str-4.result; bytes = c.args.checkpoint } in
    let are = pieces_are folder c.args.log_files.now c.in_ok-names.names.items c.as_slice.result.now c.in_ok-pieces.pieces.items c.in_ok-pieces.pieces.items c.args.checkpoint.now head c.in_ok-head.head
    c.in_ok-names.ensures c.as_slice.ensures.value c.in_ok-pieces.ensures refl c.as_str-3.ensures.value c.in_ok-head.ensures.path c.as_str-4.ensures.value c.in_ok-head.ensures.end refl in
    let is : IsLast folder (string_bytes c.args.last.now.path) c.args.checkpoint.now l = record {
      path = c.as_str.ensures.value;
      beside = c.requires.beside;
      part = subst HasPartEnd (sym c.as_str-2.ensures.value) c.requires.part;
      bytes = refl;
    } in
    let same : c.as_slice-2.result.now ≡ c.in_ok-pieces.pieces.items ++ l ∷ [] = grind (arith, common_steps) in
    separate_with folder files (string_bytes c.args.last.now.path) c.args.checkpoint.now c.in_ok-pieces.pieces.items c.as_slice-2.result.now l head c.requires.names are is same

pub publish-requires-clause-permitted : goal.publish-requires-clause-permitted
publish-requires-clause-permitted g c = λ t n publishing.
    let folder = c.args.folder.path.now in
    let files = map named c.args.log_files.now in
    let l : Piece = record { path = c.as_str.result; part = c.as_str-2.result; bytes = c.args.checkpoint } in
    let head : Piece = record { path = c.as_str-3.result; part = c.as_str-4.result; bytes = c.args.checkpoint } in
    let are = pieces_are folder c.args.log_files.now c.in_ok-names.names.items c.as_slice.result.now c.in_ok-pieces.pieces.items c.in_ok-pieces.pieces.items c.args.checkpoint.now head c.in_ok-head.head
    c.in_ok-names.ensures c.as_slice.ensures.value c.in_ok-pieces.ensures refl c.as_str-3.ensures.value c.in_ok-head.ensures.path c.as_str-4.ensures.value c.in_ok-head.ensures.end refl in
    let is : IsLast folder (string_bytes c.args.last.now.path) c.args.checkpoint.now l = record {
      path = c.as_str.ensures.value;
      beside = c.requires.beside;
      part = subst HasPartEnd (sym c.as_str-2.ensures.value) c.requires.part;
      bytes = refl;
    } in
    let same : c.as_slice-2.result.now ≡ c.in_ok-pieces.pieces.items ++ l ∷ [] = grind (arith, common_steps) in
    c.requires.permitted t n (stopped_with _ n folder files (string_bytes c.args.last.now.path) c.args.checkpoint.now c.in_ok-pieces.pieces.items c.as_slice-2.result.now l head c.requires.names are is same publishing)

pub returns-clause-head_is_last : goal.returns-clause-head_is_last
returns-clause-head_is_last g c = λ t.
    let folder = c.args.folder.path.now in
    let files = map named c.args.log_files.now in
    let l : Piece = record { path = c.as_str.result; part = c.as_str-2.result; bytes = c.args.checkpoint } in
    let head : Piece = record { path = c.as_str-3.result; part = c.as_str-4.result; bytes = c.args.checkpoint } in
    let are = pieces_are folder c.args.log_files.now c.in_ok-names.names.items c.as_slice.result.now c.in_ok-pieces.pieces.items c.in_ok-pieces.pieces.items c.args.checkpoint.now head c.in_ok-head.head
    c.in_ok-names.ensures c.as_slice.ensures.value c.in_ok-pieces.ensures refl c.as_str-3.ensures.value c.in_ok-head.ensures.path c.as_str-4.ensures.value c.in_ok-head.ensures.end refl in
    let is : IsLast folder (string_bytes c.args.last.now.path) c.args.checkpoint.now l = record {
      path = c.as_str.ensures.value;
      beside = c.requires.beside;
      part = subst HasPartEnd (sym c.as_str-2.ensures.value) c.requires.part;
      bytes = refl;
    } in
    let same : c.as_slice-2.result.now ≡ c.in_ok-pieces.pieces.items ++ l ∷ [] = grind (arith, common_steps) in
    answered_with _ _ folder files (string_bytes c.args.last.now.path) c.args.checkpoint.now c.in_ok-pieces.pieces.items c.as_slice-2.result.now l head c.publish.result c.requires.names are is same (c.publish.ensures.files t)

pub returns-clause-done : goal.returns-clause-done
returns-clause-done g c = λ t.
    let folder = c.args.folder.path.now in
    let files = map named c.args.log_files.now in
    let l : Piece = record { path = c.as_str.result; part = c.as_str-2.result; bytes = c.args.checkpoint } in
    let head : Piece = record { path = c.as_str-3.result; part = c.as_str-4.result; bytes = c.args.checkpoint } in
    let are = pieces_are folder c.args.log_files.now c.in_ok-names.names.items c.as_slice.result.now c.in_ok-pieces.pieces.items c.in_ok-pieces.pieces.items c.args.checkpoint.now head c.in_ok-head.head
    c.in_ok-names.ensures c.as_slice.ensures.value c.in_ok-pieces.ensures refl c.as_str-3.ensures.value c.in_ok-head.ensures.path c.as_str-4.ensures.value c.in_ok-head.ensures.end refl in
    let is : IsLast folder (string_bytes c.args.last.now.path) c.args.checkpoint.now l = record {
      path = c.as_str.ensures.value;
      beside = c.requires.beside;
      part = subst HasPartEnd (sym c.as_str-2.ensures.value) c.requires.part;
      bytes = refl;
    } in
    let same : c.as_slice-2.result.now ≡ c.in_ok-pieces.pieces.items ++ l ∷ [] = grind (arith, common_steps) in
    done_with _ _ folder files (string_bytes c.args.last.now.path) c.args.checkpoint.now c.in_ok-pieces.pieces.items c.as_slice-2.result.now l head c.publish.result c.requires.names are is same (c.publish.ensures.files t)
