use Rattle.std.proofs.Common.{◌≡◌, ◌≤◌, ◌+◌, ◌*◌, ◌∙◌, ℕ, List, [], ap, arith, drop, length, length-drop, slice_index_or, take}
use Rattle.std.proofs.lemmas.List.{get_or-map, length-take-le}
use Rattle.sha2.specs.Sha512.{digest_bytes}
use Rattle.sha512_lanes.specs.Midstate.{BeginsWith}
use Rattle.sha512_lanes.proofs.LongRows.{row_inside, row_end, sha512_of_row}
use Rattle.sha512_lanes.proofs.hashing.Midstate.finalize_rows.Goals as goal

pub returns : goal.returns
unfolding BeginsWith
returns c = λ m j held low.
    let len = c.args.len in
    let rows = c.args.rows.now in
    let row = take len (drop (j * len) rows) in
    let padded = slice_index_or c.padded_rows-padded.result j [] in
    let bytes : List ℕ → List ℕ = λ w. digest_bytes w 8 in
    let room : j * len + len ≤ length rows = row_inside j len low (length rows) c.requires.whole in
    let size : length row ≡ len = length-take-le len (drop (j * len) rows) (omega (arith, length-drop (j * len) rows, room)) in
    let front : take (row_end (length row)) padded ≡ _ = rw size (c.padded_rows-padded.ensures.rows j low) in
    ap (λ (l : List (List ℕ)). slice_index_or l j []) c.digests_of.ensures
    ∙ get_or-map bytes c.fold_rows.result j [] [] (omega (arith, c.fold_rows.ensures.lanes, low))
    ∙ ap bytes (c.fold_rows.ensures.words j low)
    ∙ sha512_of_row c.args.self.now.words m row padded c.block_count.result held.0 held.1 (omega (arith, size, c.requires.short))
    (c.padded_rows-padded.ensures.long j low) (omega (arith, size, c.block_count.ensures.value)) front
