use Rattle.std.proofs.Common.{ℕ, List, [], ◌++◌, ◌+◌, ◌∙◌, ap, arith, length, map, ◌<◌, slice_index_or, sym, take}
use Rattle.std.proofs.lemmas.List.{ext_get_or, get_or-map, length-map}
use Rattle.sha256_lanes.specs.Midstate.{BeginsWith}
use Rattle.sha256_lanes.specs.Sha256.{compress, sha256, word_bytes}
use Rattle.sha256_lanes.proofs.Ending.{sha256_of_two}
use Rattle.sha256_lanes.proofs.hashing.Midstate.finalize_each.Goals as goal

pub returns : goal.returns
unfolding BeginsWith
returns g c = λ m held.
    let first = c.args.self.now.words in
    let blocks = c.last_blocks-blocks.result in
    let words = map (compress first) blocks in
    let tails = c.args.tails.now in
    let digest : List ℕ → List ℕ = λ tail. sha256 (m ++ take c.args.len tail) in
    rw (c.digests_of.ensures, c.compress_each.ensures)
    (ext_get_or [] (map word_bytes words) (map digest tails)
    (omega (arith, length-map words word_bytes, length-map blocks (compress first), length-map tails digest))
    (λ k low.
    let inside : k < length blocks = omega (arith, low, length-map words word_bytes, length-map blocks (compress first)) in
    let below : k < g.row.N = omega (arith, inside) in
    let tail = slice_index_or tails k [] in
    let size = c.last_blocks-blocks.ensures.len k below in
    get_or-map word_bytes words k [] [] (omega (arith, inside, length-map blocks (compress first)))
    ∙ ap word_bytes (get_or-map (compress first) blocks k [] [] inside)
    ∙ ap (λ (b : List ℕ). word_bytes (compress first b)) (c.last_blocks-blocks.ensures.last k below)
    ∙ sha256_of_two first m (take c.args.len tail) (64 + c.args.len) held.0 held.1 (omega (arith, size, c.requires.short)) (omega (arith, size))
    ∙ sym (get_or-map digest tails k [] [] (omega (arith, below)))))
