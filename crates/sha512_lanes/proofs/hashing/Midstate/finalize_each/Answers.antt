use Rattle.std.proofs.Common.{ℕ, List, [], ◌++◌, ◌∙◌, ap, arith, length, map, ◌<◌, slice_index_or, sym, take}
use Rattle.std.proofs.lemmas.List.{ext_get_or, get_or-map, length-map}
use Rattle.sha2.specs.Sha512.{compress, digest_bytes, sha512}
use Rattle.sha512_lanes.specs.Midstate.{BeginsWith}
use Rattle.sha512_lanes.proofs.Ending.{sha512_of_two}
use Rattle.sha512_lanes.proofs.hashing.Midstate.finalize_each.Goals as goal

pub returns : goal.returns
unfolding BeginsWith
returns g c = λ m held.
    let first = c.args.self.now.words in
    let blocks = c.last_blocks-blocks.result in
    let words = map (compress first) blocks in
    let tails = c.args.tails.now in
    let bytes : List ℕ → List ℕ = λ w. digest_bytes w 8 in
    let digest : List ℕ → List ℕ = λ tail. sha512 (m ++ take c.args.len tail) in
    rw (c.digests_of.ensures, c.compress_each.ensures)
    (ext_get_or [] (map bytes words) (map digest tails)
    (omega (arith, length-map words bytes, length-map blocks (compress first), length-map tails digest))
    (λ k low.
    let inside : k < length blocks = omega (arith, low, length-map words bytes, length-map blocks (compress first)) in
    let below : k < g.row.N = omega (arith, inside) in
    let tail = slice_index_or tails k [] in
    get_or-map bytes words k [] [] (omega (arith, inside, length-map blocks (compress first)))
    ∙ ap bytes (get_or-map (compress first) blocks k [] [] inside)
    ∙ ap (λ (b : List ℕ). bytes (compress first b)) (c.last_blocks-blocks.ensures.last k below)
    ∙ sha512_of_two first m (take c.args.len tail) c.args.len held.0 held.1 (c.last_blocks-blocks.ensures.len k below) c.requires.short
    ∙ sym (get_or-map digest tails k [] [] (omega (arith, below)))))
