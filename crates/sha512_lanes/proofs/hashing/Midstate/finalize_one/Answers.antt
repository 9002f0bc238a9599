use Rattle.std.proofs.Common.{◌≡◌, ◌<◌, ◌∙◌, ◌∷◌, ◌++◌, ℕ, List, [], ap, arith, length, map, slice_index_or, sym, take}
use Rattle.std.proofs.lemmas.List.{ext_get_or, get_or-map, length-map}
use Rattle.sha2.specs.Sha512.{compress, digest_bytes, sha512}
use Rattle.sha512_lanes.specs.Midstate.{BeginsWith}
use Rattle.sha512_lanes.proofs.Ending.{sha512_of_two}
use Rattle.sha512_lanes.proofs.hashing.Midstate.finalize_one.Goals as goal

pub returns : goal.returns
unfolding BeginsWith
returns c = λ m held.
    let first = c.args.self.now.words in
    let tails = c.args.tails.now in
    let bytes : List ℕ → List ℕ = λ w. digest_bytes w 8 in
    let digest : List ℕ → List ℕ = λ tail. sha512 (m ++ take c.args.len tail) in
    let tail = slice_index_or tails 0 [] in
    let only = c.word_bytes.ensures ∙ ap bytes c.compress_one.ensures
    ∙ ap (λ (b : List ℕ). bytes (compress first b)) (c.last_blocks.ensures.last 0 (omega arith))
    ∙ sha512_of_two first m (take c.args.len tail) c.args.len held.0 held.1 (c.last_blocks.ensures.len 0 (omega arith)) c.requires in
    ext_get_or [] (c.word_bytes.result ∷ []) (map digest tails) (omega (arith, length-map tails digest))
    (λ k low.
    let none : k ≡ 0 = omega (arith, low) in
    rw none (only ∙ sym (get_or-map digest tails 0 [] [] (omega arith))))
