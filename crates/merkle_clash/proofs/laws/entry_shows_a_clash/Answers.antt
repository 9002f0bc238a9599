use Rattle.std.proofs.Common.{◌≡◌, ◌<◌, [], ◌∷◌, length, map, get_or, sym, ap, ◌∙◌, arith}
use Rattle.std.proofs.lemmas.List.{length-map}
use Rattle.merkle_tree.proofs.Included.{entry_bound, is_checked}
use Rattle.merkle_tree.specs.Binding.{climb_pairs}
use Rattle.merkle_tree.specs.Climb.{path_sides}
use Rattle.merkle_tree.specs.Tree.{entries_root, inclusion_path, leaf_hash}
use Rattle.merkle_clash.proofs.EntryPairs.{entry_fits}
use Rattle.merkle_clash.proofs.Fitting.{shows}
use Rattle.merkle_clash.specs.Answers.{entry_answer, entry_inputs}
use Rattle.merkle_clash.proofs.laws.entry_shows_a_clash.Goals as goal

pub returns : goal.returns
returns c = record {
  found = λ H sized i a m path wide holds differ.
      let q = map (leaf_hash H) a in
      let o = get_or a i [] in
      let size_q : length q ≡ length a = length-map a (leaf_hash H) in
      let checked = is_checked H i (length a) (leaf_hash H m) (entries_root H a) path holds in
      let inside : i < length q = omega (arith, checked.inside) in
      let size : length path ≡ length (path_sides i (length q)) = checked.size ∙ ap (λ n. length (path_sides i n)) (sym size_q) in
      shows H (entry_answer H q i o m path) (entry_inputs m o ∷ climb_pairs H (leaf_hash H m) (get_or q i []) (path_sides i (length q)) path (inclusion_path H q i))
      (entry_fits H q i o m path inside size)
      (entry_bound H sized i a m path wide holds differ);
}
