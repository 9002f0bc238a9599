use Rattle.std.proofs.Common.{◌-◌, length, drop, ap, ◌∙◌, arith, length-drop}
use Rattle.std.proofs.lemmas.List.{take_all}
use Rattle.merkle_tree.proofs.Included.{path_length}
use Rattle.merkle_clash.proofs.inclusion.inclusion_clash.Goals as goal

pub paths_clash-requires-clause-path_y : goal.paths_clash-requires-clause-path_y
paths_clash-requires-clause-path_y g c =
    let own = c.put_path-start.new.path in
    let start = c.put_path-start.result in
    ap length (take_all (64 - start) (drop start own) (omega (arith, length-drop start own)) ∙ c.put_path-start.ensures.path)
    ∙ path_length g.H.TreeHash.hash c.args.index c.args.digests.now c.if-index-digests.false
