use Rattle.std.proofs.Common.{◌∙◌, ap, sym, List, ℕ, [], arith, below_more, rules, slice_index_or}
use Rattle.std.proofs.lemmas.Grind.{common_steps}
use Rattle.std.proofs.lemmas.List.{ext_get_or, get_or-map, get_or-set_same, get_or-set_other, length-map}
use Rattle.sha256_lanes.specs.Sha256.{compress}
use Rattle.sha256_lanes.proofs.compression.compress_each.Goals as goal

pub rows-init : goal.rows-init
rows-init g c = grind (arith, common_steps)

pub rows-preserved : goal.rows-preserved
rows-preserved g c =
    let j = c.rows.j in
    let b = slice_index_or c.args.blocks.now j [] in
    let one = c.row.ensures ∙ c.compressed-end.ensures j (omega arith) b (c.window_of.ensures j (omega arith)) ∙ ap (λ (s : List ℕ). compress s b) (c.spread.ensures j (omega arith)) in (
      search rules,
      below_more _ _
          (λ m earlier. get_or-set_other c.rows.rows j m c.row.result [] (omega arith) ∙ c.rows.invariant.1 m earlier)
          (get_or-set_same c.rows.rows j c.row.result [] (omega arith) ∙ one),
    )

pub returns : goal.returns
returns g c =
    let f = compress c.args.state.now in
    let blocks = c.args.blocks.now in
    ext_get_or [] c.rows.rows _ (omega (arith, length-map blocks f)) (λ m low.
    c.rows.invariant.1 m (omega arith) ∙ sym (get_or-map f blocks m [] [] (omega arith)))
