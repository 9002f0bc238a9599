use Rattle.std.proofs.Common.{◌∷◌, ℕ, List, None, Some, codes, subst}
use Rattle.std.proofs.lemmas.Bool.Decides.{Decides-eqb}
use Rattle.std.proofs.lemmas.Slice.Eq.{strip_prefix_is}
use Rattle.slh_log_commands.proofs.Beside.{beside_by, is_false, not_below, not_end}
use Rattle.slh_log_commands.proofs.last.is_beside.Goals as goal
use Rattle.slh_log_commands.specs.Writing.{IsBeside}

pub returns-in-None : goal.returns-in-None
returns-in-None c = λ _.
    let folder = c.as_bytes.result.now in
    let path = c.as_bytes-path.result.now in
    let beside : IsBeside folder path = beside_by folder path
    (not_end path (codes ".part") c.ends_with.result c.ends_with.ensures.value c.if-ends_with.false)
    (not_end path (codes ".part_") c.ends_with-else-ends_with.result c.ends_with-else-ends_with.ensures.value c.if-ends_with-2.false)
    (λ name. strip_prefix_is Decides-eqb path folder None c.in-None.ensures.cases (47 ∷ name)) in
    subst (λ (q : List ℕ). IsBeside q c.args.path.now) c.as_bytes.ensures.value
    (subst (IsBeside folder) c.as_bytes-path.ensures.value beside)

pub returns-in-Some : goal.returns-in-Some
returns-in-Some c = λ none.
    let folder = c.as_bytes.result.now in
    let path = c.as_bytes-path.result.now in
    let behind = strip_prefix_is Decides-eqb path folder (Some c.in-Some.rest) c.in-Some.ensures.cases in
    let beside : IsBeside folder path = beside_by folder path
    (not_end path (codes ".part") c.ends_with.result c.ends_with.ensures.value c.if-ends_with.false)
    (not_end path (codes ".part_") c.ends_with-else-ends_with.result c.ends_with-else-ends_with.ensures.value c.if-ends_with-2.false)
    (not_below folder path c.in-Some.rest.now c.starts_with.result behind c.starts_with.ensures.value (is_false c.starts_with.result none)) in
    subst (λ (q : List ℕ). IsBeside q c.args.path.now) c.as_bytes.ensures.value
    (subst (IsBeside folder) c.as_bytes-path.ensures.value beside)
