use Rattle.std.proofs.Common.{◌≡◌, ℕ, List, length, Some, None, sym, ◌∙◌, subst}
use Rattle.merkle_tree.specs.Tree.{entries_root}
use Rattle.sha256_lanes.specs.Sha256.{sha256}
use Rattle.slh_log.proofs.Taken.{present_binds, steps_bind}
use Rattle.slh_log.specs.Calls.{presence_refusal}
use Rattle.slh_log.proofs.laws.heads_bind.Goals as goal

one_number : (a b : ℕ) → Some a ≡ Some b → a ≡ b
one_number a b is = cc is

one_list : (a b : List ℕ) → Some a ≡ Some b → a ≡ b
one_list a b is = cc is

pub returns-clause-grown : goal.returns-clause-grown
returns-clause-grown g c = λ key origin bytes entries steps head taken differ.
    steps_bind g.P.ForsSizes.scheme g.P.SetSizes.set_name key origin entries steps taken differ

pub returns-clause-present : goal.returns-clause-present
returns-clause-present g c = λ key origin bytes root entry entries path size i head opened wide passes differ.
    let size_is : size ≡ length entries = one_number size (length entries) (sym opened.is_size ∙ head.is_size) in
    let root_is : root ≡ entries_root sha256 entries = one_list root (entries_root sha256 entries) (sym opened.is_root ∙ head.is_root) in
    let passed : presence_refusal (length entries) (entries_root sha256 entries) i entry path ≡ None =
    subst (λ n. presence_refusal n (entries_root sha256 entries) i entry path ≡ None) size_is
    (subst (λ r. presence_refusal size r i entry path ≡ None) root_is passes) in
    present_binds entries i entry path wide passed differ
