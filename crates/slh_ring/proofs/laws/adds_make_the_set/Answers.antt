use Rattle.std.proofs.Common.{[], ◌∙◌}
use Rattle.std.proofs.lemmas.Map.Text.{is_eq-slice_cmp}
use Rattle.std.proofs.lemmas.Slice.Eq.{bytes_eq-Decides}
use Rattle.slh_ring.proofs.Adds.{empty_ring, members_with, or_none, set_of}
use Rattle.slh_ring.proofs.laws.adds_make_the_set.Goals as goal

pub returns-clause-ring : goal.returns-clause-ring
returns-clause-ring c = λ adds each. (set_of adds [] each empty_ring).ring

pub returns-clause-members : goal.returns-clause-members
returns-clause-members c = λ adds q each. (set_of adds [] each empty_ring).members q ∙ or_none _

pub returns-clause-one : goal.returns-clause-one
returns-clause-one c = λ q path paths. members_with q path paths

pub returns-clause-same : goal.returns-clause-same
returns-clause-same c = λ p q. rw (is_eq-slice_cmp p q) (bytes_eq-Decides p q)
