use Rattle.std.proofs.Common.{arith}
use Rattle.std.proofs.lemmas.Grind.{common_steps}
use Rattle.slh_jobs.proofs.evidence.push_evidence.Goals as goal

pub returns-in_err-push_slice-in-ForsNode : goal.returns-in_err-push_slice-in-ForsNode
returns-in_err-push_slice-in-ForsNode c = grind (arith, common_steps)

pub returns-in_err-push_spaced-in-ForsNode : goal.returns-in_err-push_spaced-in-ForsNode
returns-in_err-push_spaced-in-ForsNode c = grind (arith, common_steps)

pub returns-in_err-push_slice-in-ChainStep : goal.returns-in_err-push_slice-in-ChainStep
returns-in_err-push_slice-in-ChainStep c = grind (arith, common_steps)

pub returns-in_err-push_spaced-in-ChainStep : goal.returns-in_err-push_spaced-in-ChainStep
returns-in_err-push_spaced-in-ChainStep c = grind (arith, common_steps)

pub returns-in_err-push_spaced-in-ChainStep-2 : goal.returns-in_err-push_spaced-in-ChainStep-2
returns-in_err-push_spaced-in-ChainStep-2 c = grind (arith, common_steps)

pub returns-in_err-push_slice-in-Leaf : goal.returns-in_err-push_slice-in-Leaf
returns-in_err-push_slice-in-Leaf c = grind (arith, common_steps)

pub returns-in_err-push_slice-in-TreeNode : goal.returns-in_err-push_slice-in-TreeNode
returns-in_err-push_slice-in-TreeNode c = grind (arith, common_steps)

pub returns-in_err-push_spaced-in-TreeNode : goal.returns-in_err-push_spaced-in-TreeNode
returns-in_err-push_spaced-in-TreeNode c = grind (arith, common_steps)

pub returns-in_err-push_slice-in-Early : goal.returns-in_err-push_slice-in-Early
returns-in_err-push_slice-in-Early c = grind (arith, common_steps)

pub returns-in_err-push_spaced-in-Early : goal.returns-in_err-push_spaced-in-Early
returns-in_err-push_spaced-in-Early c = grind (arith, common_steps)

pub returns-in_ok-push_spaced-in-ForsNode : goal.returns-in_ok-push_spaced-in-ForsNode
returns-in_ok-push_spaced-in-ForsNode c = grind (arith, common_steps)

pub returns-in-ForsRoots : goal.returns-in-ForsRoots
returns-in-ForsRoots c = grind (arith, common_steps)

pub returns-in_ok-push_spaced-in-ChainStep-2 : goal.returns-in_ok-push_spaced-in-ChainStep-2
returns-in_ok-push_spaced-in-ChainStep-2 c = grind (arith, common_steps)

pub returns-in_ok-push_slice-in-Leaf : goal.returns-in_ok-push_slice-in-Leaf
returns-in_ok-push_slice-in-Leaf c = grind (arith, common_steps)

pub returns-in_ok-push_spaced-in-TreeNode : goal.returns-in_ok-push_spaced-in-TreeNode
returns-in_ok-push_spaced-in-TreeNode c = grind (arith, common_steps)

pub returns-in_ok-push_spaced-in-Early : goal.returns-in_ok-push_spaced-in-Early
returns-in_ok-push_spaced-in-Early c = grind (arith, common_steps)
