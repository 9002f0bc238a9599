use Rattle.std.proofs.Common.{◌-◌, ◌%◌, ◌≤◌, ◌∙◌, length, arith}
use Rattle.std.proofs.lemmas.List.{take-replicate}
use Rattle.aes.specs.Cbc.{padded}
use Rattle.aes.proofs.Adding.{joined_same}
use Rattle.aes.proofs.cbc.padded.Goals as goal

pub returns-clause-value : goal.returns-clause-value
unfolding padded
returns-clause-value c =
    let count = 16 - length c.args.message.now % 16 in
    let most : count ≤ 16 = omega arith in
    c.in_ok-extend_from_slice.ensures.items ∙ joined_same c.in_ok-whole.ensures.items (take-replicate count 16 count most)
