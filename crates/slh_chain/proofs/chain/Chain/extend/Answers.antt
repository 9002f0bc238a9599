use Rattle.std.proofs.Common.{arith, ◌≤◌, ◌∙◌, sym}
use Rattle.std.specs.Option.{option_copied}
use Rattle.slh_chain.proofs.Stands.{never_depth}
use Rattle.slh_chain.proofs.chain.Chain.extend.Goals as goal

pub unreachable-requires : goal.unreachable-requires
unreachable-requires g c =
    let low : c.args.depth ≤ 15 = omega (arith, c.if-depth-self.false, c.self.invariant.budget_fits) in
    never_depth g.P.ForsSizes.scheme c.args.name.now c.args.depth (option_copied c.args.opt_rand) low (sym c.in-Err-Depth.field-0-is ∙ c.in-Err-Depth.ensures.refusal)
