use Rattle.std.proofs.Common.{◌≡◌, ◌^◌, ◌-◌, suc, ap, ◌∙◌, arith}
use Rattle.std.proofs.Math.Nat.{pow-suc}
use Rattle.merkle_clash.proofs.inputs.front_len.Goals as goal

pub returns-clause-twice : goal.returns-clause-twice
returns-clause-twice c =
    let h = c.args.height in
    let tall : h ≡ suc (h - 1) = omega (arith, c.requires.some) in
    ap (λ n. 2 ^ n) tall ∙ pow-suc 2 (h - 1) ∙ omega (arith, c.pow.ensures)
