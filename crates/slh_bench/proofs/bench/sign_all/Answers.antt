use Rattle.std.proofs.lemmas.Grind.{common_steps}
use Rattle.std.proofs.Common.{◌*◌, ◌^◌, ◌≤◌, refl, arith, true, false}
use Rattle.std.proofs.lemmas.Nat.{mul-le}
use Rattle.slh_core.specs.Bytes.{joined}
use Rattle.slh_bench.specs.Bench.{accepted_count}
use Rattle.slh_bench.proofs.Signing.{counted_more, hashed_more}
use Rattle.slh_trees.specs.Checking.{signature_size}
use Rattle.slh_bench.proofs.bench.sign_all.Goals as goal
use Rattle.slh_bench.proofs.bench.sign_all.Goals.{then-sign_one, else-sign_one}

pub loop-i-init : goal.loop-i-init
unfolding joined accepted_count
loop-i-init g c = record { hashed = c.new-hash.ensures.empty; absorbed = omega (arith, c.new-hash.ensures.none); counted = refl; few = omega arith }

pub update-requires : goal.update-requires
update-requires g c =
    let size = signature_size g.P.ForsSizes.scheme in
    let many : c.loop-i.i * size ≤ 64 * 2 ^ 18 = mul-le c.loop-i.i size 64 (2 ^ 18) (omega arith) c.signature_bound.ensures in
    omega arith

pub loop-i-preserved : goal.loop-i-preserved
loop-i-preserved g c =
    let Z = g.P.ForsSizes.scheme in
    let prk = c.args.prk.now in
    let i = c.loop-i.i in
    let before = c.loop-i.invariant in
    record {
      hashed = hashed_more Z prk i _ _ _ c.sign_one.ensures.signature c.update.ensures.joins before.hashed;
      absorbed = omega arith;
      counted = elim c.if-sign_one.branch [
        | then-sign_one w ↦ counted_more Z prk i c.loop-i.accepted c.if-sign_one.accepted _ true w.if-sign_one.true c.sign_one.ensures.accepted before.counted (omega arith)
        | else-sign_one w ↦ counted_more Z prk i c.loop-i.accepted c.if-sign_one.accepted _ false w.if-sign_one.false c.sign_one.ensures.accepted before.counted (omega arith)
      ];
      few = elim c.if-sign_one.branch [ then-sign_one w ↦ omega arith | else-sign_one w ↦ omega arith ];
    }

pub sign_one-requires : goal.sign_one-requires
sign_one-requires g c = grind (arith, common_steps)

pub returns : goal.returns
returns g c = grind (arith, common_steps)
