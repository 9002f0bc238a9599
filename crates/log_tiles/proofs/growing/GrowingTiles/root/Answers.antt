use Rattle.std.proofs.Common.{◌≡◌, ℕ, ◌+◌, ◌/◌, ◌%◌, ◌^◌, ◌<◌, List, length, Option, Some, None, sym, ap, subst, ◌∙◌, arith}
use Rattle.log_tiles.proofs.Bits.{IsRest, below_64, half_runs, rest_even, rest_none, rest_odd, rest_some}
use Rattle.log_tiles.specs.Tiles.{Tiles}
use Rattle.log_tiles.proofs.growing.GrowingTiles.root.Goals as goal
use Rattle.log_tiles.proofs.growing.GrowingTiles.root.Goals.{then-left-eq1+in-Some, then-left-eq1+in-None, else-left-eq1}

pub each_bit-preserved : goal.each_bit-preserved
each_bit-preserved g c =
    let H = g.H.TreeHash.hash in
    let l = c.each_bit in
    let count : c.self.inside.count ≡ c.args.self.now.count = ap (λ (t : Tiles). t.count) c.self.view_is in
    let few : c.args.self.now.count < 2 ^ 64 = omega (arith, count) in
    let low : l.height < 64 = below_64 c.args.self.now.count l.height l.left few l.invariant.left c.each_bit-test.true in
    record {
      left = half_runs c.args.self.now.count l.height l.left l.invariant.left;
      high = omega (arith, low);
      rest = λ q are.
          let is : l.left ≡ length q / 2 ^ l.height = l.invariant.left ∙ ap (λ n. n / 2 ^ l.height) are.count in
          let so_far = l.invariant.rest q are in
          elim c.if-left-eq1.branch [
            | then-left-eq1+in-Some w ↦
                let was : IsRest H q l.height (Some w.in-Some.rest) = subst (λ (o : Option (List ℕ)). IsRest H q l.height o) w.in-Some.is so_far in
                let now = rest_odd H q l.height l.left w.last_run-run.result (Some w.in-Some.rest) is w.if-left-eq1.true (w.last_run-run.ensures q are) was in
                subst (λ (o : Option (List ℕ)). IsRest H q (l.height + 1) o) (ap Some (sym w.node.ensures) ∙ sym w.rest-is) now
            | then-left-eq1+in-None w ↦
                let was : IsRest H q l.height None = subst (λ (o : Option (List ℕ)). IsRest H q l.height o) w.in-None.is so_far in
                let now = rest_odd H q l.height l.left w.last_run-run.result None is w.if-left-eq1.true (w.last_run-run.ensures q are) was in
                subst (λ (o : Option (List ℕ)). IsRest H q (l.height + 1) o) (sym w.rest-is) now
            | else-left-eq1 w ↦
                let even : l.left % 2 ≡ 0 = omega (arith, w.if-left-eq1.false) in
                subst (λ (o : Option (List ℕ)). IsRest H q (l.height + 1) o) (sym w.rest-is) (rest_even H q l.height l.left l.rest is even so_far)
          ];
    }

pub returns-in-Some-rest : goal.returns-in-Some-rest
returns-in-Some-rest g c = λ q are.
    let l = c.each_bit in
    let none : 0 ≡ length q / 2 ^ l.height = omega (arith, c.each_bit-test.false, l.invariant.left, ap (λ n. n / 2 ^ l.height) are.count) in
    rest_some g.H.TreeHash.hash q l.height c.in-Some-rest.root none (subst (λ (o : Option (List ℕ)). IsRest g.H.TreeHash.hash q l.height o) c.in-Some-rest.is (l.invariant.rest q are))

pub returns-in-None-rest : goal.returns-in-None-rest
returns-in-None-rest g c = λ q are.
    let l = c.each_bit in
    let none : 0 ≡ length q / 2 ^ l.height = omega (arith, c.each_bit-test.false, l.invariant.left, ap (λ n. n / 2 ^ l.height) are.count) in
    c.empty.ensures ∙ rest_none g.H.TreeHash.hash q l.height none (subst (λ (o : Option (List ℕ)). IsRest g.H.TreeHash.hash q l.height o) c.in-None-rest.is (l.invariant.rest q are))
