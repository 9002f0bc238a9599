use Rattle.std.proofs.Common.{◌≡◌, ℕ, ◌+◌, ◌*◌, ◌<◌, List, ◌++◌, length, take, arith, rules, refl, ap, ◌∙◌, append_assoc, length-append}
use Rattle.std.proofs.lemmas.Grind.{common_steps}
use Rattle.std.proofs.lemmas.List.{take_all}
use Rattle.digest_core.specs.Oid.{base_128, base_128_all}
use Rattle.digest_core.proofs.Decoding.{arcs_of_encoding}
use Rattle.digest_core.proofs.Encoding.{base_128_all_more, length-base_128_all_part}
use Rattle.digest_core.proofs.oid.octets_of.Goals as goal

pub returns-in_err-put_number : goal.returns-in_err-put_number
returns-in_err-put_number c = grind (arith, common_steps)

pub each_arc-preserved : goal.each_arc-preserved
each_arc-preserved c =
    let begun : List ℕ = base_128 (40 * c.args.first + c.args.second) in
    let more = base_128_all_more c.args.rest.now c.each_arc.i (omega arith) in
    let joined = c.in_ok-put_number-2.ensures.value ∙ ap (λ (l : List ℕ). l ++ base_128 c.from-in-each_arc.result) c.each_arc.invariant.value in
    let fits = c.in_ok-put_number-2.ensures.ok.0 refl in
    record {
      value = joined ∙ rw (more, c.from-in-each_arc.ensures) (append_assoc begun _ _);
      fits = rw (c.in_ok-put_number-2.ensures.value, length-append c.each_arc.octets) fits;
    }

pub returns-in_err-put_number-2 : goal.returns-in_err-put_number-2
returns-in_err-put_number-2 c = record {
  ok =
      let begun : List ℕ = base_128 (40 * c.args.first + c.args.second) in
      let before_it : List ℕ = base_128_all (take c.each_arc.i c.args.rest.now) in
      let it : List ℕ = base_128 c.from-in-each_arc.result in
      let more : base_128_all (take (c.each_arc.i + 1) c.args.rest.now) ≡ before_it ++ it
      = rw c.from-in-each_arc.ensures (base_128_all_more c.args.rest.now c.each_arc.i (omega arith)) in
      let part = length-base_128_all_part c.args.rest.now (c.each_arc.i + 1) in
      let whole = length-append begun (base_128_all c.args.rest.now) in
      let held = ap length c.each_arc.invariant.value ∙ length-append begun before_it in
      let long : 39 < length (begun ++ base_128_all c.args.rest.now)
      = omega (arith, ap length more, length-append before_it it, part, whole, held, c.in_err-put_number-2.ensures.long) in
      search rules;
  value = grind (arith, common_steps);
  arcs = grind (arith, common_steps);
  err = grind (arith, common_steps);
}

pub returns : goal.returns
returns c = record {
  ok = grind (arith, common_steps);
  value = grind (arith, common_steps);
  arcs =
      let all : take c.each_arc.i c.args.rest.now ≡ c.args.rest.now = take_all _ _ (omega arith) in
      rw (c.each_arc.invariant.value, all) (arcs_of_encoding c.args.first c.args.second c.args.rest.now c.requires (omega arith) (λ k. let f = c.type_inv.rest k in search rules));
  err = grind (arith, common_steps);
}
