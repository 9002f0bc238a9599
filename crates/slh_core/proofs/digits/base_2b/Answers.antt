use Rattle.std.proofs.Common.{rules, arith, sym, ◌∙◌, ◌≡◌, ◌+◌, ◌-◌, ◌/◌, ◌%◌, ◌^◌, length, take, add-one, refl}
use Rattle.std.proofs.lemmas.List.{take_all, take_more_set}
use Rattle.slh_core.specs.Bytes.{number_of}
use Rattle.slh_core.specs.Digits.{digit, listed}
use Rattle.slh_core.proofs.DigitSteps.{digits_below, byte_in, digit_out, digits_below, byte_left, digit_small, rest_of}
use Rattle.slh_core.proofs.digits.base_2b.Goals as goal

pub loop-bits-preserved : goal.loop-bits-preserved
loop-bits-preserved c =
    record {
      held = rw (c.loop-bits.invariant.held, c.from.ensures) (byte_in c.args.x.now c.loop-bits.at c.loop-bits.bits
          (byte_left c.args.b c.loop-slot.slot-index (length c.args.out.now) c.loop-bits.at c.loop-bits.bits (length c.args.x.now) c.loop-bits.invariant.place c.loop-bits-test.true c.loop-slot-test.true c.requires.enough)
          (let f = c.type_inv.x c.loop-bits.at in search rules));
      place = omega arith;
      small = omega arith;
    }

-- what is held, by its digit and its rest
held : (c : goal.After-loop-bits) → c.loop-bits.total ≡ number_of (take c.loop-bits.at c.args.x.now) % 2 ^ (c.args.b + (c.loop-bits.bits - c.args.b))
held c = let e : c.args.b + (c.loop-bits.bits - c.args.b) ≡ c.loop-bits.bits = omega arith in rw e c.loop-bits.invariant.held

pub overflow_cast-slot : goal.overflow_cast-slot
overflow_cast-slot c = rw (held c) (let small = digit_small (number_of (take c.loop-bits.at c.args.x.now)) c.args.b (c.loop-bits.bits - c.args.b) c.requires.high in search rules)

pub loop-slot-preserved : goal.loop-slot-preserved
unfolding listed
loop-slot-preserved c =
    let rest = c.loop-bits.bits - c.args.b in
    let out : c.loop-bits.total / 2 ^ rest ≡ digit c.args.x.now c.args.b (length c.args.out.now) c.loop-slot.slot-index =
    rw (held c) (digit_out c.args.x.now c.args.b (length c.args.out.now) c.loop-bits.at c.loop-slot.slot-index rest (λ k. let f = c.type_inv.x k in search rules) c.requires.enough c.loop-slot-test.true (omega arith) (omega arith)) in
    record {
      held = rest_of (number_of (take c.loop-bits.at c.args.x.now)) c.loop-bits.total c.args.b rest (omega arith) (held c);
      place = omega arith;
      small = omega arith;
      done = rw (take_more_set c.loop-slot.out c.loop-slot.slot-index (c.loop-bits.total / 2 ^ rest) (omega arith), c.loop-slot.invariant.done, out, add-one) refl;
    }

pub returns-clause-value : goal.returns-clause-value
returns-clause-value c =
    let last : c.loop-slot.slot-index ≡ length c.args.out.now = omega arith in
    sym (take_all (length c.args.out.now) c.loop-slot.out (omega arith)) ∙ rw last at c.loop-slot.invariant.done

pub returns-clause-below : goal.returns-clause-below
returns-clause-below c = λ i h.
    let last : c.loop-slot.slot-index ≡ length c.args.out.now = omega arith in
    let all = sym (take_all (length c.args.out.now) c.loop-slot.out (omega arith)) ∙ rw last at c.loop-slot.invariant.done in
    rw all (digits_below c.args.x.now c.args.b (length c.args.out.now) i (omega arith))
