use Rattle.std.proofs.Common.{◌≡◌, ◌<◌, ◌+◌, ◌*◌, length, arith, sym}
use Rattle.slh_core.proofs.ActiveLists.{count-active, count_below-le, room_for, values_entered, active_entered, active_next, active_passed}
use Rattle.slh_core.proofs.active_chains.ActiveChains.enter.Goals.{then-digit-q, else-digit-q}
use Rattle.slh_core.proofs.active_chains.ActiveChains.enter.Goals as goal

pub take_in-requires-clause-room : goal.take_in-requires-clause-room
take_in-requires-clause-room c =
    omega (arith, c.loop-c.invariant.active.counted, room_for c.args.q c.loop-c.c c.args.digits.now (omega (arith, c.loop-c-test.true)) c.if-digit-q.true, c.requires.few)

pub loop-c-preserved : goal.loop-c-preserved
loop-c-preserved c =
    let digits = c.args.digits.now in
    let q = c.args.q in
    let at = c.loop-c.c in
    let active = c.loop-c.self in
    let i = c.loop-c.invariant in
    elim c.if-digit-q.branch [
      | then-digit-q w ↦
          let next = w.take_in.new.self in
          let e = w.take_in.ensures in
          let room = room_for q at digits (omega (arith, c.loop-c-test.true)) w.if-digit-q.true in
          let fits : active.count < length active.numbers = omega (arith, i.active.counted, room, c.requires.few, i.active.numbers_len) in
          let space : at < length active.places = omega (arith, c.requires.few, i.active.places_len) in
          let end : at * c.args.n + c.args.n ≡ (at + 1) * c.args.n = omega arith in
          record {
            active = rw w.self-is (active_entered digits q at active next i.active (omega (arith, c.loop-c-test.true)) w.if-digit-q.true fits space e.count e.numbers e.places);
            values = rw (w.self-is, w.values-is) (λ value fresh held.
                values_entered value c.args.n at active next c.loop-c.values w.take_in.new.values _ e.count fits e.numbers e.values (rw end (sym (fresh at w.if-digit-q.true))) (i.values value fresh held));
          }
      | else-digit-q w ↦ record {
        active = rw w.self-is (active_passed digits q at active i.active (omega (arith, c.loop-c-test.true)) w.if-digit-q.false);
        values = rw (w.self-is, w.values-is) i.values;
      }
    ]

pub returns-clause-active : goal.returns-clause-active
returns-clause-active c =
    active_next c.args.digits.now c.args.q c.loop-c.c c.loop-c.self (omega (arith, c.loop-c.auto.c-end)) c.loop-c.invariant.active

pub returns-clause-counted : goal.returns-clause-counted
returns-clause-counted c =
    count-active c.args.digits.now (c.args.q + 1) c.loop-c.self
    (active_next c.args.digits.now c.args.q c.loop-c.c c.loop-c.self (omega (arith, c.loop-c.auto.c-end)) c.loop-c.invariant.active)

pub returns-clause-few : goal.returns-clause-few
returns-clause-few c =
    omega (
      arith,
      count_below-le (c.args.q + 1) c.args.digits.now,
      count-active c.args.digits.now (c.args.q + 1) c.loop-c.self
          (active_next c.args.digits.now c.args.q c.loop-c.c c.loop-c.self (omega (arith, c.loop-c.auto.c-end)) c.loop-c.invariant.active),
    )
