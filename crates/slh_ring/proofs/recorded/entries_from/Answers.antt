use Rattle.std.proofs.Common.{◌≡◌, ◌-◌, ◌<◌, ◌∙◌, ap, sym, arith}
use Rattle.std.specs.Prelude.{slice_get}
use Rattle.slh_ring.proofs.Got.{got_first, got_next}
use Rattle.slh_ring.proofs.Scans.{has_next, next_scan, scan_start}
use Rattle.slh_ring.specs.Records.{entries_in}
use Rattle.slh_ring.proofs.recorded.entries_from.Goals as goal

pub loop-k-init : goal.loop-k-init
loop-k-init c =
    let whole : c.args.count ≡ c.args.count - 0 = omega arith in
    let place : c.args.i ≡ c.args.i - 0 = omega arith in
    record {
      scan = scan_start c.args.count (c.args.count - 0) c.args.bytes.now c.requires.form (sym whole);
      same = ap (λ n. slice_get (entries_in n c.args.bytes.now) c.args.i) whole ∙ ap (slice_get (entries_in (c.args.count - 0) c.args.bytes.now)) place;
    }

pub entry_of-requires : goal.entry_of-requires
entry_of-requires c =
    let more : c.loop-k.k < c.args.count = omega (arith, c.loop-k-test.true, c.requires.inside) in
    has_next c.args.count c.loop-k.k c.loop-k.rest.now more c.loop-k.invariant.scan

pub loop-k-preserved : goal.loop-k-preserved
loop-k-preserved c =
    let more : c.loop-k.k < c.args.count = omega (arith, c.loop-k-test.true, c.requires.inside) in
    let after = c.entry_of.result.rest.now in
    record {
      scan = next_scan c.args.count c.loop-k.k c.loop-k.rest.now after more c.loop-k.invariant.scan c.entry_of.ensures.rest;
      same = c.loop-k.invariant.same ∙ got_next c.args.count c.loop-k.k c.args.i c.loop-k.rest.now after more c.loop-k-test.true c.entry_of.ensures.rest;
    }

pub returns-clause-entry : goal.returns-clause-entry
returns-clause-entry c =
    c.loop-k.invariant.same ∙ got_first c.args.count c.loop-k.k c.args.i c.loop-k.rest.now (omega (arith, c.loop-k-test.false, c.requires.inside)) (omega (arith, c.loop-k-test.false))

pub returns-clause-form : goal.returns-clause-form
returns-clause-form c = has_next c.args.count c.loop-k.k c.loop-k.rest.now (omega (arith, c.loop-k-test.false, c.requires.inside)) c.loop-k.invariant.scan
