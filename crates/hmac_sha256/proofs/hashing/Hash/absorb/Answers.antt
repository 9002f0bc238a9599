use Rattle.std.proofs.Common.{arith, length, refl, sym}
use Rattle.std.proofs.lemmas.List.{take_at}
use Rattle.hmac_sha256.proofs.Absorbing.{StandsFor_full, StandsFor_short}
use Rattle.hmac_sha256.proofs.hashing.Hash.absorb.Goals as goal

pub returns-then-input-room-clause-joins : goal.returns-then-input-room-clause-joins
returns-then-input-room-clause-joins g c = λ m held.
    StandsFor_short c.args.self.now _ m c.args.input.now _ _ _ held (omega arith) refl (omega arith) c.copy_from_slice.ensures.after refl refl refl

pub returns-clause-joins : goal.returns-clause-joins
returns-clause-joins g c = λ m held.
    let all = c.split_at.ensures in
    let parts = c.split_at-2.ensures in
    let rest = c.split_at-2.result.1.now in
    StandsFor_full c.args.self.now _ m c.args.input.now c.split_at.result.0.now c.split_at.result.1.now
    c.copy_from_slice-2.new.self _ c.split_at-2.result.0.now rest _ held (omega arith) refl (omega arith)
    all.front all.back c.copy_from_slice-2.ensures.after refl (sym parts.by_index.0) parts.front_len
    (rw c.compress.ensures at c.take_blocks.ensures) (rw c.copy_from_slice-3.ensures.after (take_at rest _ (length rest) refl)) refl
