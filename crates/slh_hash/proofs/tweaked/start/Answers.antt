use Rattle.std.proofs.Common.{◌≡◌, ◌+◌, List, ℕ, arith, length, subst}
use Rattle.hmac_sha256.specs.Hash.{StandsFor, absorbed_bytes}
use Rattle.slh_hash.proofs.Started.{core_stands, nothing_held}
use Rattle.slh_hash.specs.Sha2.{seed_block}
use Rattle.slh_hash.proofs.tweaked.start.Goals as goal

pub invariant_of-result-clause-stands : goal.invariant_of-result-clause-stands
invariant_of-result-clause-stands g c =
    let last = c.update.new.self in
    let total : absorbed_bytes last.core + length last.held ≡ 64
    = omega (arith, c.update.ensures.counts, c.from_core-started.ensures.counts) in
    let none = nothing_held (absorbed_bytes last.core) last.held total c.core-core.ensures.whole c.core-core.ensures.short in
    let all = c.update.ensures.absorbs.grows _ c.from_core-started.ensures.stands in
    let block : c.block_of-block.result ≡ seed_block 64 g.N.ArraySize.USIZE c.copy.result = rw c.copy.ensures c.block_of-block.ensures in
    subst (λ (m : List ℕ). StandsFor last.core m) block (core_stands _ _ _ none all)
