use Rattle.std.proofs.Common.{ℕ, List, ◌++◌, ◌∙◌, ap, arith, Some}
use Rattle.hmac_sha256.specs.Wrapped.{StandsFor as WrappedStandsFor}
use Rattle.hmac_sha256.specs.Hash.{StandsFor}
use Rattle.sha256_lanes.specs.Sha256.{sha256}
use Rattle.slh_hash.proofs.CountedHashes.{hashes_grow}
use Rattle.slh_hash.proofs.mgf1.CountedHashesBlockGenU32.fill.Goals as goal

pub returns-clause-gives : goal.returns-clause-gives
returns-clause-gives c =
    let started = c.args.self.now.started in
    let count = c.args.self.now.counter in
    record {
      grows = hashes_grow (WrappedStandsFor (StandsFor started.core) started.held) count c.copy_from_slice.new.self.items.now
          (λ seed stood. c.copy_from_slice.ensures.value ∙ (c.finalize_with.ensures seed stood ∙ ap (λ (b : List ℕ). sha256 (seed ++ b)) c.to_be_bytes.ensures));
      room = ap (λ (n : ℕ). Some n) (omega arith);
    }
