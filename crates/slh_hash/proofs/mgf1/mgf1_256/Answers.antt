use Rattle.std.proofs.Common.{◌≡◌, ℕ, ◌-◌, ◌∷◌, length, ◌∙◌, ap, arith}
use Rattle.hmac_sha256.specs.Gen.{blocks_for}
use Rattle.hmac_sha256.specs.Wrapped.{StandsFor as WrappedStandsFor}
use Rattle.hmac_sha256.specs.Hash.{StandsFor}
use Rattle.slh_hash.proofs.CountedHashes.{few_blocks, given_count, hashes, none_given, of_one_seed, read_hashes}
use Rattle.slh_hash.specs.Sha2.{mgf1_sha256}
use Rattle.slh_hash.proofs.mgf1.mgf1_256.Goals as goal

pub returns : goal.returns
returns c =
    let seed = c.args.seed.now in
    let out = c.read.new.out in
    let started = c.new-hashes.result.started in
    let count = c.read.new.generator.counter in
    let whole : length out - 0 ≡ length out = omega arith in
    let reads = rw (c.default.ensures, c.new-hashes.ensures.none) at c.read.ensures in
    let before = none_given (WrappedStandsFor (StandsFor started.core) started.held) seed c.new-hashes.ensures.stands in
    let len : length out ≡ length c.args.out.now = c.read.auto.out in
    let few = few_blocks (length out) (omega (arith, len, c.requires.room)) in
    let counted = given_count count (blocks_for 32 (length out)) few.0 (rw whole at reads.gives.room) in
    let of_seed = of_one_seed _ count seed reads.given (reads.gives.grows (length seed ∷ seed) before) in
    let all = of_seed ∙ ap (λ (k : ℕ). hashes seed k) (counted ∙ few.1) in
    read_hashes seed out _ reads.given reads.joined all ∙ ap (λ (k : ℕ). mgf1_sha256 seed k) len
