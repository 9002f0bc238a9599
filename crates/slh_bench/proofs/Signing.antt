-- The signatures of a bench, one after the other.
use Rattle.std.proofs.Common.{◌≡◌, ℕ, ◌+◌, ◌*◌, ◌^◌, ◌≤◌, List, ◌++◌, refl, ap, sym, ◌∙◌, subst, add-one, arith, Bool, if◌then◌else◌}
use Rattle.std.proofs.lemmas.Nat.{mul-le}
use Rattle.hmac_sha256.specs.Hash.{StandsFor}
use Rattle.hmac_sha256.specs.declared.hashing.Hash.{Hash}
use Rattle.slh_core.proofs.Joins.{joined_more}
use Rattle.slh_core.specs.Bytes.{joined}
use Rattle.slh_core.specs.Parameters.{Scheme, chain_count}
use Rattle.slh_merkle.specs.Checking.{forest_size}
use Rattle.slh_merkle.specs.Hypertree.{layer_size}
use Rattle.slh_bench.specs.Bench.{accepted_count, bench_accepts, bench_signature, bench_signatures}

-- no signature has more bytes
pub signature_small : (n hp d a k : ℕ) → n ≤ 32 → hp ≤ 31 → d ≤ 65 → a ≤ 16 → k ≤ 64 → n + forest_size n k a + d * layer_size n hp ≤ 2 ^ 18
signature_small n hp d a k n_high height few_layers bits trees =
    let opened : (1 + a) * n ≤ 17 * 32 = mul-le (1 + a) n 17 32 (omega arith) (omega arith) in
    let forest : k * ((1 + a) * n) ≤ 64 * (17 * 32) = mul-le k ((1 + a) * n) 64 (17 * 32) trees opened in
    let layer : (chain_count n + hp) * n ≤ 98 * 32 = mul-le (chain_count n + hp) n 98 32 (omega arith) (omega arith) in
    let layers : d * ((chain_count n + hp) * n) ≤ 65 * (98 * 32) = mul-le d ((chain_count n + hp) * n) 65 (98 * 32) few_layers layer in
    omega arith

-- one more of them is hashed
pub hashed_more : (Z : Scheme) (prk : List ℕ) (i : ℕ) (old new : Hash) (signature : List ℕ) → signature ≡ bench_signature Z prk i
    → ((m : List ℕ) → StandsFor old m → StandsFor new (m ++ signature)) → StandsFor old (bench_signatures Z prk i) → StandsFor new (bench_signatures Z prk (i + 1))
hashed_more Z prk i old new signature is joins before =
    let signatures : ℕ → List ℕ = λ j. bench_signature Z prk j in
    let whole : joined signatures i ++ signature ≡ joined signatures (i + 1) = ap (λ l. joined signatures i ++ l) is ∙ sym (joined_more signatures i) in
    subst (λ (m : List ℕ). StandsFor new m) whole (joins (joined signatures i) before)

-- and counted, where it is accepted
pub counted_more : (Z : Scheme) (prk : List ℕ) (i old new : ℕ) (result valid : Bool) → result ≡ valid → result ≡ bench_accepts Z prk i → old ≡ accepted_count Z prk i
    → new ≡ old + (if valid then 1 else 0) → new ≡ accepted_count Z prk (i + 1)
unfolding accepted_count
counted_more Z prk i old new result valid was is before more =
    let found : valid ≡ bench_accepts Z prk i = sym was ∙ is in
    more ∙ rw (before, found, add-one i) refl
