-- How long signatures are.
use Rattle.std.proofs.Common.{ℕ, ◌+◌, ◌*◌, ◌^◌, ◌≤◌, arith}
use Rattle.std.proofs.lemmas.Nat.{mul-le}
use Rattle.slh_core.specs.Parameters.{chain_count}
use Rattle.slh_merkle.specs.Checking.{forest_size}
use Rattle.slh_merkle.specs.Hypertree.{layer_size}

-- no signature, with an id before it, has more bytes
pub signature_small : (n hp d a k : ℕ) → n ≤ 32 → hp ≤ 31 → d ≤ 65 → a ≤ 16 → k ≤ 64 → n + forest_size n k a + d * layer_size n hp + 4 ≤ 2 ^ 18
signature_small n hp d a k n_high height few_layers bits trees =
    let opened : (1 + a) * n ≤ 17 * 32 = mul-le (1 + a) n 17 32 (omega arith) (omega arith) in
    let forest : k * ((1 + a) * n) ≤ 64 * (17 * 32) = mul-le k ((1 + a) * n) 64 (17 * 32) trees opened in
    let layer : (chain_count n + hp) * n ≤ 98 * 32 = mul-le (chain_count n + hp) n 98 32 (omega arith) (omega arith) in
    let layers : d * ((chain_count n + hp) * n) ≤ 65 * (98 * 32) = mul-le d ((chain_count n + hp) * n) 65 (98 * 32) few_layers layer in
    omega arith
