use Rattle.std.proofs.Common.{◌≡◌, ℕ, List, ◌+◌, ◌*◌, ◌++◌, take}
use Rattle.slh_core.specs.Address.{address_bytes, compressed_address, wots_pk_type}
use Rattle.slh_core.specs.Bytes.{joined, part}
use Rattle.slh_hash.proofs.messages.put_messages.Given as goal

-- the messages so far
abbrev pub invariant-loop-k : goal.invariant-loop-k
invariant-loop-k g l =
    let a = l.adrs in
    let at : ℕ → List ℕ = λ k. address_bytes a.layer_adrs a.tree_adrs_low wots_pk_type (a.key_pair_adrs + k) 0 0 in
    let all : ℕ → List ℕ = λ k. joined (λ c. part l.n l.ends (8 * c + k)) l.count in
    take (l.k * l.len) l.out ≡ joined (λ k. compressed_address (at (l.first + k)) ++ all (l.first + k)) l.k
