use Rattle.std.proofs.Common.{◌≡◌, ℕ, ◌+◌, ◌<◌, [], length, slice_index_or}
use Rattle.slh_core.specs.Address.{address_bytes, compressed_address, wots_hash_type, wots_prf_type}
use Rattle.slh_hash.proofs.pairs.PairRow.new.Given as goal

-- the heads so far
abbrev pub invariant-loop-k : goal.invariant-loop-k
invariant-loop-k g l =
    let a = l.adrs in
    record {
      size : (length l.secrets ≡ 8) × (length l.steps ≡ 8);
      secrets : (k : ℕ) → k < l.k
          → slice_index_or l.secrets k [] ≡ compressed_address (address_bytes a.layer_adrs a.tree_adrs_low wots_prf_type (a.key_pair_adrs + k) 0 0);
      steps : (k : ℕ) → k < l.k
          → slice_index_or l.steps k [] ≡ compressed_address (address_bytes a.layer_adrs a.tree_adrs_low wots_hash_type (a.key_pair_adrs + k) 0 0);
    }
