use Rattle.std.proofs.Common.{◌≡◌, ◌≤◌, ◌+◌, ◌-◌, ◌*◌, length, slice_index, take}
use Rattle.slh_core.specs.Bytes.{joined, part}
use Rattle.slh_hash.specs.Sha2.{tweaked_hash_512}
use Rattle.slh_hash.proofs.rows_512.hash_pairs_512.Given as goal

-- the hashes so far, and the steps
abbrev pub invariant-loop-done : goal.invariant-loop-done
invariant-loop-done g l =
    let n = g.N.ArraySize.USIZE in
    record {
      hashes : take (l.done * n) l.out ≡ joined (λ i. tweaked_hash_512 n l.keyed.keyed.pk_seed (g.A.RowAddress.numbered l.adrs (slice_index l.numbers i)) (part (2 * n) l.pairs i)) l.done;
      within : l.done ≤ length l.numbers;
      cost : l.steps ≡ l.initial.steps + l.done;
    }

abbrev pub decreases-loop-done : goal.decreases-loop-done
decreases-loop-done g l = length l.numbers - l.done
