use Rattle.std.proofs.Common.{◌≡◌, ◌≤◌, ◌+◌, ◌-◌, ◌*◌, drop, length, slice_index, take}
use Rattle.slh_core.specs.Bytes.{joined, part}
use Rattle.slh_hash.specs.Sha2.{tweaked_hash_256}
use Rattle.slh_hash.proofs.rows_256.hash_each.Given as goal

-- the hashes so far, the values that are left, and the steps
abbrev pub invariant-loop-done : goal.invariant-loop-done
invariant-loop-done g l =
    let n = g.N.ArraySize.USIZE in
    record {
      hashes : take (l.done * n) l.values ≡ joined (λ i. tweaked_hash_256 n l.keyed.pk_seed (g.A.RowAddress.numbered l.adrs (slice_index l.numbers i)) (part n l.initial.values i)) l.done;
      rest : drop (l.done * n) l.values ≡ drop (l.done * n) l.initial.values;
      within : l.done ≤ length l.numbers;
      cost : l.steps ≡ l.initial.steps + l.done;
    }

abbrev pub decreases-loop-done : goal.decreases-loop-done
decreases-loop-done g l = length l.numbers - l.done
