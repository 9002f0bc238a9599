-- Bytes at the front of zeros, and the byte that begins their padding.
use Rattle.std.proofs.Common.{◌≡◌, ℕ, suc, ◌+◌, ◌-◌, ◌<◌, ◌≤◌, List, ◌∷◌, ◌++◌, length, take}
use Rattle.std.proofs.Common.{replicate, slice_set, refl, ap, ◌∙◌, arith}
use Rattle.std.proofs.lemmas.List.{take-replicate}
use Rattle.std.proofs.Math.Seq.{set-append_seam, take-append-add}

pub joined_same : (a b c d : List ℕ) → a ≡ c → b ≡ d → a ++ b ≡ c ++ d
joined_same a b c d front back = rw (front, back) refl

-- the byte after the last of them, of n in all
pub ended_is : (n : ℕ) (bytes whole : List ℕ) (v : ℕ)
    → whole ≡ bytes ++ replicate (n - length bytes) 0 → length bytes < n
    → slice_set whole (length bytes) v ≡ bytes ++ v ∷ replicate (n - 1 - length bytes) 0
ended_is n bytes whole v padded short =
    let count : n - length bytes ≡ suc (n - 1 - length bytes) = omega arith in
    rw (padded, count) (set-append_seam bytes 0 (replicate (n - 1 - length bytes) 0) v)

-- the first k of them all
pub take_ended : (k zeros : ℕ) (bytes : List ℕ) (v : ℕ)
    → length bytes < k → k ≤ length bytes + suc zeros
    → take k (bytes ++ v ∷ replicate zeros 0) ≡ bytes ++ v ∷ replicate (k - 1 - length bytes) 0
take_ended k zeros bytes v short long =
    let left : ℕ = k - 1 - length bytes in
    let place : k ≡ length bytes + suc left = omega arith in
    ap (λ (j : ℕ). take j (bytes ++ v ∷ replicate zeros 0)) place
    ∙ take-append-add bytes (v ∷ replicate zeros 0) (suc left)
    ∙ ap (λ (z : List ℕ). bytes ++ v ∷ z) (take-replicate left zeros 0 (omega arith))
