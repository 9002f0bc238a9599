-- A path has at most 20 digests.
use Rattle.std.proofs.Common.{ℕ, ◌^◌, ◌<◌, ◌≤◌, List, length, ap, arith}
use Rattle.merkle_tree.proofs.Included.{path_length}
use Rattle.merkle_tree.proofs.Ways.{enough, length-sides, sides_any}
use Rattle.sha256_lanes.specs.Sha256.{sha256}
use Rattle.slh_batch.specs.Tree.{batch_path}

pub path_few : (q : List (List ℕ)) (i : ℕ) → i < length q → length q ≤ 2 ^ 20 → length (batch_path q i) ≤ 20
path_few q i inside few =
    let n = length q in
    omega (arith, path_length sha256 i q inside, ap length (sides_any n 20 i n (enough n) few), length-sides 20 i n)
