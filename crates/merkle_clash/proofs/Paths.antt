-- How a path is put from its top on.
use Rattle.std.proofs.Common.{◌≡◌, ℕ, suc, ◌+◌, ◌-◌, ◌^◌, ◌<◌, ◌≤◌, List, [], ◌∷◌, ◌++◌, length, take, drop, refl, ap, ◌∙◌, arith, append_assoc}
use Rattle.std.proofs.Math.ListN.{set}
use Rattle.std.proofs.lemmas.List.{drop-set}
use Rattle.merkle_tree.proofs.Splits.{path_front, path_low, path_rest}
use Rattle.merkle_tree.specs.Tree.{path_within, tree_within}
use Rattle.merkle_tree.specs.Hashes.{HashFunction}

put_before : (own : List (List ℕ)) (start : ℕ) (t : List ℕ) → 0 < start → start ≤ length own → drop (start - 1) (set own (start - 1) t) ≡ t ∷ drop start own
put_before own start t some room =
    let next : start - 1 + 1 ≡ start = omega arith in
    drop-set own (start - 1) t (omega arith) ∙ ap (λ k. t ∷ drop k own) next

pub front_put : (H : HashFunction) (h z : ℕ) (part own : List (List ℕ)) (at start : ℕ) (t : List ℕ) → h ≡ suc z → at < 2 ^ z → 2 ^ z < length part → 0 < start → start ≤ length own
    → t ≡ tree_within H z (drop (2 ^ z) part)
    → path_within H z (take (2 ^ z) part) at ++ drop (start - 1) (set own (start - 1) t) ≡ path_within H h part at ++ drop start own
front_put H h z part own at start t e inside high some room root =
    rw (e, path_front H z part at high inside, put_before own start t some room, append_assoc, root) refl

pub rest_put : (H : HashFunction) (h z : ℕ) (part own : List (List ℕ)) (at start : ℕ) (t : List ℕ) → h ≡ suc z → 2 ^ z ≤ at → 2 ^ z < length part → 0 < start → start ≤ length own
    → t ≡ tree_within H z (take (2 ^ z) part)
    → path_within H z (drop (2 ^ z) part) (at - 2 ^ z) ++ drop (start - 1) (set own (start - 1) t) ≡ path_within H h part at ++ drop start own
rest_put H h z part own at start t e past high some room root =
    rw (e, path_rest H z part at high past, put_before own start t some room, append_assoc, root) refl

pub low_put : (H : HashFunction) (h z : ℕ) (part : List (List ℕ)) (at : ℕ) → h ≡ suc z → length part ≤ 2 ^ z → path_within H z part at ≡ path_within H h part at
low_put H h z part at e low = rw (e, path_low H z part at low) refl

pub no_path : (H : HashFunction) (h : ℕ) (part : List (List ℕ)) (at : ℕ) → h ≡ 0 → path_within H h part at ≡ []
unfolding path_within
no_path H h part at e = rw e refl
