-- A step of a way up.
use Rattle.std.proofs.Common.{◌≡◌, ℕ, ◌+◌, ◌<◌, ◌≤◌, List, [], ◌∷◌, length, drop, get_or, Bool, true, false, refl}
use Rattle.std.proofs.lemmas.List.{drop_all, drop_more}
use Rattle.merkle_tree.specs.Ascent.{climb_left}
use Rattle.merkle_tree.specs.Climb.{climb_along, node_input}
use Rattle.merkle_tree.specs.Tree.{node_hash}
use Rattle.merkle_tree.specs.Hashes.{HashFunction}

pub climb_step : (H : HashFunction) (x : List ℕ) (sides : List Bool) (path : List (List ℕ)) (h : ℕ) → h < length sides → h < length path
    → climb_along H x (drop h sides) (drop h path)
    ≡ climb_along H (H (node_input (get_or sides h false) x (get_or path h []))) (drop (h + 1) sides) (drop (h + 1) path)
unfolding climb_along
climb_step H x sides path h below inside = rw (drop_more sides h false below, drop_more path h [] inside) refl

pub climb_end : (H : HashFunction) (x : List ℕ) (sides : List Bool) (path : List (List ℕ)) (h : ℕ) → length sides ≤ h → climb_along H x (drop h sides) (drop h path) ≡ x
unfolding climb_along
climb_end H x sides path h past = rw (drop_all h sides past) refl

left_step : (H : HashFunction) (side : Bool) (x e : List ℕ) (sides : List Bool) (path : List (List ℕ)) → side ≡ true → climb_left H x (side ∷ sides) (e ∷ path) ≡ climb_left H (node_hash H e x) sides path
unfolding climb_left
left_step H side x e sides path is = rw is refl

right_step : (H : HashFunction) (side : Bool) (x e : List ℕ) (sides : List Bool) (path : List (List ℕ)) → side ≡ false → climb_left H x (side ∷ sides) (e ∷ path) ≡ climb_left H x sides path
unfolding climb_left
right_step H side x e sides path is = rw is refl

pub climb_left_step : (H : HashFunction) (x : List ℕ) (sides : List Bool) (path : List (List ℕ)) (h : ℕ) → h < length sides → h < length path → get_or sides h false ≡ true
    → climb_left H x (drop h sides) (drop h path) ≡ climb_left H (node_hash H (get_or path h []) x) (drop (h + 1) sides) (drop (h + 1) path)
climb_left_step H x sides path h below inside is = rw (drop_more sides h false below, drop_more path h [] inside) (left_step H _ x _ _ _ is)

pub climb_right_step : (H : HashFunction) (x : List ℕ) (sides : List Bool) (path : List (List ℕ)) (h : ℕ) → h < length sides → h < length path → get_or sides h false ≡ false
    → climb_left H x (drop h sides) (drop h path) ≡ climb_left H x (drop (h + 1) sides) (drop (h + 1) path)
climb_right_step H x sides path h below inside is = rw (drop_more sides h false below, drop_more path h [] inside) (right_step H _ x _ _ _ is)

pub left_end : (H : HashFunction) (x : List ℕ) (sides : List Bool) (path : List (List ℕ)) (h : ℕ) → length sides ≤ h → climb_left H x (drop h sides) (drop h path) ≡ x
unfolding climb_left
left_end H x sides path h past = rw (drop_all h sides past) refl
