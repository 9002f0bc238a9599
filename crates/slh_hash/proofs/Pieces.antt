-- Pieces that are joined one by one.
use Rattle.std.proofs.Common.{◌≡◌, ℕ, List, [], ◌++◌, append_assoc, refl}

pub four_pieces : (w x y z : List ℕ) → [] ++ w ++ x ++ y ++ z ≡ w ++ (x ++ y ++ z)
four_pieces w x y z = simp append_assoc refl

pub six_pieces : (u v w x y z a b c : List ℕ) → u ≡ a → v ≡ b → w ≡ c
    → [] ++ u ++ v ++ w ++ x ++ y ++ z ≡ a ++ b ++ c ++ (x ++ y ++ z)
six_pieces u v w x y z a b c is_a is_b is_c = rw (is_a, is_b, is_c) (simp append_assoc refl)
