-- What is hashed on a way up: each input has the digest of the one before.
use Rattle.std.proofs.Common.{◌≡◌, ℕ, zero, suc, ◌+◌, ◌<◌, List, [], ◌∷◌, length, get_or, Bool, false, refl, ap, arith, add-one}
use Rattle.merkle_tree.specs.Climb.{climb_along, inputs_along, node_input}
use Rattle.merkle_tree.specs.Hashes.{HashFunction}

pub length-inputs : (H : HashFunction) (x : List ℕ) (sides : List Bool) (path : List (List ℕ)) → length path ≡ length sides → length (inputs_along H x sides path) ≡ length sides
unfolding inputs_along
length-inputs H x [] path l = refl
length-inputs H x (b ∷ sides) [] l = absurd (omega arith)
length-inputs H x (b ∷ sides) (e ∷ path) l = ap suc (length-inputs H (H (node_input b x e)) sides path (omega arith))

-- the root is the digest of the last input, of those that begin with w
pub last_input : (H : HashFunction) (w : List ℕ) (sides : List Bool) (path : List (List ℕ)) → length path ≡ length sides
    → climb_along H (H w) sides path ≡ H (get_or (w ∷ inputs_along H (H w) sides path) (length sides) [])
unfolding climb_along inputs_along
last_input H w [] path l = refl
last_input H w (b ∷ sides) [] l = absurd (omega arith)
last_input H w (b ∷ sides) (e ∷ path) l = last_input H (node_input b (H w) e) sides path (omega arith)

next : (H : HashFunction) (w : List ℕ) (sides : List Bool) (path : List (List ℕ)) (h : ℕ) → length path ≡ length sides → h < length sides
    → get_or (w ∷ inputs_along H (H w) sides path) (suc h) [] ≡ node_input (get_or sides h false) (H (get_or (w ∷ inputs_along H (H w) sides path) h [])) (get_or path h [])
unfolding inputs_along
next H w [] path h l below = absurd (omega arith)
next H w (b ∷ sides) [] h l below = absurd (omega arith)
next H w (b ∷ sides) (e ∷ path) zero l below = refl
next H w (b ∷ sides) (e ∷ path) (suc h) l below = next H (node_input b (H w) e) sides path h (omega arith) (omega arith)

pub next_input : (H : HashFunction) (w : List ℕ) (sides : List Bool) (path : List (List ℕ)) (h : ℕ) → length path ≡ length sides → h < length sides
    → get_or (w ∷ inputs_along H (H w) sides path) (h + 1) [] ≡ node_input (get_or sides h false) (H (get_or (w ∷ inputs_along H (H w) sides path) h [])) (get_or path h [])
next_input H w sides path h l below = rw add-one (next H w sides path h l below)
