-- Sums of lists, byte by byte.
use Rattle.std.proofs.Common.{◌≡◌, ℕ, ◌+◌, ◌<◌, List, [], ◌∷◌, ◌++◌, length, take, get_or, bit_xor, set, refl, sym, ap, ◌∙◌, arith}
use Rattle.std.proofs.lemmas.List.{take_more, take_more_set, length-take-le}
use Rattle.aes.specs.Block.{added}

pub added-append : (xs ys : List ℕ) (x y : ℕ) → length xs ≡ length ys
    → added (xs ++ x ∷ []) (ys ++ y ∷ []) ≡ added xs ys ++ bit_xor x y ∷ []
unfolding added
added-append [] [] x y e = refl
added-append [] (b ∷ ys) x y e = absurd (omega arith)
added-append (a ∷ xs) [] x y e = absurd (omega arith)
added-append (a ∷ xs) (b ∷ ys) x y e = ap (λ (t : List ℕ). bit_xor a b ∷ t) (added-append xs ys x y (omega arith))

pub nothing_added : [] ≡ added [] []
unfolding added
nothing_added = refl

pub one_added : (bytes xs ys : List ℕ) (i : ℕ) → i < length bytes → i < length xs → i < length ys
    → take i bytes ≡ added (take i xs) (take i ys)
    → take (i + 1) (set bytes i (bit_xor (get_or xs i 0) (get_or ys i 0)))
    ≡ added (take (i + 1) xs) (take (i + 1) ys)
one_added bytes xs ys i hb hx hy before =
    let left = length-take-le i xs in
    take_more_set bytes i (bit_xor (get_or xs i 0) (get_or ys i 0))
    hb
    ∙ ap (λ (t : List ℕ). t ++ bit_xor (get_or xs i 0) (get_or ys i 0) ∷ []) before
    ∙ sym (rw (take_more xs i 0 hx, take_more ys i 0 hy) (added-append (take i xs) (take i ys) (get_or xs i 0) (get_or ys i 0) (omega (arith, length-take-le {A = ℕ}))))

pub cons_is : {x y : ℕ} {xs ys : List ℕ} → x ≡ y → xs ≡ ys → x ∷ xs ≡ y ∷ ys
cons_is e es = cc

pub joined_same : {x y u v : List ℕ} → x ≡ y → u ≡ v → x ++ u ≡ y ++ v
joined_same e es = cc
