-- A step of the loop, and the keys of one block.
use Rattle.std.proofs.Common.{◌≡◌, ℕ, zero, suc, ◌+◌, ◌-◌, ◌/◌, ◌≤◌, List, ◌++◌, length, take, refl, sym, ap, ◌∙◌, arith}
use Rattle.std.proofs.Math.Seq.{take-append_seam}
use Rattle.hmac_sha256.specs.Hmac.{hmac_sha256}
use Rattle.pbkdf2.specs.Pbkdf2.{added, block, blocks, first_code, iterated, pbkdf2, summed}

pub nothing_iterated : (password first : List ℕ) → first ≡ iterated password first 0
unfolding iterated
nothing_iterated password first = refl

pub nothing_summed : (password first : List ℕ) → first ≡ summed password first 0
unfolding summed
nothing_summed password first = refl

pub one_iterated : (password first code : List ℕ) (k : ℕ) → 1 ≤ k → code ≡ iterated password first (k - 1)
    → hmac_sha256 password code ≡ iterated password first (k + 1 - 1)
unfolding iterated
one_iterated password first code zero some h = absurd (omega arith)
one_iterated password first code (suc k) some h =
    let before : suc k - 1 ≡ k = omega arith in
    let after : suc k ≡ suc k + 1 - 1 = omega arith in
    ap (hmac_sha256 password) (h ∙ ap (iterated password first) before) ∙ ap (iterated password first) after

pub one_summed : (password first sum code : List ℕ) (k : ℕ) → 1 ≤ k → sum ≡ summed password first (k - 1)
    → code ≡ iterated password first (k + 1 - 1) → added sum code ≡ summed password first (k + 1 - 1)
unfolding summed
one_summed password first sum code zero some h is = absurd (omega arith)
one_summed password first sum code (suc k) some h is =
    let before : suc k - 1 ≡ k = omega arith in
    let after : suc k ≡ suc k + 1 - 1 = omega arith in
    ap (λ (t : List ℕ). added t code) (h ∙ ap (summed password first) before)
    ∙ ap (added (summed password first k)) (is ∙ ap (iterated password first) (sym after))
    ∙ ap (summed password first) after

one_block : (password salt : List ℕ) (count n blocks_of : ℕ) → blocks_of ≡ 1
    → take n (blocks password salt count blocks_of) ≡ take n (block password salt count 1)
unfolding blocks
one_block password salt count n blocks_of e = ap (λ m. take n (blocks password salt count m)) e

pub derived : (password salt key : List ℕ) (count n : ℕ) → n ≤ 32
    → key ≡ summed password (first_code password salt 1) (count - 1)
    → pbkdf2 password salt count n ≡ take n key
unfolding pbkdf2 block
derived password salt key count zero small is = refl
derived password salt key count (suc n) small is =
    let one : (suc n + 31) / 32 ≡ 1 = omega arith in
    one_block password salt count (suc n) ((suc n + 31) / 32) one ∙ ap (take (suc n)) (sym is)

pub front_is : (tail zeros whole : List ℕ) → whole ≡ tail ++ zeros → length tail ≡ 32 → take 32 whole ≡ tail
front_is tail zeros whole e n =
    ap (take 32) e ∙ ap (λ (k : ℕ). take k (tail ++ zeros)) (sym n) ∙ take-append_seam tail zeros
