-- A step of each loop over blocks.
use Rattle.std.proofs.Common.{◌≡◌, ℕ, ◌+◌, List, [], ◌++◌, refl, sym, ap, ◌∙◌, add-one}
use Rattle.aes.specs.Block.{added}
use Rattle.aes.specs.Cbc.{before, block_at, cbc_blocks, cbc_undone, chained}
use Rattle.aes.specs.Cipher.{cipher, inverse_cipher}

pub nothing_chained : (key iv m : List ℕ) → iv ≡ chained key iv m 0
unfolding chained
nothing_chained key iv m = refl

pub no_blocks : (key iv m : List ℕ) → [] ≡ cbc_blocks key iv m 0
unfolding cbc_blocks
no_blocks key iv m = refl

pub one_chained : (key iv m chain : List ℕ) (j : ℕ) → chain ≡ chained key iv m j
    → cipher key (added (block_at m j) chain) ≡ chained key iv m (j + 1)
unfolding chained
one_chained key iv m chain j h =
    ap (λ (t : List ℕ). cipher key (added (block_at m j) t)) h ∙ ap (chained key iv m) (sym (add-one j))

pub one_block : (key iv m blocks chain : List ℕ) (j : ℕ) → blocks ≡ cbc_blocks key iv m j
    → chain ≡ chained key iv m (j + 1) → blocks ++ chain ≡ cbc_blocks key iv m (j + 1)
unfolding cbc_blocks
one_block key iv m blocks chain j h is =
    ap (λ (t : List ℕ). t ++ chain) h
    ∙ ap (λ (t : List ℕ). cbc_blocks key iv m j ++ t) (is ∙ ap (chained key iv m) (add-one j))
    ∙ ap (cbc_blocks key iv m) (sym (add-one j))

pub first_before : (iv c : List ℕ) → iv ≡ before iv c 0
unfolding before
first_before iv c = refl

pub next_before : (iv c : List ℕ) (j : ℕ) → block_at c j ≡ before iv c (j + 1)
unfolding before
next_before iv c j = ap (before iv c) (sym (add-one j))

pub nothing_undone : (key iv c : List ℕ) → [] ≡ cbc_undone key iv c 0
unfolding cbc_undone
nothing_undone key iv c = refl

pub one_undone : (key iv c message chain : List ℕ) (j : ℕ) → message ≡ cbc_undone key iv c j
    → chain ≡ before iv c j
    → message ++ added (inverse_cipher key (block_at c j)) chain ≡ cbc_undone key iv c (j + 1)
unfolding cbc_undone
one_undone key iv c message chain j h is =
    ap (λ (t : List ℕ). t ++ added (inverse_cipher key (block_at c j)) chain) h
    ∙ ap (λ (t : List ℕ). cbc_undone key iv c j ++ added (inverse_cipher key (block_at c j)) t) is
    ∙ ap (cbc_undone key iv c) (sym (add-one j))
