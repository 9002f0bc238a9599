-- What was chained is unchained, and a padding is taken off.
use Rattle.std.proofs.Common.{◌≡◌, ℕ, zero, suc, ◌+◌, ◌-◌, ◌*◌, ◌/◌, ◌%◌, ◌<◌, ◌≤◌, List, ◌++◌, length, length-append, length-take-le, length-drop, take, drop, slice_index, replicate, true, Some, refl, sym, ap, ◌∙◌, arith, inl, inr}
use Rattle.std.specs.Str.{bytes_eq}
use Rattle.std.proofs.lemmas.Bool.{cases_lt}
use Rattle.std.proofs.lemmas.List.{drop-append-le, drop-take, get_or-append-add, get_or-replicate, length-replicate, take-append-drop, take-append-le, take-take, take_all}
use Rattle.std.proofs.lemmas.Slice.Eq.{bytes_eq-Decides}
use Rattle.std.proofs.Math.Seq.{drop-append_seam}
use Rattle.aes.specs.Block.{added}
use Rattle.aes.specs.Cbc.{before, block_at, cbc, cbc_blocks, cbc_undone, chained, inverse_cbc, padded, padding_count, unpadded_len}
use Rattle.aes.specs.Cipher.{inverse_cipher}
use Rattle.aes.specs.Schedule.{IsKeyLength}
use Rattle.aes.proofs.Padding.{by_rest, last_of}
use Rattle.aes.proofs.Bytes.{AllBytes, IsBlock}
use Rattle.aes.proofs.Blocks.{added_block, added_undone, dropped_bytes, joined_bytes, taken_bytes}
use Rattle.aes.proofs.Undone.{cipher_block, cipher_undone}

-- what is encrypted: a key, an initial vector, a message
pub record Given (key iv m : List ℕ) : Type 0 where
  pub size : IsKeyLength (length key)
  pub key_bytes : AllBytes key
  pub iv_block : IsBlock iv
  pub bytes : AllBytes m

block_here : (m : List ℕ) (j : ℕ) → AllBytes m → 16 * j + 16 ≤ length m → IsBlock (block_at m j)
block_here m j h within =
    let enough : 16 ≤ length (drop (16 * j) m) = omega (arith, length-drop (16 * j) m) in
    record {
      size = length-take-le 16 (drop (16 * j) m) enough;
      bytes = taken_bytes 16 (drop (16 * j) m) (dropped_bytes (16 * j) m h);
    }

chained_block : (key iv m : List ℕ) (j : ℕ) → Given key iv m → 16 * j ≤ length m → IsBlock (chained key iv m j)
unfolding chained
chained_block key iv m zero g within = g.iv_block
chained_block key iv m (suc j) g within =
    cipher_block key (added (block_at m j) (chained key iv m j)) g.size g.key_bytes
    (added_block (block_at m j) (chained key iv m j) (block_here m j g.bytes (omega arith)) (chained_block key iv m j g (omega arith)))

pub length-blocks : (key iv m : List ℕ) (n : ℕ) → Given key iv m → 16 * n ≤ length m → length (cbc_blocks key iv m n) ≡ 16 * n
unfolding cbc_blocks
length-blocks key iv m zero g within = refl
length-blocks key iv m (suc n) g within =
    let last = chained_block key iv m (suc n) g within in
    omega (arith, length-append (cbc_blocks key iv m n) (chained key iv m (suc n)), last.size, length-blocks key iv m n g (omega arith))

pub blocks_bytes : (key iv m : List ℕ) (n : ℕ) → Given key iv m → 16 * n ≤ length m → AllBytes (cbc_blocks key iv m n)
unfolding cbc_blocks
blocks_bytes key iv m zero g within = tt
blocks_bytes key iv m (suc n) g within =
    let last = chained_block key iv m (suc n) g within in
    joined_bytes (cbc_blocks key iv m n) (chained key iv m (suc n)) (blocks_bytes key iv m n g (omega arith)) last.bytes

block_of : (key iv m : List ℕ) (n j : ℕ) → Given key iv m → 16 * n ≤ length m → j < n
    → block_at (cbc_blocks key iv m n) j ≡ chained key iv m (suc j)
unfolding cbc_blocks
block_of key iv m zero j g within low = absurd (omega arith)
block_of key iv m (suc n) j g within low =
    let front = cbc_blocks key iv m n in
    let last = chained key iv m (suc n) in
    let long = length-blocks key iv m n g (omega arith) in
    let whole = chained_block key iv m (suc n) g within in
    elim (cases_lt j n) [
      | inl less ↦
          let cut : drop (16 * j) (front ++ last) ≡ drop (16 * j) front ++ last = drop-append-le (16 * j) front last (omega arith) in
          let enough : 16 ≤ length (drop (16 * j) front) = omega (arith, length-drop (16 * j) front) in
          ap (take 16) cut ∙ take-append-le 16 (drop (16 * j) front) last enough ∙ block_of key iv m n j g (omega arith) less
      | inr above ↦
          let same : j ≡ n = omega arith in
          let place : 16 * n ≡ length front = sym long in
          let most : length last ≤ 16 = omega (arith, whole.size) in
          ap (λ k. block_at (front ++ last) k) same
          ∙ ap (λ k. take 16 (drop k (front ++ last))) place
          ∙ ap (take 16) (drop-append_seam front last)
          ∙ take_all 16 last most
          ∙ ap (λ k. chained key iv m (suc k)) (sym same)
    ]

before_is : (key iv m : List ℕ) (n j : ℕ) → Given key iv m → 16 * n ≤ length m → j ≤ n
    → before iv (cbc_blocks key iv m n) j ≡ chained key iv m j
unfolding before chained
before_is key iv m n zero g within low = refl
before_is key iv m n (suc j) g within low = block_of key iv m n j g within low

take_two : (a n : ℕ) (d : List ℕ) → take (a + n) d ≡ take a d ++ take n (drop a d)
take_two a n d =
    let whole : take a (take (a + n) d) ++ drop a (take (a + n) d) ≡ take (a + n) d = take-append-drop a (take (a + n) d) in
    sym (ap (λ (t : List ℕ). t ++ take n (drop a d)) (sym (take-take a (a + n) d (omega arith)))
    ∙ ap (λ (t : List ℕ). take a (take (a + n) d) ++ t) (sym (drop-take a n d)) ∙ whole)

undone_front : (key iv m : List ℕ) (all n : ℕ) → Given key iv m → 16 * all ≤ length m → n ≤ all
    → cbc_undone key iv (cbc_blocks key iv m all) n ≡ take (16 * n) m
unfolding cbc_undone chained
undone_front key iv m all zero g within low = refl
undone_front key iv m all (suc n) g within low =
    let c = cbc_blocks key iv m all in
    let plain = block_here m n g.bytes (omega arith) in
    let chain = chained_block key iv m n g (omega arith) in
    let sum = added (block_at m n) (chained key iv m n) in
    let sum_block = added_block (block_at m n) (chained key iv m n) plain chain in
    let next : 16 * suc n ≡ 16 * n + 16 = omega arith in
    ap (λ (t : List ℕ). t ++ added (inverse_cipher key (block_at c n)) (before iv c n)) (undone_front key iv m all n g within (omega arith))
    ∙ ap (λ (t : List ℕ). take (16 * n) m ++ added (inverse_cipher key t) (before iv c n)) (block_of key iv m all n g within (omega arith))
    ∙ ap (λ (t : List ℕ). take (16 * n) m ++ added t (before iv c n)) (cipher_undone key sum g.size g.key_bytes sum_block)
    ∙ ap (λ (t : List ℕ). take (16 * n) m ++ added sum t) (before_is key iv m all n g within (omega arith))
    ∙ ap (λ (t : List ℕ). take (16 * n) m ++ t) (added_undone (block_at m n) (chained key iv m n) (plain.size ∙ sym chain.size))
    ∙ sym (take_two (16 * n) 16 m)
    ∙ ap (λ k. take k m) (sym next)

pub cbc_back : (key iv m : List ℕ) → IsKeyLength (length key) → AllBytes key → IsBlock iv → AllBytes m
    → length m % 16 ≡ 0 → inverse_cbc key iv (cbc key iv m) ≡ m
cbc_back key iv m size h block bytes whole =
    let g : Given key iv m = record { size = size; key_bytes = h; iv_block = block; bytes = bytes } in
    let n = length m / 16 in
    let all : 16 * n ≡ length m = omega arith in
    let within : 16 * n ≤ length m = omega arith in
    let long = length-blocks key iv m n g within in
    let count : length (cbc key iv m) / 16 ≡ n = omega arith in
    let last : n ≤ n = omega arith in
    ap (cbc_undone key iv (cbc key iv m)) count
    ∙ undone_front key iv m n n g within last
    ∙ take_all (16 * n) m (omega arith)

-- a padding is found, and what stands before it
pub unpadded : (m : List ℕ) → unpadded_len (padded m) ≡ Some (length m)
unfolding padded
unpadded m =
    let c = padding_count (length m) in
    let rest = replicate c c in
    let p = m ++ rest in
    let some : 1 ≤ c = omega arith in
    let most : c ≤ 16 = omega arith in
    let long : length p ≡ length m + c = omega (arith, length-append m rest, length-replicate c c) in
    let place : length p - 1 ≡ length m + (c - 1) = omega arith in
    let inside : c - 1 < c = omega arith in
    let last : last_of p ≡ c =
    ap (slice_index p) place ∙ get_or-append-add m rest (c - 1) 0 ∙ get_or-replicate c (c - 1) c 0 inside in
    let start : length p - last_of p ≡ length m = omega arith in
    let behind : drop (length p - last_of p) p ≡ rest = ap (λ k. drop k p) start ∙ drop-append_seam m rest in
    let same : bytes_eq (drop (length p - last_of p) p) (replicate (last_of p) (last_of p)) ≡ true =
    (bytes_eq-Decides _ _).1 (behind ∙ ap (λ k. replicate k k) (sym last)) in
    sym (by_rest p true (λ none. absurd (omega arith)) (omega arith) (omega arith) same) ∙ ap Some start
