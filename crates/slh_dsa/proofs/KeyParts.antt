-- The parts of a key, from its bytes.
use Rattle.std.proofs.Common.{◌≡◌, ℕ, suc, ◌+◌, ◌-◌, ◌*◌, List, [], ◌++◌, length, Option, unwrap_or, refl, sym, ◌∙◌, arith, append_assoc, append-nil}
use Rattle.std.proofs.Math.Seq.{take-append_seam, drop-append-add}
use Rattle.slh_core.specs.Bytes.{part}
use Rattle.slh_core.specs.Parameters.{Scheme}
use Rattle.slh_trees.specs.Signing.{digest_signature, signature_of}

-- the first part
pub part_first : (n : ℕ) (a rest : List ℕ) → length a ≡ n → part n (a ++ rest) 0 ≡ a
part_first n a rest len =
    let width : (0 + 1) * n - 0 * n ≡ length a = omega arith in
    let from : 0 * n ≡ 0 = omega arith in
    rw (width, from) (take-append_seam a rest)

-- the parts after the first
pub part_later : (n c : ℕ) (a rest : List ℕ) → length a ≡ n → part n (a ++ rest) (suc c) ≡ part n rest c
part_later n c a rest len =
    let width : (suc c + 1) * n - suc c * n ≡ (c + 1) * n - c * n = omega arith in
    let from : suc c * n ≡ length a + c * n = omega arith in
    rw (width, from, drop-append-add a rest (c * n)) refl

-- the four parts of a signing key
pub record HasParts (n : ℕ) (key a b c d : List ℕ) : Type 0 where
  pub p0 : part n key 0 ≡ a
  pub p1 : part n key 1 ≡ b
  pub p2 : part n key 2 ≡ c
  pub p3 : part n key 3 ≡ d

pub part_only : (n : ℕ) (a : List ℕ) → length a ≡ n → part n a 0 ≡ a
part_only n a len = let e : part n (a ++ []) 0 ≡ a = part_first n a [] len in rw append-nil at e

pub key_parts : (n : ℕ) (key a b c d : List ℕ) → a ++ b ++ c ++ d ≡ key
    → length a ≡ n → length b ≡ n → length c ≡ n → length d ≡ n → HasParts n key a b c d
key_parts n key a b c d is_key la lb lc ld =
    let whole : key ≡ a ++ (b ++ (c ++ d)) = sym is_key ∙ simp append_assoc in
    rw whole record {
      p0 = part_first n a (b ++ (c ++ d)) la;
      p1 = part_later n 0 a (b ++ (c ++ d)) la ∙ part_first n b (c ++ d) lb;
      p2 = part_later n 1 a (b ++ (c ++ d)) la ∙ part_later n 0 b (c ++ d) lb ∙ part_first n c d lc;
      p3 = part_later n 2 a (b ++ (c ++ d)) la ∙ part_later n 1 b (c ++ d) lb ∙ part_later n 0 c d lc ∙ part_only n d ld;
    }

-- What is signed by the parts of a key is signed by the key.
pub signature_by_parts : (Z : Scheme) (n : ℕ) (key a b c d : List ℕ) (given : Option (List ℕ)) (opt_rand head ctx msg out : List ℕ)
    → Z.n ≡ n → a ++ b ++ c ++ d ≡ key → length a ≡ n → length b ≡ n → length c ≡ n → length d ≡ n
    → opt_rand ≡ unwrap_or given (part n key 2)
    → (let message = head ++ ctx ++ msg in
    let rand = Z.suite.prf_msg b opt_rand message in
    out ≡ digest_signature Z c a rand (Z.suite.h_msg rand c d message))
    → out ≡ signature_of Z key given (head ++ ctx ++ msg)
signature_by_parts Z n key a b c d given opt_rand head ctx msg out size is_key la lb lc ld is_opt_rand is_out =
    let near = key_parts n key a b c d is_key la lb lc ld in
    let parts = key_parts Z.n key a b c d is_key (la ∙ sym size) (lb ∙ sym size) (lc ∙ sym size) (ld ∙ sym size) in
    rw (parts.p0, parts.p1, parts.p2, parts.p3) (rw (is_opt_rand, near.p2) at is_out)
