-- The signatures of a bench, and that each of them is accepted.
use Rattle.std.proofs.Common.{◌≡◌, ℕ, zero, suc, ◌+◌, ◌-◌, ◌*◌, ◌/◌, ◌^◌, ◌≤◌, List, [], ◌∷◌, ◌++◌, length, drop, refl, ◌∙◌, arith, length-append, length-take, length-drop, add-one, Bool, true, false, Option, None, Some, if◌then◌else◌}
use Rattle.std.specs.Prelude.{codes}
use Rattle.std.proofs.lemmas.Nat.{mul-le}
use Rattle.hmac_sha256.proofs.Expanding.{length-output_blocks}
use Rattle.hmac_sha256.specs.Hkdf.{hkdf_expand, output_blocks}
use Rattle.slh_core.proofs.Chains.{length-wots_pk}
use Rattle.slh_core.proofs.Joins.{range_left, range_right}
use Rattle.slh_core.specs.Bytes.{big_endian, part}
use Rattle.slh_core.specs.Parameters.{Scheme}
use Rattle.slh_core.specs.Suite.{HasLength, seeded}
use Rattle.slh_core.specs.Wots.{wots_pk}
use Rattle.slh_merkle.proofs.Climbs.{length-merkle}
use Rattle.slh_frames.specs.Frames.{frame}
use Rattle.slh_trees.specs.Keys.{IsTrueKey, signing_key_bytes, top_root}
use Rattle.slh_trees.specs.Signing.{signature_of}
use Rattle.slh_core.specs.Refusals.{first_refusal}
use Rattle.slh_merkle.specs.Xmss.{tree_place}
use Rattle.slh_dsa.specs.Calls.{verify_error}
use Rattle.slh_dsa.specs.declared.error.Error.{Error}
use Rattle.slh_dsa.specs.declared.error.Error.TheVariants.{Invalid}
use Rattle.slh_bench.specs.Bench.{accepted_count, bench_accepts, bench_key, bench_message, bench_seeds, message_size}

-- where nothing is refused the root is right
right_root : (refusal : Option Error) (valid : Bool) → first_refusal (refusal ∷ (if valid then None else Some Invalid) ∷ []) ≡ None → valid ≡ true
right_root None true h = refl
right_root None false h = cc
right_root (Some e) valid h = cc

-- so many bytes are derived
pub length-hkdf_expand : (prk info : List ℕ) (count : ℕ) → length (hkdf_expand prk info count) ≡ count
unfolding hkdf_expand
length-hkdf_expand prk info count =
    rw (length-take count (output_blocks prk info ((count + 31) / 32)), length-output_blocks prk info ((count + 31) / 32)) (omega arith)

length-top_root : (Z : Scheme) (s sk : List ℕ) → HasLength Z.suite Z.n → length (top_root Z s sk) ≡ Z.n
unfolding top_root
length-top_root Z s sk law =
    let K = seeded Z.suite Z.n s in
    length-merkle K (tree_place (Z.d - 1) 0) (wots_pk K sk (Z.d - 1) 0) Z.hp 0 law (λ i. length-wots_pk K sk (Z.d - 1) 0 i law)

-- the first three parts of a key
record HasSeeds (n : ℕ) (key a b c : List ℕ) : Type 0 where
  p0 : part n key 0 ≡ a
  p1 : part n key 1 ≡ b
  p2 : part n key 2 ≡ c

seeds_of : (n : ℕ) (a b c d : List ℕ) → length a ≡ n → length b ≡ n → length c ≡ n → HasSeeds n (a ++ b ++ c ++ d) a b c
seeds_of n a b c d la lb lc =
    let two : length (a ++ b) ≡ 2 * n = omega (arith, length-append a b) in
    let three : length (a ++ b ++ c) ≡ 3 * n = omega (arith, length-append (a ++ b) c) in
    record {
      p0 = range_left (a ++ b ++ c) d (0 * n) ((0 + 1) * n) (omega arith) (omega arith) ∙ range_left (a ++ b) c (0 * n) ((0 + 1) * n) (omega arith) (omega arith) ∙ range_left a b (0 * n) ((0 + 1) * n) (omega arith) (omega arith) ∙ range_right [] a (0 * n) ((0 + 1) * n) (omega arith) (omega arith);
      p1 = range_left (a ++ b ++ c) d (1 * n) ((1 + 1) * n) (omega arith) (omega arith) ∙ range_left (a ++ b) c (1 * n) ((1 + 1) * n) (omega arith) (omega arith) ∙ range_right a b (1 * n) ((1 + 1) * n) (omega arith) (omega arith);
      p2 = range_left (a ++ b ++ c) d (2 * n) ((2 + 1) * n) (omega arith) (omega arith) ∙ range_right (a ++ b) c (2 * n) ((2 + 1) * n) (omega arith) (omega arith);
    }

key_is_true : (Z : Scheme) (sk prf s : List ℕ) → length sk ≡ Z.n → length prf ≡ Z.n → length s ≡ Z.n → IsTrueKey Z (signing_key_bytes Z sk prf s)
key_is_true Z sk prf s a b c =
    let near = seeds_of Z.n sk prf s (top_root Z s sk) a b c in
    rw (near.p0, near.p1, near.p2) refl

length-part : (n c : ℕ) (xs : List ℕ) → (c + 1) * n ≤ length xs → length (part n xs c) ≡ n
length-part n c xs fits =
    omega (arith, length-take ((c + 1) * n - c * n) (drop (c * n) xs), length-drop (c * n) xs)

module _ (Z : Scheme) (prk : List ℕ) (law : HasLength Z.suite Z.n) where
  seed_is : (c : ℕ) → c ≤ 2 → length (part Z.n (bench_seeds prk Z.n) c) ≡ Z.n
  seed_is c few =
      let whole : length (bench_seeds prk Z.n) ≡ 3 * Z.n = length-hkdf_expand prk (codes "seeds") (3 * Z.n) in
      let fits : (c + 1) * Z.n ≤ 3 * Z.n = mul-le (c + 1) Z.n 3 Z.n (omega arith) (omega arith) in
      length-part Z.n c (bench_seeds prk Z.n) (omega arith)

  true_key : IsTrueKey Z (bench_key Z prk)
  true_key = key_is_true Z _ _ _ (seed_is 0 (omega arith)) (seed_is 1 (omega arith)) (seed_is 2 (omega arith))

  length-key : length (bench_key Z prk) ≡ 4 * Z.n
  length-key =
      let sk = part Z.n (bench_seeds prk Z.n) 0 in
      let prf = part Z.n (bench_seeds prk Z.n) 1 in
      let s = part Z.n (bench_seeds prk Z.n) 2 in
      let a : length sk ≡ Z.n = seed_is 0 (omega arith) in
      let b : length prf ≡ Z.n = seed_is 1 (omega arith) in
      let c : length s ≡ Z.n = seed_is 2 (omega arith) in
      let d : length (top_root Z s sk) ≡ Z.n = length-top_root Z s sk law in
      rw (length-append (sk ++ prf ++ s) (top_root Z s sk), length-append (sk ++ prf) s, length-append sk prf) (omega arith)

  -- by the law that what a true key signs is accepted
  module _ (signed : (key context message : List ℕ) (opt_rand : Option (List ℕ)) → IsTrueKey Z key → length key ≡ 4 * Z.n → length context ≤ 255 → length message ≤ 2 ^ 60
      → verify_error Z (drop (2 * Z.n) key) context message (signature_of Z key opt_rand (frame context message)) ≡ None) where
    accepts : (i : ℕ) → bench_accepts Z prk i ≡ true
    accepts i =
        let size : length (bench_message prk i) ≡ message_size i = length-hkdf_expand prk (codes "message" ++ big_endian i 4) (message_size i) in
        right_root _ _ (signed (bench_key Z prk) [] (bench_message prk i) None true_key length-key (omega arith) (omega arith))

    pub accepts_all : (count : ℕ) → accepted_count Z prk count ≡ count
    unfolding accepted_count
    accepts_all zero = refl
    accepts_all (suc i) = rw (accepts_all i, accepts i) (add-one i)
