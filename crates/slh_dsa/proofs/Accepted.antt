-- What a true key signs is accepted under its verifying key.
use Rattle.std.proofs.Common.{◌≡◌, ℕ, ◌+◌, ◌-◌, ◌*◌, ◌^◌, ◌≤◌, ◌==◌, List, ◌++◌, length, drop, true, None, Option, unwrap_or, refl, sym, ◌∙◌, ap, arith, length-append, append_assoc, length-take, length-drop}
use Rattle.std.proofs.lemmas.Bool.{le-ltb}
use Rattle.std.proofs.lemmas.Bool.Decides.{Decides-eqb}
use Rattle.std.proofs.lemmas.Slice.Eq.{bytes_eq-Decides}
use Rattle.std.specs.Str.{bytes_eq}
use Rattle.slh_core.proofs.Joins.{drop_front}
use Rattle.slh_core.specs.Bytes.{part}
use Rattle.slh_core.specs.Parameters.{Scheme}
use Rattle.slh_core.specs.Suite.{HasLength}
use Rattle.slh_dsa.proofs.KeyParts.{part_first, part_later, part_only, key_parts}
use Rattle.slh_dsa.specs.Calls.{hash_verify_error}
use Rattle.slh_frames.specs.Frames.{mode_frame}
use Rattle.slh_frames.specs.declared.frame.Mode.{Mode}
use Rattle.slh_trees.proofs.Signatures.{checked_root-signature, length-digest_signature}
use Rattle.slh_trees.specs.Checking.{checked_root, signature_size}
use Rattle.slh_trees.specs.Keys.{IsTrueKey, top_root}
use Rattle.slh_trees.specs.Signing.{signature_of}

part_len : (n : ℕ) (key : List ℕ) (c : ℕ) → (c + 1) * n ≤ length key → length (part n key c) ≡ n
part_len n key c fits =
    omega (arith, length-take ((c + 1) * n - c * n) (drop (c * n) key), length-drop (c * n) key)

-- the last two parts of four are the parts of the bytes after the first two
record HasHalf (n : ℕ) (key half c d : List ℕ) : Type 0 where
  half0 : part n half 0 ≡ c
  half1 : part n half 1 ≡ d
  last : part n key 3 ≡ d

halves : (n : ℕ) (key a b c d : List ℕ) → key ≡ a ++ b ++ c ++ d
    → length a ≡ n → length b ≡ n → length c ≡ n → length d ≡ n → HasHalf n key (drop (2 * n) key) c d
halves n key a b c d is_key la lb lc ld =
    let front : length (a ++ b) ≡ 2 * n = omega (arith, length-append a b) in
    let whole : key ≡ (a ++ b) ++ (c ++ d) = is_key ∙ simp append_assoc in
    let half : drop (2 * n) key ≡ c ++ d = ap (drop (2 * n)) whole ∙ drop_front (2 * n) (a ++ b) (c ++ d) front in
    rw half record {
      half0 = part_first n c d lc;
      half1 = part_later n 0 c d lc ∙ part_only n d ld;
      last = (key_parts n key a b c d (sym is_key) la lb lc ld).p3;
    }

pub accepted_message : (Z : Scheme) (mode : Mode) (key context message : List ℕ) (opt_rand : Option (List ℕ))
    → HasLength Z.suite Z.n → 1 ≤ Z.d → IsTrueKey Z key → length key ≡ 4 * Z.n → length context ≤ 255 → length message ≤ 2 ^ 60
    → hash_verify_error Z mode (drop (2 * Z.n) key) context message (signature_of Z key opt_rand (mode_frame mode context message)) ≡ None
accepted_message Z mode key context message opt_rand law layers true_key size few short =
    let framed = mode_frame mode context message in
    let sk = part Z.n key 0 in
    let prf = part Z.n key 1 in
    let s = part Z.n key 2 in
    let root = top_root Z s sk in
    let la = part_len Z.n key 0 (omega arith) in
    let lb = part_len Z.n key 1 (omega arith) in
    let lc = part_len Z.n key 2 (omega arith) in
    let total : length key ≡ length sk + length prf + length s + length root
    = ap length true_key ∙ rw (length-append (sk ++ prf ++ s) root, length-append (sk ++ prf) s, length-append sk prf) refl in
    let ld : length root ≡ Z.n = omega arith in
    let near = halves Z.n key sk prf s root true_key la lb lc ld in
    let bytes = unwrap_or opt_rand s in
    let rand = Z.suite.prf_msg prf bytes framed in
    let rand_len : length rand ≡ Z.n = law.prf_msg prf bytes framed in
    let sig = signature_of Z key opt_rand framed in
    let sig_len : (length sig == signature_size Z) ≡ true
    = (Decides-eqb (length sig) (signature_size Z)).1 (length-digest_signature Z s sk rand (Z.suite.h_msg rand s (part Z.n key 3) framed) law rand_len) in
    let leads : checked_root Z s (part Z.n key 3) framed sig ≡ root = checked_root-signature Z key rand framed law layers rand_len in
    let same : bytes_eq (checked_root Z s root framed sig) root ≡ true
    = (bytes_eq-Decides _ _).1 (ap (λ r. checked_root Z s r framed sig) (sym near.last) ∙ leads) in
    rw (near.half0, near.half1, sig_len, le-ltb 255 (length context) few, le-ltb (2 ^ 60) (length message) short, same) refl
