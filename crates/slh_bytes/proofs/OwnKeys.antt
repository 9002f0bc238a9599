-- A key that was made is the one that its own seeds make, and its file is read as this key.
use Rattle.std.proofs.Common.{◌≡◌, ℕ, ◌+◌, ◌*◌, ◌-◌, List, ◌++◌, length, take, drop, refl, sym, ◌∙◌, ap, arith, append_assoc, length-append, length-drop}
use Rattle.std.proofs.Math.Seq.{drop-drop}
use Rattle.std.proofs.lemmas.List.{length-take-le}
use Rattle.std.proofs.lemmas.Slice.Eq.{bytes_eq-Decides}
use Rattle.slh_core.proofs.Joins.{drop_front, take_front}
use Rattle.slh_core.specs.Parameters.{Scheme}
use Rattle.slh_core.proofs.Chains.{length-wots_pk}
use Rattle.slh_core.specs.Suite.{HasLength, seeded}
use Rattle.slh_core.specs.Wots.{wots_pk}
use Rattle.slh_sets.specs.Sets.{scheme_for}
use Rattle.slh_sets.specs.declared.set.Set.{Set}
use Rattle.slh_merkle.proofs.Climbs.{length-merkle}
use Rattle.slh_trees.specs.Keys.{top_root}
use Rattle.slh_merkle.specs.Xmss.{tree_place}
use Rattle.slh_bytes.proofs.RoundTrip.{written_is_read}
use Rattle.slh_bytes.specs.Jobs.{made_of, own_key}
use Rattle.slh_bytes.specs.Made.{MadeIsOwn, MadeIsRead, made_by}
use Rattle.slh_bytes.specs.declared.key.Kind.TheVariants.{Signing}

length-top_root : (Z : Scheme) (s sk : List ℕ) → HasLength Z.suite Z.n → length (top_root Z s sk) ≡ Z.n
unfolding top_root
length-top_root Z s sk law =
    let K = seeded Z.suite Z.n s in
    length-merkle K (tree_place (Z.d - 1) 0) (wots_pk K sk (Z.d - 1) 0) Z.hp 0 law (λ i. length-wots_pk K sk (Z.d - 1) 0 i law)

pub made_is_own : (Z : Scheme) → HasLength Z.suite Z.n → MadeIsOwn Z
made_is_own Z law bytes enough =
    let n = Z.n in
    let sk = take n bytes in
    let prf = take n (drop n bytes) in
    let s = take n (drop (2 * n) bytes) in
    let r = top_root Z s sk in
    let key = made_by Z bytes in
    let back = prf ++ (s ++ r) in
    let whole : key ≡ sk ++ back = append_assoc (sk ++ prf) s r ∙ append_assoc sk prf (s ++ r) in
    let sk_len : length sk ≡ n = length-take-le n bytes (omega arith) in
    let prf_len : length prf ≡ n = length-take-le n (drop n bytes) (omega (arith, length-drop n bytes)) in
    let s_len : length s ≡ n = length-take-le n (drop (2 * n) bytes) (omega (arith, length-drop (2 * n) bytes)) in
    let first : take n key ≡ sk = ap (take n) whole ∙ take_front n sk back sk_len in
    let behind : drop n key ≡ back = ap (drop n) whole ∙ drop_front n sk back sk_len in
    let second : take n (drop n key) ≡ prf = ap (take n) behind ∙ take_front n prf (s ++ r) prf_len in
    let twice : n + n ≡ 2 * n = omega arith in
    let last : drop (2 * n) key ≡ s ++ r =
    ap (λ k. drop k key) (sym twice) ∙ sym (drop-drop n n key) ∙ ap (drop n) behind ∙ drop_front n prf (s ++ r) prf_len in
    let third : take n (drop (2 * n) key) ≡ s = ap (take n) last ∙ take_front n s r s_len in
    let size : length key ≡ 4 * n = ap length whole ∙ omega (arith, sk_len, prf_len, s_len, length-top_root Z s sk law, length-append sk back, length-append prf (s ++ r), length-append s r) in
    (size, rw (first, second, third) refl)

pub made_is_read : (set : Set) → MadeIsOwn (scheme_for set) → MadeIsRead set
made_is_read set own random enough bytes =
    let made = own random enough in
    let same = (bytes_eq-Decides (made_of set random) (made_of set (made_of set random))).1 (sym made.1) in
    ap own_key (written_is_read Signing set (made_of set random) bytes made.0) ∙ rw same refl
