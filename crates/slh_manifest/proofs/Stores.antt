-- The tree of the store in memory as a finite map from names to bytes.
use Rattle.std.proofs.Common.{◌≡◌, ℕ, Bool, true, false, cond, List, [], ◌∷◌, map, refl, sym, ◌∙◌, ap, subst, Some, Ordering, Less, Equal, Greater}
use Rattle.std.proofs.lemmas.Cmp.{nat_list_cmp_total, eq_by_cmp_equiv}
use Rattle.std.specs.BTreeMap.{insert_entry, is_at}
use Rattle.std.specs.Cmp.Lexicographic.{slice_cmp}
use Rattle.std.specs.FinMap.{find, insert, from_entries, get-from_entries, get-insert, same_map, nat_cmp-IsAntisymmetric, slice_cmp-IsAntisymmetric}
use Rattle.std.specs.Map.{lookup}
use Rattle.std.specs.Ordering.{nat_cmp, eq_by_cmp, is_eq, match_ordering}
use Rattle.slh_manifest.specs.Files.{bytes_of}

-- the entries by the bytes of their names
abbrev pub named : {K : Type 0} → (K → List ℕ) → List (K × List ℕ) → List (List ℕ × List ℕ)
named name es = map (λ e. (name e.0, e.1)) es

abbrev pub is_named : List ℕ → List ℕ → Bool
is_named q name = eq_by_cmp (slice_cmp nat_cmp) q name

-- the order of keys by the bytes of their names
abbrev pub by_name : {K : Type 0} → (K → List ℕ) → K → K → Ordering
by_name name a b = slice_cmp nat_cmp (name a) (name b)

-- what is found by a name
found : {K : Type 0} (name : K → List ℕ) (q : List ℕ) (es : List (K × List ℕ))
    → find (slice_cmp nat_cmp) q (named name es)
    ≡ lookup (is_at (λ k. slice_cmp nat_cmp q (name k))) es
found name q [] = refl
found name q (e ∷ es) = ap (cond (is_named q (name e.0)) (Some e.1)) (found name q es)

pub bytes_found : {K : Type 0} (name : K → List ℕ) (q : List ℕ) (es : List (K × List ℕ))
    → bytes_of (from_entries (named name es)) q
    ≡ lookup (is_at (λ k. slice_cmp nat_cmp q (name k))) es
bytes_found name q es = get-from_entries nat_list_cmp_total (named name es) q ∙ found name q es

-- names that aren't told apart are equal, and equal ones aren't told apart
same_name : (a b : List ℕ) → slice_cmp nat_cmp a b ≡ Equal → a ≡ b
same_name a b is = slice_cmp-IsAntisymmetric nat_cmp-IsAntisymmetric a b is

is_same : (a b : List ℕ) → is_named a b ≡ true → a ≡ b
is_same a b is =
    elim (slice_cmp nat_cmp a b) as (λ r. slice_cmp nat_cmp a b ≡ r → is_eq r ≡ true → a ≡ b) [
      | Less ↦ λ p e. absurd (cc e)
      | Equal ↦ λ p e. same_name a b p
      | Greater ↦ λ p e. absurd (cc e)
    ] refl is

not_same : (a b : List ℕ) → slice_cmp nat_cmp a b ≡ Greater → a ≡ b → ⊥
not_same a b greater same =
    let is : is_eq (slice_cmp nat_cmp a b) ≡ true =
    subst (λ n. is_named a n ≡ true) same ((eq_by_cmp_equiv nat_list_cmp_total).refl a) in
    let wrong : true ≡ false = sym is ∙ ap is_eq greater in
    cc wrong

replaced : {A : Type 0} (b : Bool) (x y z : A) → cond b x z ≡ cond b x (cond b y z)
replaced true x y z = refl
replaced false x y z = refl

swapped : {A : Type 0} (a b : Bool) (x y z : A) → (a ≡ true → b ≡ true → ⊥)
    → cond a x (cond b y z) ≡ cond b y (cond a x z)
swapped true true x y z apart = absurd (apart refl refl)
swapped true false x y z apart = refl
swapped false b x y z apart = refl

-- what is found after a name was put
found_after : {K : Type 0} (name : K → List ℕ) (k : K) (bytes q : List ℕ) (es : List (K × List ℕ))
    → find (slice_cmp nat_cmp) q (named name (insert_entry (by_name name) es k bytes))
    ≡ cond (is_named q (name k)) (Some bytes) (find (slice_cmp nat_cmp) q (named name es))
found_after name k bytes q [] = refl
found_after name k bytes q (e ∷ es) =
    let rest = find (slice_cmp nat_cmp) q (named name es) in
    elim (slice_cmp nat_cmp (name k) (name e.0)) as (λ r. slice_cmp nat_cmp (name k) (name e.0) ≡ r
    → find (slice_cmp nat_cmp) q (named name (match_ordering r ((k, bytes) ∷ e ∷ es) ((e.0, bytes) ∷ es) (e ∷ insert_entry (by_name name) es k bytes)))
    ≡ cond (is_named q (name k)) (Some bytes) (cond (is_named q (name e.0)) (Some e.1) rest)) [
      | Less ↦ λ p. refl
      | Equal ↦ λ p. replaced (is_named q (name e.0)) (Some bytes) (Some e.1) rest
          ∙ ap (λ n. cond (is_named q n) (Some bytes) (cond (is_named q (name e.0)) (Some e.1) rest)) (sym (same_name (name k) (name e.0) p))
      | Greater ↦ λ p. ap (cond (is_named q (name e.0)) (Some e.1)) (found_after name k bytes q es)
          ∙ swapped (is_named q (name e.0)) (is_named q (name k)) (Some e.1) (Some bytes) rest
          (λ here there. not_same (name k) (name e.0) p (sym (is_same q (name k) there) ∙ is_same q (name e.0) here))
    ] refl

pub put_is_insert : {K : Type 0} (name : K → List ℕ) (k : K) (bytes : List ℕ) (es : List (K × List ℕ))
    → from_entries (named name (insert_entry (by_name name) es k bytes))
    ≡ insert {R = slice_cmp nat_cmp} (from_entries (named name es)) (name k) bytes
put_is_insert name k bytes es =
    let after = insert_entry (by_name name) es k bytes in
    same_map nat_list_cmp_total (slice_cmp-IsAntisymmetric nat_cmp-IsAntisymmetric) _ _ (λ q.
    get-from_entries nat_list_cmp_total (named name after) q
    ∙ found_after name k bytes q es
    ∙ ap (cond (is_named q (name k)) (Some bytes)) (sym (get-from_entries nat_list_cmp_total (named name es) q))
    ∙ sym (get-insert nat_list_cmp_total (from_entries (named name es)) (name k) bytes q))
