-- A key whose check answers 0 has the root of its seeds.
use Rattle.std.proofs.Common.{◌≡◌, ℕ, ◌*◌, List, ◌++◌, length, Option, None, Some, refl, sym, ap, ◌∙◌, arith, inl, inr}
use Rattle.std.specs.Prelude.{◌==◌, IfSome, MatchOption}
use Rattle.std.specs.Option.{option_map}
use Rattle.std.proofs.lemmas.Bool.{cases_Bool}
use Rattle.std.proofs.lemmas.Bool.Decides.{Decides-eqb}
use Rattle.std.proofs.lemmas.Slice.Eq.{bytes_eq-Decides}
use Rattle.slh_audit.proofs.Pieces.{joined_parts}
use Rattle.slh_core.specs.Bytes.{joined, part}
use Rattle.slh_core.specs.Parameters.{Scheme}
use Rattle.slh_dsa_c.specs.Status.{has_own_root, key_number}
use Rattle.slh_sets.specs.Sets.{scheme_for}
use Rattle.slh_sets.specs.declared.set.Set.{Set}
use Rattle.slh_trees.specs.Keys.{IsTrueKey, top_root}

four_joined : (n : ℕ) (key : List ℕ) → length key ≡ 4 * n → key ≡ part n key 0 ++ part n key 1 ++ part n key 2 ++ part n key 3
unfolding joined
four_joined n key size = sym (joined_parts n 4 key size)

with_own_root : (Z : Scheme) (key : List ℕ) → length key ≡ 4 * Z.n → part Z.n key 3 ≡ top_root Z (part Z.n key 2) (part Z.n key 0) → IsTrueKey Z key
with_own_root Z key size own = four_joined Z.n key size ∙ ap (λ r. part Z.n key 0 ++ part Z.n key 1 ++ part Z.n key 2 ++ r) own

is_true : (Z : Scheme) (key : List ℕ) → key_number Z key ≡ 0 → IsTrueKey Z key
is_true Z key zero = elim (cases_Bool (length key == 4 * Z.n)) [
  | inr other ↦ (let five : key_number Z key ≡ 5 = rw other refl in absurd (omega (arith, five, zero)))
  | inl whole ↦ elim (cases_Bool (has_own_root Z key)) [
    | inr other ↦ (let four : key_number Z key ≡ 4 = rw (whole, other) refl in absurd (omega (arith, four, zero)))
    | inl own ↦ with_own_root Z key ((Decides-eqb (length key) (4 * Z.n)).0 whole) ((bytes_eq-Decides _ _).0 own)
  ]
]

pub told : (o : Option Set) (key : List ℕ) (status : ℕ) → MatchOption o (status ≡ 9) (λ set. status ≡ key_number (scheme_for set) key) → status ≡ 0
    → IfSome (option_map scheme_for o) (λ Z. IsTrueKey Z key)
told None key status answer zero = absurd (omega (arith, answer, zero))
told (Some set) key status answer zero = is_true (scheme_for set) key (sym answer ∙ zero)
