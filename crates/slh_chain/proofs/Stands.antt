-- Links that are left, where they stand.
use Rattle.std.proofs.Common.{◌≡◌, ℕ, zero, suc, ◌+◌, ◌-◌, ◌<◌, ◌≤◌, Bool, true, List, [], ◌∷◌, length, Option, None, Some, Result, Ok, IfOk, refl, sym, ◌∙◌, ap, subst, arith, ◌⊎◌, inl, inr, ◌==◌, nat_le, unwrap_or, if◌then◌else◌, false}
use Rattle.std.proofs.lemmas.Bool.{and_parts, le-leb}
use Rattle.std.specs.Cmp.Derive.{both_true}
use Rattle.slh_core.specs.Parameters.{Scheme}
use Rattle.slh_core.proofs.Refusals.{first_none, passed}
use Rattle.slh_core.specs.Refusals.{first_refusal, randomizer_refusal}
use Rattle.slh_chain.specs.Links.{after_link, delegate_refusal, has_form, is_name_size, link_depth, link_name, link_subject}
use Rattle.slh_chain.specs.Parts.{IsWalked, have_form, link_parts, links_in}
use Rattle.slh_chain.specs.Walks.{Ended, fault_at, place, walk_answer}
use Rattle.slh_chain.specs.declared.error.LinkError.{LinkError}
use Rattle.slh_chain.specs.declared.error.LinkError.TheVariants.{Name, Depth, Randomizer, Memory}
use Rattle.slh_chain.proofs.Exact.{good, within_budget}

-- the first of the links, and the others
pub links_next : (Z : Scheme) (count : ℕ) (bytes : List ℕ) → 0 < count → links_in Z count bytes ≡ link_parts Z bytes ∷ links_in Z (count - 1) (after_link Z bytes)
links_next Z zero bytes some = absurd (omega (arith, some))
links_next Z (suc count) bytes some =
    let less : suc count - 1 ≡ count = omega arith in
    ap (λ n. link_parts Z bytes ∷ links_in Z n (after_link Z bytes)) (sym less)

pub form_here : (Z : Scheme) (count : ℕ) (bytes : List ℕ) → 0 < count → have_form Z count bytes ≡ true → has_form Z bytes ≡ true
form_here Z zero bytes some have = absurd (omega (arith, some))
form_here Z (suc count) bytes some have = (and_parts (has_form Z bytes) (have_form Z count (after_link Z bytes)) have).0

pub form_next : (Z : Scheme) (count : ℕ) (bytes : List ℕ) → 0 < count → have_form Z count bytes ≡ true → have_form Z (count - 1) (after_link Z bytes) ≡ true
form_next Z zero bytes some have = absurd (omega (arith, some))
form_next Z (suc count) bytes some have =
    let less : suc count - 1 ≡ count = omega arith in
    ap (λ n. have_form Z n (after_link Z bytes)) less ∙ (and_parts (has_form Z bytes) (have_form Z count (after_link Z bytes)) have).1

-- a link without a fault has the form
form_of_good : (Z : Scheme) (root chain : List ℕ) (i : ℕ) → fault_at Z root chain i ≡ None → has_form Z (place Z root chain i).rest ≡ true
form_of_good Z root chain i fine = passed _ _ (first_none _ _ fine).0

forms_from : (Z : Scheme) (root chain : List ℕ) (count i : ℕ) → ((j : ℕ) → j < i + count → fault_at Z root chain j ≡ None) → have_form Z count (place Z root chain i).rest ≡ true
unfolding place
forms_from Z root chain zero i each = refl
forms_from Z root chain (suc count) i each =
    both_true (form_of_good Z root chain i (each i (omega arith)))
    (forms_from Z root chain count (suc i) (λ j below. each j (omega arith)))

-- so they do in a chain that was walked
pub walked_stands : (Z : Scheme) (root chain : List ℕ) (end : Ended) → walk_answer Z root chain ≡ Ok end → IsWalked Z end.links end.budget chain
unfolding place
walked_stands Z root chain end is =
    let known = good Z root chain end is in
    let budget : end.budget ≡ (place Z root chain end.links).budget = ap (λ (e : Ended). e.budget) known.1 in
    let few = within_budget Z root chain end.links known.0.each in
    record {
      forms = forms_from Z root chain end.links 0 (λ j below. known.0.each j (omega arith));
      budget_fits = omega (arith, budget, few);
    }

-- the parts of the first link, and what follows it
pub links_step : (Z : Scheme) (count : ℕ) (bytes : List ℕ) (depth : ℕ) (name subject rest : List ℕ) → 0 < count
    → depth ≡ link_depth bytes → name ≡ link_name bytes → subject ≡ link_subject Z bytes → rest ≡ after_link Z bytes
    → links_in Z count bytes ≡ record { depth = depth; name = name; subject = subject } ∷ links_in Z (count - 1) rest
links_step Z count bytes depth name subject rest some depth_is name_is subject_is rest_is =
    links_next Z count bytes some
    ∙ ap (λ (d : ℕ). record { depth = d; name = link_name bytes; subject = link_subject Z bytes } ∷ links_in Z (count - 1) (after_link Z bytes)) (sym depth_is)
    ∙ ap (λ (n : List ℕ). record { depth = depth; name = n; subject = link_subject Z bytes } ∷ links_in Z (count - 1) (after_link Z bytes)) (sym name_is)
    ∙ ap (λ (s : List ℕ). record { depth = depth; name = name; subject = s } ∷ links_in Z (count - 1) (after_link Z bytes)) (sym subject_is)
    ∙ ap (λ (r : List ℕ). record { depth = depth; name = name; subject = subject } ∷ links_in Z (count - 1) r) (sym rest_is)

pub ok_is : {A E : Type 0} (result : Result A E) (x : A) (P : A → Type 0) → result ≡ Ok x → IfOk result P → P x
ok_is result x P is all = subst (λ r. IfOk r P) is all

-- a depth that fits is no cause to refuse a link
depth_fits : (named fits : Bool) (refusal : Option LinkError) → fits ≡ true → (refusal ≡ None) ⊎ (refusal ≡ Some Randomizer)
    → Depth ≡ unwrap_or (first_refusal ((if named then None else Some Name) ∷ (if fits then None else Some Depth) ∷ refusal ∷ [])) Memory → ⊥
depth_fits false fits refusal it_fits either is = absurd (cc is)
depth_fits true false refusal it_fits either is = absurd (cc it_fits)
depth_fits true true None it_fits either is = absurd (cc is)
depth_fits true true (Some e) it_fits (inl none) is = absurd (cc none)
depth_fits true true (Some e) it_fits (inr some) is = absurd (cc (is, some))

randomizer_either : (n : ℕ) (opt_rand : Option (List ℕ)) → (randomizer_refusal Randomizer n opt_rand ≡ None) ⊎ (randomizer_refusal Randomizer n opt_rand ≡ Some Randomizer)
randomizer_either n None = inl refl
randomizer_either n (Some bytes) =
    elim (length bytes == n) as (λ (b : Bool). ((if b then None else Some Randomizer) ≡ None) ⊎ ((if b then None else Some Randomizer) ≡ Some Randomizer)) [
      | true ↦ inl refl
      | false ↦ inr refl
    ]

pub never_depth : (Z : Scheme) (name : List ℕ) (depth : ℕ) (opt_rand : Option (List ℕ)) → depth ≤ 15 → Depth ≡ unwrap_or (delegate_refusal Z name depth opt_rand) Memory → ⊥
never_depth Z name depth opt_rand low is =
    depth_fits (is_name_size (length name)) (nat_le depth 15) (randomizer_refusal Randomizer Z.n opt_rand) (le-leb depth 15 low) (randomizer_either Z.n opt_rand) is
