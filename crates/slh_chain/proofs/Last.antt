-- One link after the other, whoever signed them.
use Rattle.std.proofs.Common.{◌≡◌, ℕ, suc, ◌+◌, ◌-◌, ◌<◌, ◌≤◌, List, [], ◌∷◌, length, Option, None, Some, Ok, Err, refl, ◌∙◌, ap, arith}
use Rattle.slh_core.specs.Parameters.{Scheme}
use Rattle.slh_core.specs.Refusals.{unless_refused}
use Rattle.slh_chain.specs.Links.{after_link, link_depth}
use Rattle.slh_chain.specs.Parts.{LinkParts, last_from, last_of, link_parts, outer_fault}
use Rattle.slh_chain.specs.declared.error.ChainError.{ChainError}

-- link number `links` is looked at next, and `last` is the one before it
pub record IsBefore (Z : Scheme) (chain : List ℕ) (last : Option LinkParts) (budget links : ℕ) (rest : List ℕ) : Type 0 where
  pub few : links + budget ≤ 16
  pub same : last_of Z chain ≡ last_from Z (17 - links) links budget last rest

pub before_first : (Z : Scheme) (chain : List ℕ) → IsBefore Z chain None 16 0 chain
before_first Z chain = record { few = omega arith; same = refl }

one_of : (Z : Scheme) (chain : List ℕ) (last : Option LinkParts) (budget links x : ℕ) (xs : List ℕ) → IsBefore Z chain last budget links (x ∷ xs)
    → (let bytes = x ∷ xs in last_of Z chain ≡ unless_refused (outer_fault Z links budget bytes)
    (last_from Z (17 - (links + 1)) (links + 1) (link_depth bytes) (Some (link_parts Z bytes)) (after_link Z bytes)))
unfolding last_from
one_of Z chain last budget links x xs is =
    let bytes = x ∷ xs in
    let left : 17 - links ≡ suc (17 - (links + 1)) = omega (arith, is.few) in
    let next : suc links ≡ links + 1 = omega arith in
    is.same ∙ ap (λ n. last_from Z n links budget last bytes) left
    ∙ ap (λ i. unless_refused (outer_fault Z links budget bytes)
    (last_from Z (17 - (links + 1)) i (link_depth bytes) (Some (link_parts Z bytes)) (after_link Z bytes))) next

pub at_end : (Z : Scheme) (chain rest : List ℕ) (last : Option LinkParts) (budget links : ℕ) → IsBefore Z chain last budget links rest
    → length rest ≡ 0 → last_of Z chain ≡ Ok last
unfolding last_from
at_end Z chain [] last budget links is none =
    let left : 17 - links ≡ suc (17 - (links + 1)) = omega (arith, is.few) in
    is.same ∙ ap (λ n. last_from Z n links budget last []) left
at_end Z chain (x ∷ xs) last budget links is none = absurd (omega (arith, none))

pub at_fault : (Z : Scheme) (chain rest : List ℕ) (last : Option LinkParts) (budget links : ℕ) (fault : ChainError) → IsBefore Z chain last budget links rest
    → 0 < length rest → outer_fault Z links budget rest ≡ Some fault → last_of Z chain ≡ Err fault
at_fault Z chain [] last budget links fault is some found = absurd (omega (arith, some))
at_fault Z chain (x ∷ xs) last budget links fault is some found =
    let bytes = x ∷ xs in
    one_of Z chain last budget links x xs is
    ∙ ap (λ f. unless_refused f (last_from Z (17 - (links + 1)) (links + 1) (link_depth bytes) (Some (link_parts Z bytes)) (after_link Z bytes))) found

pub at_next : (Z : Scheme) (chain rest rest' : List ℕ) (last : Option LinkParts) (budget links budget' : ℕ) → IsBefore Z chain last budget links rest
    → 0 < length rest → outer_fault Z links budget rest ≡ None → budget' ≡ link_depth rest → rest' ≡ after_link Z rest → budget' < budget
    → IsBefore Z chain (Some (link_parts Z rest)) budget' (links + 1) rest'
at_next Z chain [] rest' last budget links budget' is some good is_budget is_rest falls = absurd (omega (arith, some))
at_next Z chain (x ∷ xs) rest' last budget links budget' is some good is_budget is_rest falls =
    let bytes = x ∷ xs in record {
      few = omega (arith, is.few, falls);
      same = rw (is_budget, is_rest) (one_of Z chain last budget links x xs is
          ∙ ap (λ f. unless_refused f (last_from Z (17 - (links + 1)) (links + 1) (link_depth bytes) (Some (link_parts Z bytes)) (after_link Z bytes))) good);
    }
