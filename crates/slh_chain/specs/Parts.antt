-- The links of a chain by their parts, where so many stand one after another. Z is the scheme.
use Rattle.std.specs.Prelude.{◌≡◌, ◌≤◌, ℕ, zero, suc, List, [], ◌∷◌, Bool, true, ◌&&◌}
use Rattle.std.specs.Prelude.{Option, None, Some, Result, Ok, Err}
use Rattle.slh_core.specs.Parameters.{Scheme}
use Rattle.slh_core.specs.Refusals.{first_refusal, unless_refused}
use Rattle.slh_chain.specs.Links.{after_link, has_form, link_depth, link_name, link_subject}
use Rattle.slh_chain.specs.Walks.{Ended, Place, budget_fault, form_fault}
use Rattle.slh_chain.specs.declared.error.ChainError.{ChainError}
use Rattle.slh_chain.specs.declared.error.ChainError.TheVariants.{Budget}

-- what a link says
pub record LinkParts : Type 0 where
  pub depth : ℕ
  pub name : List ℕ
  pub subject : List ℕ

-- the link that bytes begin with
abbrev pub link_parts : Scheme → List ℕ → LinkParts
link_parts Z bytes =
    record { depth = link_depth bytes; name = link_name bytes; subject = link_subject Z bytes }

-- the first links, so many
abbrev pub links_in : Scheme → ℕ → List ℕ → List LinkParts
links_in Z zero bytes = []
links_in Z (suc count) bytes = link_parts Z bytes ∷ links_in Z count (after_link Z bytes)

-- whether so many stand there
abbrev pub have_form : Scheme → ℕ → List ℕ → Bool
have_form Z zero bytes = true
have_form Z (suc count) bytes = has_form Z bytes && have_form Z count (after_link Z bytes)

-- a chain that was walked: its bytes, and where it ends
pub record Walked : Type 0 where
  pub bytes : List ℕ
  pub end : Ended

-- so many links stand there, and the last one's depth, or the first one's budget, is at most 16
pub record IsWalked (Z : Scheme) (links budget : ℕ) (bytes : List ℕ) : Type 0 where
  pub forms : have_form Z links bytes ≡ true
  pub budget_fits : budget ≤ 16

-- why no good link i is here, whoever signed it: it has no form, or its depth isn't below the budget
abbrev pub outer_fault : Scheme → ℕ → ℕ → List ℕ → Option ChainError
outer_fault Z i budget bytes =
    let at : Place = record { key = []; budget = budget; rest = bytes } in
    first_refusal (form_fault Z i at ∷ budget_fault i at ∷ [])

-- the last link from link i on, of which `left` are looked at, where `last` is the one before it
unfoldable pub last_from : Scheme → ℕ → ℕ → ℕ → Option LinkParts → List ℕ
    → Result (Option LinkParts) ChainError
last_from Z left i budget last [] = Ok last
last_from Z zero i budget last (x ∷ xs) = Err (Budget i)
last_from Z (suc left) i budget last (x ∷ xs) =
    let bytes = x ∷ xs in
    unless_refused (outer_fault Z i budget bytes)
    (last_from Z left (suc i) (link_depth bytes) (Some (link_parts Z bytes)) (after_link Z bytes))

-- the last link of a chain, or the fault of the first link that has one, whoever signed them
abbrev pub last_of : Scheme → List ℕ → Result (Option LinkParts) ChainError
last_of Z chain = last_from Z 17 0 16 None chain
