-- What a walk's answer says of every link.
use Rattle.std.proofs.Common.{◌≡◌, ℕ, zero, suc, ◌+◌, ◌<◌, ◌≤◌, inl, inr, List, [], ◌∷◌, Bool, true, false, Option, None, Some, Result, Ok, Err, if◌then◌else◌, refl, sym, ◌∙◌, ap, subst, arith}
use Rattle.std.proofs.lemmas.Bool.{cases_lt, ltb-true}
use Rattle.slh_core.specs.Parameters.{Scheme}
use Rattle.slh_core.specs.Refusals.{first_refusal}
use Rattle.slh_chain.specs.Walks.{Ended, IsFaulty, IsGood, answer_from, end_or, ended_at, fault_at, link_fault, place, walk_answer}
use Rattle.slh_chain.specs.declared.error.ChainError.{ChainError}

-- a good link's depth is below its budget
within : (a b : Bool) (e f : ChainError) (later : List (Option ChainError))
    → first_refusal ((if a then None else Some e) ∷ (if b then None else Some f) ∷ later) ≡ None → b ≡ true
within true true e f later good = refl
within true false e f later good = cc
within false b e f later good = cc

-- no link stands where no bytes are left
form_there : (rest : List ℕ) (Z : Scheme) (i : ℕ) (key : List ℕ) (budget : ℕ) → rest ≡ []
    → link_fault Z i (record { key = key; budget = budget; rest = rest }) ≡ None → ⊥
form_there [] Z i key budget none good = cc
form_there (x ∷ xs) Z i key budget none good = cc

module _ (Z : Scheme) (root chain : List ℕ) where
  falls : (i : ℕ) → fault_at Z root chain i ≡ None → (place Z root chain (suc i)).budget < (place Z root chain i).budget
  unfolding place
  falls i good = ltb-true _ _ (within _ _ _ _ _ good)

  more_good : (i : ℕ) → ((j : ℕ) → j < i → fault_at Z root chain j ≡ None) → fault_at Z root chain i ≡ None
      → (j : ℕ) → j < suc i → fault_at Z root chain j ≡ None
  more_good i before here j below =
      elim (cases_lt j i) [
        | inl earlier ↦ before j earlier
        | inr last ↦ (let same : i ≡ j = omega arith in ap (fault_at Z root chain) (sym same) ∙ here)
      ]

  -- what an answer says, of the links from i on, where those before are good
  abbrev Says : Result Ended ChainError → Type 0
  Says (Ok end) = IsGood Z root chain end.links × (end ≡ ended_at end.links (place Z root chain end.links))
  Says (Err fault) = (i : ℕ) × IsFaulty Z root chain i fault

  says_step : (i : ℕ) (rest : List ℕ) (fault : Option ChainError) (later : Result Ended ChainError)
      → (place Z root chain i).rest ≡ rest → fault_at Z root chain i ≡ fault
      → ((j : ℕ) → j < i → fault_at Z root chain j ≡ None)
      → (fault_at Z root chain i ≡ None → Says later)
      → Says (end_or rest (ended_at i (place Z root chain i)) fault later)
  says_step i [] fault later is_rest is_fault before on = (record { each = before; no_more = is_rest }, refl)
  says_step i (x ∷ xs) None later is_rest is_fault before on = on is_fault
  says_step i (x ∷ xs) (Some e) later is_rest is_fault before on =
      (i, record { each = before; there = λ none. absurd (let no : ◌≡◌ {A = List ℕ} (x ∷ xs) [] = sym is_rest ∙ none in cc); first = is_fault })

  says : (left i : ℕ) → i + left ≡ 17 → i + (place Z root chain i).budget ≤ 16
      → ((j : ℕ) → j < i → fault_at Z root chain j ≡ None) → Says (answer_from Z root chain left i)
  unfolding answer_from
  says zero i end few before = absurd (omega arith)
  says (suc left) i end few before =
      says_step i _ _ (answer_from Z root chain left (suc i)) refl refl before
      (λ good. says left (suc i) (omega arith) (let lower = falls i good in omega arith) (more_good i before good))

  pub said : Says (walk_answer Z root chain)
  unfolding walk_answer place
  said = says 17 0 refl (omega arith) (λ j below. absurd (omega arith))

  said_good : (answer : Result Ended ChainError) (end : Ended) → answer ≡ Ok end → Says answer
      → IsGood Z root chain end.links × (end ≡ ended_at end.links (place Z root chain end.links))
  said_good answer end is said = subst Says is said

  pub good : (end : Ended) → walk_answer Z root chain ≡ Ok end → IsGood Z root chain end.links × (end ≡ ended_at end.links (place Z root chain end.links))
  good end is = said_good (walk_answer Z root chain) end is said

  pub faulty : (fault : ChainError) → walk_answer Z root chain ≡ Err fault → (i : ℕ) × IsFaulty Z root chain i fault
  faulty fault is = subst Says is said

  -- two numbers of links at which the chain ends are one
  stops_once : (m n : ℕ) → IsGood Z root chain m → IsGood Z root chain n → m < n → ⊥
  stops_once m n first second below =
      form_there (place Z root chain m).rest Z m (place Z root chain m).key (place Z root chain m).budget first.no_more (second.each m below)

  one_end : (m n : ℕ) → IsGood Z root chain m → IsGood Z root chain n → m ≡ n
  one_end m n first second =
      elim (cases_lt m n) [
        | inl below ↦ absurd (stops_once m n first second below)
        | inr not_below ↦ elim (cases_lt n m) [
          | inl above ↦ absurd (stops_once n m second first above)
          | inr not_above ↦ omega arith
        ]
      ]

  no_fault_in : (links i : ℕ) (fault : ChainError) → IsGood Z root chain links → IsFaulty Z root chain i fault → ⊥
  no_fault_in links i fault all one =
      elim (cases_lt i links) [
        | inl inside ↦ (let no : ◌≡◌ {A = Option ChainError} (Some fault) None = sym one.first ∙ all.each i inside in cc)
        | inr past ↦ elim (cases_lt links i) [
          | inl later ↦ form_there (place Z root chain links).rest Z links (place Z root chain links).key (place Z root chain links).budget all.no_more (one.each links later)
          | inr not_later ↦ (let same : links ≡ i = omega arith in one.there (ap (λ n. (place Z root chain n).rest) (sym same) ∙ all.no_more))
        ]
      ]

  ended_case : (answer : Result Ended ChainError) (links : ℕ) → Says answer → IsGood Z root chain links → answer ≡ Ok (ended_at links (place Z root chain links))
  ended_case (Ok end) links said all =
      let same : end.links ≡ links = one_end end.links links said.0 all in
      ap (λ (e : Ended). Ok e) said.1 ∙ ap (λ n. Ok (ended_at n (place Z root chain n))) same
  ended_case (Err fault) links said all = absurd (no_fault_in links said.0 fault all said.1)

  pub ended : (links : ℕ) → IsGood Z root chain links → walk_answer Z root chain ≡ Ok (ended_at links (place Z root chain links))
  ended links all = ended_case (walk_answer Z root chain) links said all

  one_fault : (m n : ℕ) (e f : ChainError) → IsFaulty Z root chain m e → IsFaulty Z root chain n f → m < n → ⊥
  one_fault m n e f first second below =
      let no : ◌≡◌ {A = Option ChainError} (Some e) None = sym first.first ∙ second.each m below in cc

  faulty_case : (answer : Result Ended ChainError) (i : ℕ) (fault : ChainError) → Says answer → IsFaulty Z root chain i fault → answer ≡ Err fault
  faulty_case (Ok end) i fault said one = absurd (no_fault_in end.links i fault said.0 one)
  faulty_case (Err other) i fault said one =
      elim (cases_lt said.0 i) [
        | inl below ↦ absurd (one_fault said.0 i other fault said.1 one below)
        | inr not_below ↦ elim (cases_lt i said.0) [
          | inl above ↦ absurd (one_fault i said.0 fault other one said.1 above)
          | inr not_above ↦ (let same : said.0 ≡ i = omega arith in
              let both : ◌≡◌ {A = Option ChainError} (Some other) (Some fault) = sym said.1.first ∙ ap (fault_at Z root chain) same ∙ one.first in cc)
        ]
      ]

  pub refused : (i : ℕ) (fault : ChainError) → IsFaulty Z root chain i fault → walk_answer Z root chain ≡ Err fault
  refused i fault one = faulty_case (walk_answer Z root chain) i fault said one

  -- each good link takes at least one from the budget
  pub within_budget : (i : ℕ) → ((j : ℕ) → j < i → fault_at Z root chain j ≡ None) → i + (place Z root chain i).budget ≤ 16
  unfolding place
  within_budget zero before = omega arith
  within_budget (suc i) before =
      let earlier = within_budget i (λ j below. before j (omega arith)) in
      let lower = falls i (before i (omega arith)) in omega arith

  pub few : (links : ℕ) → IsGood Z root chain links → links ≤ 16
  few links all = let within_it = within_budget links all.each in omega arith
