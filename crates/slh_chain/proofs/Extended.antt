-- Chains with links more at their ends.
use Rattle.std.proofs.Common.{◌≡◌, ℕ, zero, suc, ◌+◌, ◌*◌, ◌^◌, ◌<◌, ◌≤◌, List, [], ◌∷◌, ◌++◌, length, drop, true, None, Ok, refl, sym, ◌∙◌, ap, subst, arith, append_assoc, add-one}
use Rattle.std.proofs.lemmas.Bool.{and_parts, leb-true, ltb-true}
use Rattle.slh_core.specs.Parameters.{Scheme}
use Rattle.slh_frames.specs.declared.frame.Mode.TheVariants.{Pure}
use Rattle.slh_dsa.specs.Calls.{is_valid}
use Rattle.slh_core.proofs.Refusals.{first_none, passed}
use Rattle.slh_chain.proofs.Cuts.{link_read, link_written}
use Rattle.slh_chain.proofs.Delegated.{Accepts, no_fault, walked}
use Rattle.slh_chain.proofs.Exact.{good}
use Rattle.slh_chain.proofs.Walks.{IsAt, at_next, at_start}
use Rattle.slh_chain.specs.Delegations.{AreDelegated, Delegation, chain_of, last_depth, last_subject}
use Rattle.slh_chain.specs.Links.{ReadsLink, after_link, body_of, chain_context, has_form, link_body, link_depth, link_name, link_signature, link_subject}
use Rattle.slh_chain.specs.Walks.{Ended, Place, ended_at, fault_at, link_fault, place, walk_answer}

-- a link is read as before, whatever follows it
read_before : (Z : Scheme) (bytes more : List ℕ) → has_form Z bytes ≡ true
    → ReadsLink Z (link_depth bytes) (link_name bytes) (link_subject Z bytes) (link_signature Z bytes) (after_link Z bytes ++ more) (bytes ++ more)
read_before Z bytes more form =
    let link = link_written Z bytes form in
    let body = link_body (link_depth bytes) (link_name bytes) (link_subject Z bytes) in
    link_read Z _ _ _ _ _ (bytes ++ more) record {
      depth_fits = link.depth_fits;
      name_low = link.name_low;
      name_high = link.name_high;
      subject_len = link.subject_len;
      sig_len = link.sig_len;
      layout = ap (λ l. l ++ more) link.layout ∙ append_assoc (body ++ link_signature Z bytes) (after_link Z bytes) more;
    }

-- what a good link is
pub record IsGoodLink (Z : Scheme) (key : List ℕ) (budget : ℕ) (bytes : List ℕ) : Type 0 where
  pub form : has_form Z bytes ≡ true
  pub falls : link_depth bytes < budget
  pub valid : is_valid Z Pure key chain_context (body_of Z bytes) (link_signature Z bytes) ≡ true

good_link : (Z : Scheme) (i : ℕ) (at : Place) → link_fault Z i at ≡ None → IsGoodLink Z at.key at.budget at.rest
good_link Z i at none =
    let form = first_none _ _ none in
    let budget = first_none _ _ form.1 in
    let signature = first_none _ _ budget.1 in
    record {
      form = passed _ _ form.0;
      falls = ltb-true _ _ (passed _ _ budget.0);
      valid = passed _ _ signature.0;
    }

good_before : (Z : Scheme) (key : List ℕ) (budget : ℕ) (bytes more : List ℕ) → IsGoodLink Z key budget bytes → IsGoodLink Z key budget (bytes ++ more)
good_before Z key budget bytes more link =
    let here = read_before Z bytes more link.form in
    let own = link_read Z _ _ _ _ _ bytes (link_written Z bytes link.form) in
    record {
      form = here.form;
      falls = rw here.depth_read link.falls;
      valid = ap (λ b. is_valid Z Pure key chain_context b (link_signature Z (bytes ++ more))) (here.body_read ∙ sym own.body_read)
          ∙ ap (λ s. is_valid Z Pure key chain_context (body_of Z bytes) s) here.sig_read ∙ link.valid;
    }

some_bytes : (Z : Scheme) (bytes : List ℕ) → has_form Z bytes ≡ true → 0 < length bytes
some_bytes Z bytes form =
    let two : 2 ≤ length bytes = leb-true _ _ (and_parts _ _ (and_parts _ _ (and_parts _ _ form).0).0).0 in
    omega (arith, two)

module _ (Z : Scheme) (root chain more : List ℕ) (links : ℕ) (each : (i : ℕ) → i < links → fault_at Z root chain i ≡ None) where
  abbrev at : ℕ → Place
  at i = place Z root chain i

  pub at_each : (i : ℕ) → i ≤ links → IsAt Z root (chain ++ more) (at i).key (at i).budget i ((at i).rest ++ more)
  unfolding place
  at_each zero within = at_start Z root (chain ++ more)
  at_each (suc i) within =
      let link = good_link Z i (at i) (each i (omega arith)) in
      let joined = good_before Z (at i).key (at i).budget (at i).rest more link in
      let read = read_before Z (at i).rest more link.form in
      subst (λ n. IsAt Z root (chain ++ more) (at (suc i)).key (at (suc i)).budget n ((at (suc i)).rest ++ more)) (add-one i)
      (at_next Z root (chain ++ more) (at i).key ((at i).rest ++ more) (at (suc i)).key ((at (suc i)).rest ++ more) (at i).budget i (at (suc i)).budget
      (at_each i (omega arith)) (some_bytes Z ((at i).rest ++ more) joined.form) (no_fault Z i (at i).budget (at i).key ((at i).rest ++ more) joined.form joined.falls joined.valid)
      (sym read.subject_read) (sym read.depth_read) (sym read.after) link.falls)

-- a walk comes to the end of the chain, and goes on
at_more : (Z : Scheme) (root chain more : List ℕ) (end : Ended) → walk_answer Z root chain ≡ Ok end → IsAt Z root (chain ++ more) end.key end.budget end.links more
at_more Z root chain more end is =
    let known = good Z root chain end is in
    let here = at_each Z root chain more end.links known.0.each end.links (omega arith) in
    let rest : (place Z root chain end.links).rest ++ more ≡ more = ap (λ l. l ++ more) known.0.no_more in
    subst (λ (e : Ended). IsAt Z root (chain ++ more) e.key e.budget end.links more) (sym known.1)
    (subst (IsAt Z root (chain ++ more) (place Z root chain end.links).key (place Z root chain end.links).budget end.links) rest here)

pub extended_walked : (Z : Scheme) (n : ℕ) (root chain : List ℕ) (end : Ended) (xs : List Delegation) → Z.n ≡ n → n ≤ 32 → Accepts Z n
    → walk_answer Z root chain ≡ Ok end → AreDelegated Z end.key end.budget xs
    → walk_answer Z root (chain ++ chain_of Z xs) ≡ Ok (record { key = last_subject end.key xs; budget = last_depth end.budget xs; links = end.links + length xs })
extended_walked Z n root chain end xs size small accepts is delegated =
    walked Z n root (chain ++ chain_of Z xs) end.key end.budget end.links (end.links + length xs) xs size small accepts (at_more Z root chain (chain_of Z xs) end is) delegated refl
