-- Heads that are taken one after the other bind what came before.
use Rattle.std.proofs.Common.{◌≡◌, ◌≢◌, ℕ, ◌<◌, ◌≤◌, List, [], ◌∷◌, length, take, map, true, false, Bool, refl, sym, ap, ◌∙◌, subst, arith, inl, inr, Option, Some, None, All, get_or, not}
use Rattle.std.specs.Prelude.{◌==◌, nat_lt, if◌then◌else◌}
use Rattle.std.proofs.lemmas.Bool.{cases_Bool, cases_lt, le-ltb}
use Rattle.std.proofs.lemmas.List.{take-take, take_all}
use Rattle.slh_core.specs.Parameters.{Scheme}
use Rattle.sha256_lanes.proofs.Digest.{length-sha256}
use Rattle.sha256_lanes.specs.Sha256.{sha256}
use Rattle.merkle_tree.proofs.Binding.{clash_is, first_is}
use Rattle.merkle_tree.proofs.Equations.{entries_bound, is_checked}
use Rattle.merkle_tree.proofs.Included.{entry_bound}
use Rattle.merkle_tree.specs.Binding.{entries_clash, entry_clash}
use Rattle.merkle_tree.specs.Clashes.{Inputs, first_clash}
use Rattle.merkle_tree.specs.Climb.{is_included, path_sides}
use Rattle.merkle_tree.specs.Consistency.{is_consistent, proof_len}
use Rattle.merkle_tree.specs.Tree.{entries_root, leaf_hash}
use Rattle.slh_core.specs.Refusals.{first_refusal, length_refusal, message_refusal}
use Rattle.slh_log.specs.Calls.{empty_refusal, growth_refusal, index_refusal, leaf_refusal, presence_refusal, smaller_refusal}
use Rattle.slh_log.specs.declared.error.PresenceError.TheVariants.{Entry, Invalid, Length}
use Rattle.slh_log.specs.declared.error.GrowthError.TheVariants.{Length as ProofLength, Invalid as InvalidProof}
use Rattle.slh_log.specs.Heads.{AreTaken, IsFound, IsGrowth, IsHead, Step, last_entries, steps_clash}
use Rattle.slh_log.specs.Reading.{first_some, read_root, read_size}

-- ---- what passes without a refusal

last_of_four : {E : Type 0} (a b c : Option E) (t : Bool) (e : E) → first_refusal (a ∷ b ∷ c ∷ (if t then None else Some e) ∷ []) ≡ None → t ≡ true
last_of_four None None None true e is = refl
last_of_four None None None false e is = cc is
last_of_four None None (Some x) t e is = cc is
last_of_four None (Some x) c t e is = cc is
last_of_four (Some x) b c t e is = cc is

last_of_three : {E : Type 0} (a b : Option E) (t : Bool) (e : E) → first_refusal (a ∷ b ∷ (if t then None else Some e) ∷ []) ≡ None → t ≡ true
last_of_three None None true e is = refl
last_of_three None None false e is = cc is
last_of_three None (Some x) t e is = cc is
last_of_three (Some x) b t e is = cc is

third : {E : Type 0} (a b c : Option E) → first_refusal (a ∷ b ∷ c ∷ []) ≡ None → c ≡ None
third None None None is = refl
third None None (Some x) is = cc is
third None (Some x) c is = cc is
third (Some x) b c is = cc is

pub grown : (m n : ℕ) (old new : List ℕ) (proof : List (List ℕ)) → growth_refusal m old n new proof ≡ None → is_consistent sha256 m n old new proof ≡ true
grown m n old new proof is =
    last_of_four (empty_refusal m) (smaller_refusal m n) (length_refusal ProofLength (proof_len m n) (length proof)) (is_consistent sha256 m n old new proof) InvalidProof is

pub present : (size : ℕ) (root : List ℕ) (i : ℕ) (entry : List ℕ) (path : List (List ℕ)) → presence_refusal size root i entry path ≡ None
    → is_included sha256 i size (leaf_hash sha256 entry) root path ≡ true
present size root i entry path is =
    let leaf = leaf_hash sha256 entry in
    let last = third (index_refusal i size) (message_refusal Entry entry) (leaf_refusal size root i leaf path) is in
    last_of_three (index_refusal i size) (length_refusal Length (length (path_sides i size)) (length path)) (is_included sha256 i size leaf root path) Invalid last

-- ---- a clash that is found is one

found : (ps : List Inputs) (c : Inputs) → first_clash sha256 ps ≡ Some c → IsFound (Some c)
found ps c is =
    let both = clash_is sha256 c (first_is sha256 ps c is) in
    record { inputs = c; is = refl; differ = both.0; digest = both.1 }

pub is_found : (ps : List Inputs) (c : Inputs) → first_clash sha256 ps ≡ Some c → IsFound (first_clash sha256 ps)
is_found ps c is = subst IsFound (sym is) (found ps c is)

first_found : (a b : Option Inputs) → IsFound a → IsFound (first_some a b)
first_found None b f = absurd (none_is f.inputs f.is)
  where
    none_is : (c : Inputs) → None ≡ Some c → ⊥
    none_is c is = cc is
first_found (Some c) b f = f

-- ---- step after step

-- a front of a front
front : (a b c : List (List ℕ)) → length a ≤ length b → a ≡ take (length a) b → b ≡ take (length b) c → a ≡ take (length a) c
front a b c more first second =
    first ∙ ap (take (length a)) second ∙ take-take (length a) (length b) c more

grown_at : (a : List (List ℕ)) (step : Step) → IsGrowth a step → a ≢ take (length a) step.entries → IsFound (entries_clash sha256 a step.entries step.proof)
grown_at a step growth differ =
    let holds = grown (length a) (length step.entries) (entries_root sha256 a) (entries_root sha256 step.entries) step.proof growth.grows in
    let clash = entries_bound sha256 length-sha256 a step.entries step.proof growth.digests holds differ in
    is_found _ clash.0 clash.1

-- no clash where nothing is found
none_is : (c : Inputs) → None ≡ Some c → ⊥
none_is c is = cc is

grown_more : (a : List (List ℕ)) (step : Step) → IsGrowth a step → length a ≤ length step.entries
grown_more a step growth =
    (is_checked sha256 (length a) (length step.entries) (entries_root sha256 a) (entries_root sha256 step.entries) step.proof
    (grown (length a) (length step.entries) (entries_root sha256 a) (entries_root sha256 step.entries) step.proof growth.grows)).within

-- one step, where the steps after it bind
step_bind : (a : List (List ℕ)) (step : Step) (steps : List Step) → IsGrowth a step
    → (step.entries ≢ take (length step.entries) (last_entries step.entries steps) → IsFound (steps_clash step.entries steps))
    → a ≢ take (length a) (last_entries step.entries steps)
    → (here : Option Inputs) → here ≡ entries_clash sha256 a step.entries step.proof
    → IsFound (first_some here (steps_clash step.entries steps))
step_bind a step steps growth later differ (Some c) is =
    first_found (Some c) (steps_clash step.entries steps) (subst IsFound (sym is) (is_found _ c (sym is)))
step_bind a step steps growth later differ None is =
    later (λ second. none_at (grown_at a step growth (λ first. differ (front a step.entries (last_entries step.entries steps) (grown_more a step growth) first second))))
  where
    none_at : IsFound (entries_clash sha256 a step.entries step.proof) → ⊥
    none_at f = none_is f.inputs (is ∙ f.is)

pub steps_bind : (Z : Scheme) (set key origin : List ℕ) (entries : List (List ℕ)) (steps : List Step) → AreTaken Z set key origin entries steps
    → entries ≢ take (length entries) (last_entries entries steps) → IsFound (steps_clash entries steps)
steps_bind Z set key origin entries [] taken differ = absurd (differ (sym (take_all (length entries) entries (omega arith))))
steps_bind Z set key origin entries (step ∷ steps) taken differ =
    step_bind entries step steps taken.1 (λ further. steps_bind Z set key origin step.entries steps taken.2 further) differ
    (entries_clash sha256 entries step.entries step.proof) refl

-- ---- presence

pub present_binds : (entries : List (List ℕ)) (i : ℕ) (entry : List ℕ) (path : List (List ℕ)) → All (λ d. length d ≡ 32) path
    → presence_refusal (length entries) (entries_root sha256 entries) i entry path ≡ None → entry ≢ get_or entries i [] → IsFound (entry_clash sha256 entries i entry path)
present_binds entries i entry path wide passes differ =
    let clash = entry_bound sha256 length-sha256 i entries entry path wide (present (length entries) (entries_root sha256 entries) i entry path passes) differ in
    is_found _ clash.0 clash.1
