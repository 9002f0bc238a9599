-- What calls of `add` make, by what they answered.
use Rattle.std.proofs.Common.{◌≡◌, ℕ, List, [], ◌∷◌, ◌||◌, Result, Ok, Err, OnOk, OnErr, ◌∙◌, ap}
use Rattle.std.specs.List.{All}
use Rattle.std.proofs.lemmas.List.Elements.{All-head, All-tail}
use Rattle.slh_ring.proofs.Adds.{empty_ring, members_with, or_front, or_none, ring_with}
use Rattle.slh_core.specs.Refusals.{RefusedOrNoMemory}
use Rattle.slh_ring.specs.Paths.{IsPath}
use Rattle.slh_ring.specs.Rings.{AreCalls, Call, IsRing, add_refusal, has_path, if_ok, ok_paths, same_path, with_path}
use Rattle.slh_ring.specs.declared.error.RingError.{RingError}
use Rattle.slh_ring.specs.declared.error.RingError.TheVariants.{Memory}

abbrev HasPath : Call → Type 0
HasPath call = IsPath call.path

-- the paths that calls leave, and those that they put there
pub record AreMade (old : List (List ℕ)) (calls : List Call) (new : List (List ℕ)) : Type 0 where
  pub ring : IsRing new
  pub members : (q : List ℕ) → has_path new q ≡ (has_path (ok_paths calls) q || has_path old q)

made_case : (old next new : List (List ℕ)) (path : List ℕ) (later : List Call) (result : Result (Unit {0}) RingError)
    → IsRing old → IsPath path → RefusedOrNoMemory Memory result (add_refusal old path) → OnOk result (next ≡ with_path old path) → OnErr result (next ≡ old)
    → (IsRing next → AreMade next later new)
    → IsRing new × ((q : List ℕ) → has_path new q ≡ (has_path (if_ok result path (ok_paths later)) q || has_path old q))
made_case old next new path later (Ok answer) ring is_path refusal added same made =
    let rest = made (rw added (ring_with old path ring is_path refusal)) in (
      rest.ring,
      λ q. rest.members q ∙ ap (λ (ps : List (List ℕ)). has_path (ok_paths later) q || has_path ps q) added
          ∙ ap (λ b. has_path (ok_paths later) q || b) (members_with q path old)
          ∙ or_front (has_path (ok_paths later) q) (same_path q path) (has_path old q),
    )
made_case old next new path later (Err error) ring is_path refusal added same made =
    let rest = made (rw same ring) in (
      rest.ring,
      λ q. rest.members q ∙ ap (λ (ps : List (List ℕ)). has_path (ok_paths later) q || has_path ps q) same,
    )

made : (calls : List Call) (old new : List (List ℕ)) → All HasPath calls → IsRing old → AreCalls old calls new → AreMade old calls new
made [] old new each ring are = record { ring = rw are ring; members = λ q. ap (λ (ps : List (List ℕ)). has_path ps q) are }
made (call ∷ later) old new each ring are =
    let is = are.1.0 in
    let step = made_case old are.0 new call.path later call.result ring (All-head HasPath call later each) is.refusal is.added is.same
    (λ next_ring. made later are.0 new (All-tail HasPath call later each) next_ring are.1.1) in
    record { ring = step.0; members = step.1 }

-- from none
pub made_ring : (calls : List Call) (new : List (List ℕ)) → All HasPath calls → AreCalls [] calls new → IsRing new
made_ring calls new each are = (made calls [] new each empty_ring are).ring

pub made_members : (calls : List Call) (new : List (List ℕ)) (q : List ℕ) → All HasPath calls → AreCalls [] calls new → has_path new q ≡ has_path (ok_paths calls) q
made_members calls new q each are = (made calls [] new each empty_ring are).members q ∙ or_none (has_path (ok_paths calls) q)
