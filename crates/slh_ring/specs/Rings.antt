-- Rings: up to 64 paths in the order of their lists.
use Rattle.std.specs.Prelude.{◌≡◌, ℕ, ◌≤◌, List, [], ◌∷◌, length, Bool, nat_le}
use Rattle.std.specs.Prelude.{Option, None, Some, Result, Ok, Err, OnOk, OnErr, if◌then◌else◌}
use Rattle.std.specs.BTreeSet.{insert_key}
use Rattle.std.specs.Set.{remove_key}
use Rattle.std.specs.Cmp.Lexicographic.{slice_cmp}
use Rattle.std.specs.List.{All, list_any}
use Rattle.std.specs.List.Sorted.{IsStrictlySortedBy}
use Rattle.std.specs.Ordering.{is_eq, nat_cmp}
use Rattle.std.specs.declared.cmp.Ordering.{Ordering}
use Rattle.slh_core.specs.Refusals.{RefusedOrNoMemory, first_refusal}
use Rattle.slh_ring.specs.Paths.{IsPath}
use Rattle.slh_ring.specs.declared.error.RingError.{RingError}
use Rattle.slh_ring.specs.declared.error.RingError.TheVariants.{Present, Full, Memory}

-- paths are ordered as lists
abbrev pub path_cmp : List ℕ → List ℕ → Ordering
path_cmp = slice_cmp nat_cmp

-- what a ring keeps beside the order, which its set keeps
pub record IsKept (paths : List (List ℕ)) : Type 0 where
  pub few : length paths ≤ 64
  pub each : All IsPath paths

-- up to 64 paths that rise strictly
pub record IsRing (paths : List (List ℕ)) : Type 0 where
  pub few : length paths ≤ 64
  pub each : All IsPath paths
  pub rising : IsStrictlySortedBy path_cmp paths

-- whether two paths are one, and whether a path is there
abbrev pub same_path : List ℕ → List ℕ → Bool
same_path path p = is_eq (path_cmp path p)

abbrev pub has_path : List (List ℕ) → List ℕ → Bool
has_path paths path = list_any (same_path path) paths

-- the paths with one more, at its place; with the same ones, where it is there
abbrev pub with_path : List (List ℕ) → List ℕ → List (List ℕ)
with_path = insert_key path_cmp

-- the paths without one; the same ones, where it isn't there
abbrev pub without_path : List (List ℕ) → List ℕ → List (List ℕ)
without_path paths path = remove_key (same_path path) paths

-- why a path isn't added: it is there, or there are 64 others
abbrev pub present_refusal : List (List ℕ) → List ℕ → Option RingError
present_refusal paths path = if has_path paths path then Some Present else None

abbrev pub full_refusal : List (List ℕ) → Option RingError
full_refusal paths = if nat_le 64 (length paths) then Some Full else None

abbrev pub add_refusal : List (List ℕ) → List ℕ → Option RingError
add_refusal paths path = first_refusal (present_refusal paths path ∷ full_refusal paths ∷ [])

-- the paths after one was to be added, which this refused or nothing did
abbrev pub added : Option RingError → List (List ℕ) → List ℕ → List (List ℕ)
added None paths path = with_path paths path
added (Some refusal) paths path = paths

-- the paths after others were to be added in turn, memory never wanting
abbrev pub after_adds : List (List ℕ) → List (List ℕ) → List (List ℕ)
after_adds paths [] = paths
after_adds paths (p ∷ ps) = after_adds (added (add_refusal paths p) paths p) ps

-- those of them that weren't refused, in the order in which they came
abbrev pub if_accepted : Option RingError → List ℕ → List (List ℕ) → List (List ℕ)
if_accepted None path later = path ∷ later
if_accepted (Some refusal) path later = later

abbrev pub accepted : List (List ℕ) → List (List ℕ) → List (List ℕ)
accepted paths [] = []
accepted paths (p ∷ ps) =
    if_accepted (add_refusal paths p) p (accepted (added (add_refusal paths p) paths p) ps)

-- a call of `add`: its path, and what it answered
pub record Call : Type 0 where
  pub path : List ℕ
  pub result : Result (Unit {0}) RingError

-- what the clauses of `add` say of a call
pub record IsCall (old : List (List ℕ)) (call : Call) (new : List (List ℕ)) : Type 0 where
  pub refusal : RefusedOrNoMemory Memory call.result (add_refusal old call.path)
  pub added : OnOk call.result (new ≡ with_path old call.path)
  pub same : OnErr call.result (new ≡ old)

-- calls one after another, from some paths to others
abbrev pub AreCalls : List (List ℕ) → List Call → List (List ℕ) → Type 0
AreCalls old [] new = new ≡ old
AreCalls old (call ∷ later) new =
    (next : List (List ℕ)) × (IsCall old call next × AreCalls next later new)

-- the paths of those that answered Ok
abbrev pub if_ok : Result (Unit {0}) RingError → List ℕ → List (List ℕ) → List (List ℕ)
if_ok (Ok answer) path later = path ∷ later
if_ok (Err error) path later = later

abbrev pub ok_paths : List Call → List (List ℕ)
ok_paths [] = []
ok_paths (call ∷ later) = if_ok call.result call.path (ok_paths later)
