-- Paths that are added to a ring one after the other.
use Rattle.std.proofs.Common.{◌≡◌, ◌⊎◌, ℕ, ◌+◌, ◌<◌, ◌≤◌, List, [], ◌∷◌, length, drop, get_or, Bool, true, false, None, Some, refl, arith, inl, inr}
use Rattle.std.specs.Prelude.{unwrap_or, if◌then◌else◌}
use Rattle.std.proofs.lemmas.Bool.{lt-leb}
use Rattle.std.proofs.lemmas.List.{drop_all, drop_more}
use Rattle.slh_core.specs.Refusals.{first_refusal}
use Rattle.slh_ring.specs.Rings.{add_refusal, has_path, with_path}
use Rattle.slh_ring.specs.declared.error.RingError.{RingError}
use Rattle.slh_ring.specs.declared.error.RingError.TheVariants.{Present, Full, Memory}
use Rattle.slh_ring_cli.specs.Replies.{all_added}

new_by : (there full : Bool)
    → first_refusal ((if there then Some Present else None) ∷ (if full then Some Full else None) ∷ []) ≡ None
    → there ≡ false
new_by true full none = grind arith
new_by false full none = refl

there_by : (there full : Bool)
    → unwrap_or (first_refusal ((if there then Some Present else None) ∷ (if full then Some Full else None) ∷ [])) Memory ≡ Present
    → there ≡ true
there_by true full is = refl
there_by false true is = grind arith
there_by false false is = grind arith

only_by : (there full : Bool) (e : RingError) → full ≡ false
    → e ≡ unwrap_or (first_refusal ((if there then Some Present else None) ∷ (if full then Some Full else None) ∷ [])) Memory
    → (e ≡ Present) ⊎ (e ≡ Memory)
only_by true full e room is = inl is
only_by false false e room is = inr is
only_by false true e room is = grind arith

-- where there is room, only a path that is there is refused
pub refused_only : (ring : List (List ℕ)) (path : List ℕ) (e : RingError) → length ring < 64
    → e ≡ unwrap_or (add_refusal ring path) Memory → (e ≡ Present) ⊎ (e ≡ Memory)
refused_only ring path e room is = only_by (has_path ring path) _ e (lt-leb 64 (length ring) room) is

pub one_added : (ring paths : List (List ℕ)) (i : ℕ) (path : List ℕ) → i < length paths
    → add_refusal ring (get_or paths i path) ≡ None
    → all_added ring (drop i paths) ≡ all_added (with_path ring (get_or paths i path)) (drop (i + 1) paths)
one_added ring paths i path below none =
    rw (drop_more paths i path below, new_by (has_path ring (get_or paths i path)) _ none) refl

pub one_there : (ring paths : List (List ℕ)) (i : ℕ) (path : List ℕ) → i < length paths
    → unwrap_or (add_refusal ring (get_or paths i path)) Memory ≡ Present
    → all_added ring (drop i paths) ≡ None
one_there ring paths i path below is =
    rw (drop_more paths i path below, there_by (has_path ring (get_or paths i path)) _ is) refl

pub none_left : (ring paths : List (List ℕ)) (i : ℕ) → length paths ≤ i → all_added ring (drop i paths) ≡ Some ring
none_left ring paths i past = rw (drop_all i paths past) refl
