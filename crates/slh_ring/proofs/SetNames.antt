-- The set that a record names.
use Rattle.std.proofs.Common.{◌≡◌, ℕ, ◌+◌, ◌-◌, ◌≤◌, List, ◌++◌, length, take, drop, true, Some, refl, sym, ◌∙◌, ap, arith, length-append}
use Rattle.std.proofs.lemmas.Bool.{and_parts, le-leb}
use Rattle.std.proofs.lemmas.List.{take-append-drop}
use Rattle.std.proofs.lemmas.Slice.Eq.{bytes_eq-Decides}
use Rattle.slh_core.proofs.Joins.{take_front}
use Rattle.slh_ring.specs.Records.{has_form, head_size, record_head, set_in}

-- what begins as a record of a set does names it
named : (name later : List ℕ) → set_in (record_head name ++ later) ≡ Some name
named name later =
    let size : 6 + length name - 6 ≡ length name = omega arith in
    let room : 6 + length name ≤ length (record_head name ++ later) = omega (arith, length-append name later) in
    rw (le-leb _ _ room, size) (ap Some (take_front (length name) name later refl))

pub set_named : (name bytes : List ℕ) → has_form name bytes ≡ true → set_in bytes ≡ Some name
set_named name bytes form =
    let h = head_size name in
    let headed = and_parts _ _ (and_parts _ _ (and_parts _ _ form).0).0 in
    let head : take h bytes ≡ record_head name = (bytes_eq-Decides _ _).0 headed.1 in
    let whole : bytes ≡ record_head name ++ drop h bytes = sym (take-append-drop h bytes) ∙ ap (λ front. front ++ drop h bytes) head in
    ap set_in whole ∙ named name (drop h bytes)
