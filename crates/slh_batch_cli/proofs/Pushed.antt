-- A batch to which the messages of a list are added in turn.
use Rattle.std.proofs.Common.{◌≡◌, ◌⊎◌, ℕ, ◌+◌, ◌^◌, ◌<◌, List, [], ◌∷◌, ◌++◌, length, map, take, refl, sym}
use Rattle.std.proofs.Common.{true, false, get_or, arith, inl, inr}
use Rattle.std.specs.List.{list_any}
use Rattle.std.specs.Prelude.{Bool, None, Some, unwrap_or, if◌then◌else◌}
use Rattle.std.proofs.lemmas.Bool.{lt-ltb}
use Rattle.std.proofs.lemmas.List.{map-append, take_more}
use Rattle.std.proofs.lemmas.List.Folds.{list_any_more}
use Rattle.slh_core.specs.Refusals.{first_refusal}
use Rattle.slh_batch.specs.Calls.{push_refusal}
use Rattle.slh_batch.specs.Tree.{batch_leaf}
use Rattle.slh_batch.specs.declared.error.BatchError.{BatchError}
use Rattle.slh_batch.specs.declared.error.BatchError.TheVariants.{Full, Memory, Message}
use Rattle.slh_batch_cli.specs.Replies.{is_long}

pub leaves_more : (messages : List (List ℕ)) (i : ℕ) → i < length messages
    → map batch_leaf (take i messages) ++ batch_leaf (get_or messages i []) ∷ []
    ≡ map batch_leaf (take (i + 1) messages)
leaves_more messages i inside =
    rw (take_more messages i [] inside) (sym (map-append batch_leaf (take i messages) (get_or messages i [] ∷ [])))

pub short_more : (messages : List (List ℕ)) (i : ℕ) → i < length messages
    → list_any is_long (take i messages) ≡ false → is_long (get_or messages i []) ≡ false
    → list_any is_long (take (i + 1) messages) ≡ false
short_more messages i inside before this =
    rw (list_any_more is_long messages i [] inside, before, this) refl

long_by : (long few : Bool)
    → unwrap_or (first_refusal
    ((if long then Some Message else None) ∷ (if few then None else Some Full) ∷ [])) Memory
    ≡ Message
    → long ≡ true
long_by true few is = refl
long_by false true is = grind arith
long_by false false is = grind arith

pub refused_long : (q : List (List ℕ)) (m : List ℕ)
    → unwrap_or (push_refusal q m) Memory ≡ Message → is_long m ≡ true
refused_long q m is = long_by _ _ is

short_by : (long few : Bool)
    → first_refusal
    ((if long then Some Message else None) ∷ (if few then None else Some Full) ∷ []) ≡ None
    → long ≡ false
short_by true few is = grind arith
short_by false few is = refl

pub unrefused_short : (q : List (List ℕ)) (m : List ℕ)
    → push_refusal q m ≡ None → is_long m ≡ false
unrefused_short q m is = short_by _ _ is

only_by : (long few : Bool) (e : BatchError) → few ≡ true
    → e ≡ unwrap_or (first_refusal
    ((if long then Some Message else None) ∷ (if few then None else Some Full) ∷ [])) Memory
    → (e ≡ Message) ⊎ (e ≡ Memory)
only_by true few e room is = inl is
only_by false true e room is = inr is
only_by false false e room is = grind arith

-- where there is room, only a long message is refused
pub refused_only : (q : List (List ℕ)) (m : List ℕ) (e : BatchError) → length q < 2 ^ 20
    → e ≡ unwrap_or (push_refusal q m) Memory → (e ≡ Message) ⊎ (e ≡ Memory)
refused_only q m e room is = only_by (is_long m) _ e (lt-ltb (length q) (2 ^ 20) room) is
