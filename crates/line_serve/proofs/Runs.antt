-- How the engine goes from one state to the next.
use Rattle.std.proofs.Common.{◌≡◌, ℕ, Bool, false, List, [], ◌∷◌, ◌++◌, length, sym, ◌∙◌, ap, subst, append_assoc, Option, Result, Ok, Err, OnOk, OnErr}
use Rattle.std.proofs.lemmas.List.{append-nil}
use Rattle.std.proofs.lemmas.List.Concat.{flat_map-append}
use Rattle.std.proofs.KnownBytes.{Appends-trans}
use Rattle.std.specs.Io.KnownBytes.{Appends}
use Rattle.line_serve.specs.Lines.{line_feed, closed_lines, unfinished, lines, replies_to, reply_to, HasNoLineFeed}
use Rattle.line_serve.specs.Engine.{StandsFor, Takes, Holds, HoldsFront, Moves, Breaks, Answered, GoesOn, Stops}
use Rattle.std.specs.Bool.{◌==◌, if◌then◌else◌}
use Rattle.line_serve.specs.declared.pending.Pending.{Pending}
use Rattle.line_serve.proofs.Cuts.{closed_lines-grown, unfinished-grown, closed_lines-fed, unfinished-fed, closes_more}
use Rattle.line_serve.proofs.Fronts.{front_moves, front_breaks}

pub on_any_err : {T E : Type 0} {P : Type 0} (r : Result T E) → P → OnErr r P
on_any_err (Ok x) p = tt
on_any_err (Err e) p = p

pub whole_front : (a b : Option (List ℕ)) (waiting text whole more : List ℕ) → Holds a b waiting text → whole ≡ text ++ more → HoldsFront a b waiting whole
whole_front a b waiting text whole more h is = record { front = text; rest = more; holds = h; split = is }

-- more waits at the end
pub more_waits : (a b : Option (List ℕ)) (waiting text more : List ℕ) → Holds a b waiting text → Holds a b (waiting ++ more) (text ++ more)
more_waits a b waiting text more h = record {
  written = h.written;
  appends = h.appends;
  split = ap (λ (l : List ℕ). l ++ more) h.split ∙ append_assoc h.written waiting more;
}

module _ (reply : List ℕ → List ℕ) where
  pub replies_to-append : (ls ms : List (List ℕ)) → replies_to reply (ls ++ ms) ≡ replies_to reply ls ++ replies_to reply ms
  replies_to-append ls ms = flat_map-append (reply_to reply) ls ms

  pub replies_to-push : (ls : List (List ℕ)) (l : List ℕ) → replies_to reply (ls ++ l ∷ []) ≡ replies_to reply ls ++ reply_to reply l
  replies_to-push ls l = replies_to-append ls (l ∷ []) ∙ ap (λ (t : List ℕ). replies_to reply ls ++ t) (append-nil (reply_to reply l))

  -- the replies_to to what more bytes close come after the others
  pub replies_to-more : (p q : List ℕ) → replies_to reply (closed_lines (p ++ q)) ≡ replies_to reply (closed_lines p) ++ replies_to reply ((closes_more p q).more)
  replies_to-more p q = ap (replies_to reply) (closes_more p q).is ∙ replies_to-append (closed_lines p) ((closes_more p q).more)

  module _ (p bytes : List ℕ) (none : HasNoLineFeed bytes) where
    same : p ++ (bytes ++ line_feed ∷ []) ≡ (p ++ bytes) ++ line_feed ∷ []
    same = sym (append_assoc p bytes (line_feed ∷ []))

    closed_lines-line : closed_lines (p ++ (bytes ++ line_feed ∷ [])) ≡ closed_lines p ++ (unfinished p ++ bytes) ∷ []
    closed_lines-line =
        ap closed_lines same ∙ closed_lines-fed (p ++ bytes) ∙ ap (λ (l : List (List ℕ)). l ++ unfinished (p ++ bytes) ∷ []) (closed_lines-grown p bytes none)
        ∙ ap (λ (l : List ℕ). closed_lines p ++ l ∷ []) (unfinished-grown p bytes none)

    pub replies_to-line : replies_to reply (closed_lines (p ++ (bytes ++ line_feed ∷ []))) ≡ replies_to reply (closed_lines p) ++ reply_to reply (unfinished p ++ bytes)
    replies_to-line = ap (replies_to reply) closed_lines-line ∙ replies_to-push (closed_lines p) (unfinished p ++ bytes)

    pub unfinished-line : unfinished (p ++ (bytes ++ line_feed ∷ [])) ≡ []
    unfinished-line = ap unfinished same ∙ unfinished-fed (p ++ bytes)

  -- a whole line is answered
  pub line_answered : (p bytes : List ℕ) (start taken : Option (List ℕ)) (waiting waiting' : List ℕ) (old new : Pending) → HasNoLineFeed bytes → Answered reply p start taken waiting old
      → waiting' ≡ waiting ++ reply_to reply (unfinished p ++ bytes) → StandsFor new [] → Answered reply (p ++ (bytes ++ line_feed ∷ [])) start taken waiting' new
  line_answered p bytes start taken waiting waiting' old new none at is empty = record {
    pending_is = subst (λ (l : List ℕ). StandsFor new l) (sym (unfinished-line p bytes none)) empty;
    replied =
        rw (is, replies_to-line p bytes none) (more_waits start taken waiting _ (reply_to reply (unfinished p ++ bytes)) at.replied);
  }

  -- the last piece counts, as it isn't empty
  pub replies_to-last : (p : List ℕ) → (length (unfinished p) == 0) ≡ false → replies_to reply (lines p) ≡ replies_to reply (closed_lines p) ++ reply_to reply (unfinished p)
  replies_to-last p some =
      ap (λ (t : Bool). replies_to reply (closed_lines p ++ (if t then [] else unfinished p ∷ []))) some ∙ replies_to-push (closed_lines p) (unfinished p)

  -- one step after another
  pub on_then : (a b c : Option (List ℕ)) (v w x : List ℕ) (old mid new : Pending) (xs ys whole : List ℕ) → GoesOn reply a v old b w mid xs → GoesOn reply b w mid c x new ys → whole ≡ xs ++ ys → GoesOn reply a v old c x new whole
  on_then a b c v w x old mid new xs ys whole first second is p start at =
      subst (λ (l : List ℕ). Answered reply l start c x new) (append_assoc p xs ys ∙ ap (λ (l : List ℕ). p ++ l) (sym is)) (second (p ++ xs) start (first p start at))

  -- what waits is written after a step
  pub on_moves : (a b c : Option (List ℕ)) (v w x : List ℕ) (old new : Pending) (xs : List ℕ) → GoesOn reply a v old b w new xs → Moves b w c x → GoesOn reply a v old c x new xs
  on_moves a b c v w x old new xs first moves p start at =
      let here = first p start at in record { pending_is = here.pending_is; replied = moves start _ here.replied }

  pub on_ok_moves : {T E : Type 0} (r : Result T E) (a b c : Option (List ℕ)) (v w x : List ℕ) (old new : Pending) (xs : List ℕ) → OnOk r (GoesOn reply a v old b w new xs) → Moves b w c x → OnOk r (GoesOn reply a v old c x new xs)
  on_ok_moves (Ok y) a b c v w x old new xs first moves = on_moves a b c v w x old new xs first moves
  on_ok_moves (Err e) a b c v w x old new xs first moves = tt

  -- a stop where the engine stands, within more bytes
  pub stop_here : (a b : Option (List ℕ)) (v w : List ℕ) (old mid : Pending) (xs more whole : List ℕ) → GoesOn reply a v old b w mid xs → whole ≡ xs ++ more → Stops reply a v old b w whole
  stop_here a b v w old mid xs more whole first is p start at =
      let bytes : p ++ whole ≡ (p ++ xs) ++ more = ap (λ (l : List ℕ). p ++ l) is ∙ sym (append_assoc p xs more) in
      whole_front start b w _ _ _ ((first p start at).replied) (ap (λ (l : List ℕ). replies_to reply (closed_lines l)) bytes ∙ replies_to-more (p ++ xs) more)

  -- the writing breaks off after a stop, or what waits is written
  pub stop_breaks : (a b c : Option (List ℕ)) (v w x : List ℕ) (old : Pending) (whole : List ℕ) → Stops reply a v old b w whole → Breaks b w c x → Stops reply a v old c x whole
  stop_breaks a b c v w x old whole stops breaks p start at = front_breaks start b c w x _ (stops p start at) breaks

  pub stop_moves : (a b c : Option (List ℕ)) (v w x : List ℕ) (old : Pending) (whole : List ℕ) → Stops reply a v old b w whole → Moves b w c x → Stops reply a v old c x whole
  stop_moves a b c v w x old whole stops moves p start at = front_moves start b c w x _ (stops p start at) moves

  -- the line that is still coming goes on
  pub on_grown : (taken : Option (List ℕ)) (waiting : List ℕ) (old new : Pending) (bytes : List ℕ) → HasNoLineFeed bytes → ((line : List ℕ) → StandsFor old line → StandsFor new (line ++ bytes)) → GoesOn reply taken waiting old taken waiting new bytes
  on_grown taken waiting old new bytes none grows p start at = record {
    pending_is = subst (λ (l : List ℕ). StandsFor new l) (sym (unfinished-grown p bytes none)) (grows (unfinished p) at.pending_is);
    replied = subst (λ (l : List (List ℕ)). Holds start taken waiting (replies_to reply l)) (sym (closed_lines-grown p bytes none)) at.replied;
  }

pub takes_after : {T E : Type 0} (r : Result T E) (a b c : Option (List ℕ)) (text whole more : List ℕ) → Appends a b text → Takes b c r more → whole ≡ text ++ more → Takes a c r whole
takes_after (Ok x) a b c text whole more before took is = subst (λ (l : List ℕ). Appends a c l) (sym is) (Appends-trans a b c text more before took)
takes_after (Err e) a b c text whole more before took is = record {
  front = text ++ took.front;
  rest = took.rest;
  appends = Appends-trans a b c text took.front before took.appends;
  split = is ∙ ap (λ (l : List ℕ). text ++ l) took.split ∙ sym (append_assoc text took.front took.rest);
}
