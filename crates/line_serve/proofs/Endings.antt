-- What a run has done where it ends.
use Rattle.std.proofs.Common.{◌-◌, ◌≡◌, ◌⊎◌, ⊎_elim, ℕ, ◌+◌, ◌<◌, ◌≤◌, List, [], ◌∷◌, ◌++◌, length, take, refl, sym, ◌∙◌, ap, subst, arith, append_assoc, length-append, length-take, Option}
use Rattle.std.specs.Bool.{◌==◌, nat_lt, if◌then◌else◌}
use Rattle.std.proofs.lemmas.List.{append-nil}
use Rattle.std.proofs.KnownBytes.{Consumes-trans, Consumes-kept}
use Rattle.std.specs.Io.KnownBytes.{Appends, Consumes, Keeps, IsAtEnd}
use Rattle.line_serve.specs.Lines.{line_limit, closed_lines, unfinished, ended_lines, lines, replies_to}
use Rattle.line_serve.specs.Engine.{TakesFront, GoesOn, Stops, Progress}
use Rattle.line_serve.specs.Served.{BeginsWith, Served, input_limit}
use Rattle.line_serve.specs.declared.pending.Pending.{Pending}
use Rattle.line_serve.proofs.Fronts.{all_taken, front_taken}
use Rattle.line_serve.proofs.Runs.{replies_to-append}

begins_all : (xs : List ℕ) → BeginsWith xs xs
begins_all xs = ([], sym (append-nil xs))

begins_then : (xs ys zs : List ℕ) → BeginsWith xs ys → BeginsWith ys zs → BeginsWith xs zs
begins_then xs ys zs a b = (b.0 ++ a.0, a.1 ∙ ap (λ (l : List ℕ). l ++ a.0) b.1 ∙ append_assoc zs b.0 a.0)

front_begins : (a b : Option (List ℕ)) (text : List ℕ) (f : TakesFront a b text) → BeginsWith text f.front
front_begins a b text f = (f.rest, f.split)

no_more : (a b c : Option (List ℕ)) (p buffer : List ℕ) (n : ℕ) → Consumes a b p → Consumes b c (take n buffer) → n ≡ 0 → Consumes a c p
no_more a b c p buffer n before more none =
    let empty : p ++ take n buffer ≡ p = ap (λ (k : ℕ). p ++ take k buffer) none ∙ append-nil p in
    subst (λ (l : List ℕ). Consumes a c l) empty (Consumes-trans a b c p _ before more)

module _ (reply : List ℕ → List ℕ) where
  ended_begin : (p : List ℕ) → BeginsWith (replies_to reply (ended_lines p)) (replies_to reply (closed_lines p))
  ended_begin p = (_, replies_to-append reply (closed_lines p) (if nat_lt line_limit (length (unfinished p)) then unfinished p ∷ [] else []))

  lines_begin : (p : List ℕ) → BeginsWith (replies_to reply (lines p)) (replies_to reply (closed_lines p))
  lines_begin p = (_, replies_to-append reply (closed_lines p) (if length (unfinished p) == 0 then [] else unfinished p ∷ []))

  module _ (left left' start taken : Option (List ℕ)) (pending : Pending) (count : ℕ) (so_far : Progress reply left left' start taken pending count) (below : count ≤ input_limit) where
    size : length so_far.p ≤ input_limit
    size = omega (arith, so_far.counted, below)

    pub source_failed : (left'' : Option (List ℕ)) → Keeps left' left'' → Served reply left left'' start taken 3
    source_failed left'' same = record {
      p = so_far.p;
      out = replies_to reply (closed_lines so_far.p);
      consumed = Consumes-kept left left' left'' so_far.p so_far.consumed same;
      appended = all_taken start taken _ so_far.answered.replied;
      within = size;
      answered = λ s. absurd (omega arith);
      prefix = record {
        held = λ s. (ended_begin so_far.p, begins_all _);
        cut = λ s. absurd (omega arith);
        cut_at_end = λ s. absurd (omega arith);
      };
      limit = (λ s. absurd (omega arith), λ r. absurd (r.1 refl));
    }

    pub limit_reached : count ≡ input_limit → Served reply left left' start taken 5
    limit_reached all = record {
      p = so_far.p;
      out = replies_to reply (closed_lines so_far.p);
      consumed = so_far.consumed;
      appended = all_taken start taken _ so_far.answered.replied;
      within = size;
      answered = λ s. absurd (omega arith);
      prefix = record {
        held = λ s. (ended_begin so_far.p, begins_all _);
        cut = λ s. absurd (omega arith);
        cut_at_end = λ s. absurd (omega arith);
      };
      limit = (λ s. (so_far.counted ∙ all, (λ e. omega arith), (λ e. omega arith), (λ e. omega arith)), λ r. refl);
    }

    module _ (left'' taken' : Option (List ℕ)) (buffer : List ℕ) (n : ℕ) (read : Consumes left' left'' (take n buffer)) where
      pub whole_input : n ≡ 0 → IsAtEnd left'' → count < input_limit → Appends start taken' (replies_to reply (lines so_far.p)) → Served reply left left'' start taken' 0
      whole_input none end less took = record {
        p = so_far.p;
        out = replies_to reply (lines so_far.p);
        consumed = no_more left left' left'' so_far.p buffer n so_far.consumed read none;
        appended = took;
        within = size;
        answered = λ s. (end, omega (arith, so_far.counted), refl);
        prefix = record {
          held = λ s. absurd (omega arith);
          cut = λ s. absurd (omega arith);
          cut_at_end = λ s. absurd (omega arith);
        };
        limit = (λ s. absurd (omega arith), λ r. absurd (omega (arith, so_far.counted, r.0)));
      }

      pub cut_at_end : (status : ℕ) → (status ≡ 4) ⊎ (status ≡ 6) → n ≡ 0 → IsAtEnd left'' → TakesFront start taken' (replies_to reply (lines so_far.p)) → Served reply left left'' start taken' status
      cut_at_end status is none end took = record {
        p = so_far.p;
        out = took.front;
        consumed = no_more left left' left'' so_far.p buffer n so_far.consumed read none;
        appended = took.appends;
        within = size;
        answered = λ s. absurd (omega arith);
        prefix = record {
          held = λ s. absurd (omega arith);
          cut = λ s more. absurd (more end);
          cut_at_end = λ s over. front_begins _ _ _ took;
        };
        limit = (λ s. absurd (omega arith), λ r. absurd (⊎_elim r.2 r.3 is));
      }

      pub cut_within : (status : ℕ) → (status ≡ 4) ⊎ (status ≡ 6) → n ≤ input_limit - count → Stops reply taken [] pending taken' [] (take n buffer) → Served reply left left'' start taken' status
      cut_within status is few stops =
          let took = front_taken start taken' _ (stops so_far.p start so_far.answered) in
          let q = so_far.p ++ take n buffer in
          record {
            p = q;
            out = took.front;
            consumed = Consumes-trans left left' left'' so_far.p _ so_far.consumed read;
            appended = took.appends;
            within = omega (arith, length-append so_far.p (take n buffer), length-take n buffer, so_far.counted, below, few);
            answered = λ s. absurd (omega arith);
            prefix = record {
              held = λ s. absurd (omega arith);
              cut = λ s more. begins_then _ _ _ (ended_begin q) (front_begins _ _ _ took);
              cut_at_end = λ s over. begins_then _ _ _ (lines_begin q) (front_begins _ _ _ took);
            };
            limit = (λ s. absurd (omega arith), λ r. absurd (⊎_elim r.2 r.3 is));
          }

      -- the engine has gone on by what was read
      pub progressed : (new : Pending) → n ≤ length buffer → GoesOn reply taken [] pending taken' [] new (take n buffer) → Progress reply left left'' start taken' new (count + n)
      progressed new within on = record {
        p = so_far.p ++ take n buffer;
        consumed = Consumes-trans left left' left'' so_far.p _ so_far.consumed read;
        counted = omega (arith, length-append so_far.p (take n buffer), length-take n buffer, so_far.counted);
        answered = on so_far.p start so_far.answered;
      }
