-- What a closure answered, call by call.
use Rattle.std.specs.Prelude.{◌≡◌, ℕ, ◌+◌, ◌<◌, List, [], ◌∷◌, length, Result, Ok, Err}

-- calls on n, n + 1 and so on took the closure from f to last, and answered the items
abbrev pub Answers : {F X : Type 0} → (F → ℕ → X → F → Type 0) → ℕ → F → List X → F → Type 0
Answers step n f [] last = f ≡ last
Answers {F} step n f (x ∷ xs) last = (g : F) × step f n x g × Answers step (n + 1) g xs last

-- a call on i answered the item
abbrev pub AnswersOk : {F X E : Type 0} → (F → ℕ → Result X E → F → Type 0) → F → ℕ → X → F
    → Type 0
AnswersOk step f i x g = step f i (Ok x) g

-- calls on 0, 1 and so on answered the items, fewer than n, and the last one, which left the
-- closure as last, the error
pub record Stops {F X E : Type 0} (step : F → ℕ → Result X E → F → Type 0) (f : F) (items : List X)
    (e : E) (n : ℕ) (last : F) : Type 0 where
  pub fewer : length items < n
  pub now : F
  pub before : Answers (AnswersOk step) 0 f items now
  pub error : step now (length items) (Err e) last

-- calls on the items xs, in order, took the closure from f to last, and answered the items ys
abbrev pub Maps : {F X Y : Type 0} → (F → X → Y → F → Type 0) → F → List X → List Y → F → Type 0
Maps step f [] [] last = f ≡ last
Maps step f [] (y ∷ ys) last = ⊥
Maps step f (x ∷ xs) [] last = ⊥
Maps {F} step f (x ∷ xs) (y ∷ ys) last = (g : F) × step f x y g × Maps step g xs ys last
