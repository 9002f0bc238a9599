-- A wrapped hash and its core, where nothing is held.
use Rattle.std.proofs.Common.{◌≡◌, ℕ, ◌+◌, ◌%◌, ◌<◌, List, [], ◌∷◌, ◌++◌, length, arith, refl, sym, ap, ◌∙◌, subst}
use Rattle.std.proofs.lemmas.List.{append-nil}
use Rattle.hmac_sha256.specs.Wrapped.{StandsFor as WrappedStandsFor}
use Rattle.hmac_sha256.specs.Hash.{StandsFor}
use Rattle.hmac_sha256.specs.declared.hashing.Hash.{Hash}

no_items : (xs : List ℕ) → length xs ≡ 0 → xs ≡ []
no_items [] none = refl
no_items (x ∷ xs) none = absurd (omega (arith, none))

-- nothing is held after one block
pub nothing_held : (count : ℕ) (held : List ℕ) → count + length held ≡ 64 → count % 64 ≡ 0 → length held < 64 → held ≡ []
nothing_held count held total whole short = no_items held (omega (arith, total, whole, short))

-- where nothing is held, the core stands for all
pub core_stands : (hash : Hash) (held m : List ℕ) → held ≡ [] → WrappedStandsFor (StandsFor hash) held m → StandsFor hash m
core_stands hash held m none wrapped =
    let all : m ≡ wrapped.absorbed = wrapped.joined ∙ ap (λ h. wrapped.absorbed ++ h) none ∙ append-nil wrapped.absorbed in
    subst (λ (l : List ℕ). StandsFor hash l) (sym all) wrapped.stood

pub wrapped_stands : (hash : Hash) (held m : List ℕ) → held ≡ [] → StandsFor hash m → WrappedStandsFor (StandsFor hash) held m
wrapped_stands hash held m none stood =
    record { absorbed = m; stood = stood; joined = sym (ap (λ h. m ++ h) none ∙ append-nil m) }
