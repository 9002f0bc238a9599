-- What calls answer, of values that are computed somehow: names stand for them, so that a function's own
-- proof has nothing large to rewrite.
use Rattle.std.proofs.Common.{◌≡◌, ◌↔◌, ℕ, ◌+◌, ◌-◌, ◌*◌, ◌<◌, ◌≤◌, Bool, IsTrue, false, List, slice_index, take, refl, arith}
use Rattle.std.proofs.lemmas.Bool.{false≢true}
use Rattle.std.specs.Str.{bytes_eq}
use Rattle.std.proofs.lemmas.Slice.Eq.{bytes_eq-Decides}
use Rattle.slh_audit.proofs.Meaning.{ChainStepShows, EarlyShows, IsShown, checked_at, collide_means, own_at}
use Rattle.slh_audit.proofs.Shown.{says, told}
use Rattle.slh_audit.specs.Evidence.{Dispute, collide, fors_secret_shows, shows}
use Rattle.slh_audit.specs.declared.evidence.Evidence.TheVariants.{ChainStep, Early}
use Rattle.slh_core.specs.Bytes.{part}
use Rattle.slh_core.specs.Digits.{wots_digits}
use Rattle.slh_core.specs.Parameters.{chain_count}
use Rattle.slh_core.specs.Suite.{Seeded}
use Rattle.slh_core.specs.Wots.{chain, chain_value, checked_chain}
use Rattle.slh_merkle.specs.Checking.{checked_fors_node}
use Rattle.slh_merkle.specs.Fors.{fors_leaf, fors_place, fors_secret, leaf_index}
use Rattle.slh_merkle.specs.Hypertree.{layer_size, leaf_at, tree_at}
use Rattle.slh_merkle.specs.Merkle.{climb, node_bytes}

-- the secret that is opened in tree i
pub fors_secret_told : (K L : Seeded) → L ≡ K → (sk sig x : List ℕ) (t l a i y : ℕ) (secret own leaf own_leaf : List ℕ) (shown : Bool)
    → y ≡ leaf_index a x i → secret ≡ take K.n (part ((1 + a) * K.n) sig i)
    → own ≡ fors_secret L sk t l y → leaf ≡ L.suite.f L.seed (node_bytes (fors_place t l) 0 y) secret → own_leaf ≡ fors_leaf L sk t l y
    → shown ≡ collide secret own leaf own_leaf → shown ≡ fors_secret_shows K sk t l a sig x i
unfolding fors_secret_shows checked_fors_node climb
fors_secret_told K L same sk sig x t l a i y secret own leaf own_leaf shown is_y is_secret is_own is_leaf is_own_leaf is_shown =
    rw (is_shown, is_own, is_leaf, is_own_leaf, is_secret, is_y, same) refl

-- a chain before a step of the check
pub chain_step_shown : (D : Dispute) (L : Seeded) (sk sig m : List ℕ) (j t y c q digit : ℕ) (chains value before own_before after own_after : List ℕ) (shown : Bool)
    → L ≡ D.K → sk ≡ D.sk → j < D.d → t ≡ tree_at D.hp D.t j → y ≡ leaf_at D.hp D.t D.l j → sig ≡ part (layer_size D.K.n D.hp) D.layers j → m ≡ checked_at D j
    → c < chain_count D.K.n → digit ≡ slice_index (wots_digits D.K.n m) c → digit ≤ q → q ≤ 14
    → chains ≡ take (chain_count D.K.n * D.K.n) sig → value ≡ part D.K.n chains c
    → before ≡ chain L j t y c value digit (q - digit) → own_before ≡ chain_value L sk j t y c q
    → after ≡ chain L j t y c value digit (q + 1 - digit) → own_after ≡ chain_value L sk j t y c (q + 1)
    → shown ≡ collide before own_before after own_after → shown ≡ shows D (ChainStep j c q)
unfolding IsShown ChainStepShows
chain_step_shown D L sk sig m j t y c q digit chains value before own_before after own_after shown same is_sk layer is_t is_y is_sig is_m inside is_digit low high is_chains is_value is_before is_own_before is_after is_own_after is_shown =
    let checked = checked_chain D.K j t y (take (chain_count D.K.n * D.K.n) sig) (wots_digits D.K.n m) c in
    let raw : shown ≡ collide (checked q) (chain_value D.K D.sk j t y c q) (checked (q + 1)) (chain_value D.K D.sk j t y c (q + 1))
    = rw (is_shown, is_before, is_own_before, is_after, is_own_after, is_value, is_chains, is_digit, same, is_sk) refl in
    let collides = says _ _ raw (collide_means _ _ _ _) in
    let tells : IsTrue shown ↔ ChainStepShows D.K D.sk j t y sig m c q = ((λ yes. (rw is_digit at low, high, collides.0 yes)), (λ holds. collides.1 holds.2)) in
    let placed = rw (is_t, is_y, is_sig, is_m) at tells in
    told D _ _ ((λ yes. (inside, (layer, placed.0 yes))), (λ holds. placed.1 holds.1.1))

-- a chain that is opened earlier than the key opens it
pub early_shown : (D : Dispute) (L : Seeded) (sk sig m own : List ℕ) (j t y c digit own_digit : ℕ) (chains value own_value : List ℕ) (shown : Bool)
    → L ≡ D.K → sk ≡ D.sk → j < D.d → t ≡ tree_at D.hp D.t j → y ≡ leaf_at D.hp D.t D.l j → sig ≡ part (layer_size D.K.n D.hp) D.layers j → m ≡ checked_at D j
    → own ≡ own_at D j → c < chain_count D.K.n
    → digit ≡ slice_index (wots_digits D.K.n m) c → own_digit ≡ slice_index (wots_digits D.K.n own) c → digit < own_digit
    → chains ≡ take (chain_count D.K.n * D.K.n) sig → value ≡ part D.K.n chains c → own_value ≡ chain_value L sk j t y c digit
    → shown ≡ bytes_eq value own_value → shown ≡ shows D (Early j c)
unfolding IsShown EarlyShows
early_shown D L sk sig m own j t y c digit own_digit chains value own_value shown same is_sk layer is_t is_y is_sig is_m is_own inside is_digit is_own_digit less is_chains is_value is_own_value is_shown =
    let raw : shown ≡ bytes_eq (part D.K.n (take (chain_count D.K.n * D.K.n) sig) c) (chain_value D.K D.sk j t y c (slice_index (wots_digits D.K.n m) c))
    = rw (is_shown, is_own_value, is_value, is_chains, is_digit, same, is_sk) refl in
    let equal = says _ _ raw (bytes_eq-Decides _ _) in
    let below = rw (is_digit, is_own_digit) at less in
    let tells : IsTrue shown ↔ EarlyShows D.K D.sk j t y sig m own c = ((λ yes. (below, equal.0 yes)), (λ holds. equal.1 holds.1)) in
    let placed = rw (is_t, is_y, is_sig, is_m, is_own) at tells in
    told D _ _ ((λ yes. (inside, (layer, placed.0 yes))), (λ holds. placed.1 holds.1.1))

-- a step before the check's first, or after the last, shows nothing
pub step_before : (D : Dispute) (j c q digit : ℕ) (m : List ℕ) → m ≡ checked_at D j → digit ≡ slice_index (wots_digits D.K.n m) c → q < digit → false ≡ shows D (ChainStep j c q)
unfolding IsShown ChainStepShows
step_before D j c q digit m is_m is_digit less =
    let digit_now = rw is_m at is_digit in
    told D _ _ ((λ yes. absurd (false≢true yes)), (λ holds. absurd (omega (arith, holds.1.1.0, digit_now, less))))

pub step_after : (D : Dispute) (j c q : ℕ) → 14 < q → false ≡ shows D (ChainStep j c q)
unfolding IsShown ChainStepShows
step_after D j c q more = told D _ _ ((λ yes. absurd (false≢true yes)), (λ holds. absurd (omega (arith, holds.1.1.1, more))))

-- nor does a chain that isn't opened earlier
pub not_early : (D : Dispute) (j c digit own_digit : ℕ) (m own : List ℕ) → m ≡ checked_at D j → own ≡ own_at D j
    → digit ≡ slice_index (wots_digits D.K.n m) c → own_digit ≡ slice_index (wots_digits D.K.n own) c → own_digit ≤ digit → false ≡ shows D (Early j c)
unfolding IsShown EarlyShows
not_early D j c digit own_digit m own is_m is_own is_digit is_own_digit late =
    let digit_now = rw is_m at is_digit in
    let own_now = rw is_own at is_own_digit in
    told D _ _ ((λ yes. absurd (false≢true yes)), (λ holds. absurd (omega (arith, holds.1.1.0, digit_now, own_now, late))))
