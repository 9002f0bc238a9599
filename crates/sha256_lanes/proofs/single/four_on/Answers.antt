use Rattle.std.proofs.Common.{◌≡◌, ◌<◌, ◌∙◌, ℕ, ap, arith, refl}
use Rattle.sha256_lanes.specs.Eight.{word_in}
use Rattle.sha256_lanes.specs.Sha256.{lower_sigma0, lower_sigma1, sum32}
use Rattle.sha256_lanes.specs.Single.{fours}
use Rattle.sha256_lanes.proofs.Fours.{early_word, late_word, settled}
use Rattle.sha256_lanes.proofs.Schedule.{four_words_done}
use Rattle.sha256_lanes.proofs.single.four_on.Goals as goal

pub returns : goal.returns
returns c b t is within =
    let w = c.args.w in
    let half : ℕ → ℕ = word_in c.sum-half.result in
    let last : ℕ → ℕ = word_in c.sum.result in
    let front : ℕ → ℕ = word_in c.first_two.result in
    let begun : ℕ → ℕ = λ k.
    sum32 (sum32 (word_in w.first k) (lower_sigma0 (word_in c.one_on.result k))) (word_in c.one_on-2.result k) in
    let late : ℕ → ℕ = λ k. lower_sigma1 (word_in c.last_two.result k) in
    let made : (k : ℕ) → k < 4 → half k ≡ sum32 (begun k) (late k) = λ k low.
    c.sum-half.ensures k low
    ∙ ap (λ (x : ℕ). sum32 x (word_in c.lower_sigma1.result k)) (c.sum-begun.ensures k low)
    ∙ ap (λ (x : ℕ). sum32 (sum32 x (word_in c.one_on-2.result k)) (word_in c.lower_sigma1.result k)) (c.sum-shares.ensures k low)
    ∙ ap (λ (x : ℕ). sum32 (sum32 (sum32 (word_in w.first k) x) (word_in c.one_on-2.result k)) (word_in c.lower_sigma1.result k)) (c.lower_sigma0.ensures k low)
    ∙ ap (sum32 (begun k)) (c.lower_sigma1.ensures k low) in
    let whole : (k : ℕ) → k < 4 → last k ≡ sum32 (half k) (lower_sigma1 (front k)) = λ k low.
    c.sum.ensures k low ∙ ap (sum32 (half k)) (c.lower_sigma1-2.ensures k low) in
    let next = c.one_on.ensures in
    let far = c.one_on-2.ensures in
    let two = c.last_two.ensures in
    let ahead = c.first_two.ensures in
    let first = settled (begun 0) (late 0) (front 0) (half 0) (last 0) ahead.0 (made 0 (omega arith)) (whole 0 (omega arith)) in
    let second = settled (begun 1) (late 1) (front 1) (half 1) (last 1) ahead.1 (made 1 (omega arith)) (whole 1 (omega arith)) in
    four_words_done b (fours w) t (last 0) (last 1) (last 2) (last 3) within is
    (early_word _ _ _ _ _ _ _ _ (half 0) (last 0) next.0 far.0 two.0 ahead.0 (made 0 (omega arith)) (whole 0 (omega arith)))
    (early_word _ _ _ _ _ _ _ _ (half 1) (last 1) next.1 far.1 two.1 ahead.1 (made 1 (omega arith)) (whole 1 (omega arith)))
    (late_word _ _ _ _ _ _ _ _ (half 2) (last 2) next.2 far.2 two.2 (ahead.2 ∙ first) (made 2 (omega arith)) (whole 2 (omega arith)))
    (late_word _ _ _ _ _ _ _ _ (half 3) (last 3) next.3 far.3 two.3 (ahead.3 ∙ second) (made 3 (omega arith)) (whole 3 (omega arith)))
