-- Steps of keys that are made one after the other, c each.
use Rattle.std.proofs.Common.{◌≡◌, ℕ, suc, ◌+◌, ◌*◌, List, [], ◌∷◌, length, ◌∙◌, ap, arith}
use Rattle.std.proofs.Math.Nat.{suc-mul}

pub cost_none : (start c : ℕ) → start ≡ start + 0 * c
cost_none start c = omega arith

pub cost_more : (start steps steps' i c : ℕ) → steps ≡ start + i * c → steps' ≡ steps + c → steps' ≡ start + (i + 1) * c
cost_more start steps steps' i c before step =
    let next : i + 1 ≡ suc i = omega arith in
    let product : (i + 1) * c ≡ i * c + c = ap (λ n. n * c) next ∙ suc-mul i c in
    omega (arith, before, step, product)

-- where the keys are counted that are left to be made
pub cost_left : (steps steps' whole c : ℕ) (path : List ℕ) (left left' : List (List ℕ)) → left ≡ path ∷ left'
    → steps + length left * c ≡ whole → steps' ≡ steps + c → steps' + length left' * c ≡ whole
cost_left steps steps' whole c path left left' is before step =
    let product : length left * c ≡ length left' * c + c = ap (λ l. length l * c) is ∙ suc-mul (length left') c in
    omega (arith, before, step, product)

pub cost_end : (steps whole c : ℕ) (left : List (List ℕ)) → left ≡ [] → steps + length left * c ≡ whole → steps ≡ whole
cost_end steps whole c left none before =
    let nothing : 0 * c ≡ 0 = omega arith in
    let product : length left * c ≡ 0 = ap (λ l. length l * c) none ∙ nothing in
    omega (arith, before, product)
