-- Texts by what they end in.
use Rattle.std.proofs.Common.{◌≡◌, ◌∙◌, sym, ap, ℕ, List, ◌++◌, append_assoc}
use Rattle.whole_files.specs.Parts.{EndsIn}

-- what stands before a text doesn't change its end
pub behind : (front text all end : List ℕ) → all ≡ front ++ text → EndsIn end text → EndsIn end all
behind front text all end is ends =
    (front ++ ends.0, is ∙ ap (λ (t : List ℕ). front ++ t) ends.1 ∙ sym (append_assoc front ends.0 end))
