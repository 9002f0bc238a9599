-- Lines of 64 bytes.
use Rattle.std.proofs.Common.{◌≡◌, ℕ, ◌+◌, ◌*◌, List, [], ◌∷◌, ◌++◌, length, take, drop, min, ◌-◌, refl, ◌∙◌, ap, append_assoc, add-one, arith, length-drop}
use Rattle.std.proofs.lemmas.List.{take_all, take_min}
use Rattle.slh_bytes.specs.Writing.{first_lines}

pub one_line_more : (k : ℕ) (bytes : List ℕ) → first_lines (k + 1) bytes ≡ first_lines k bytes ++ (take 64 (drop (64 * k) bytes) ++ 10 ∷ [])
one_line_more k bytes = rw (add-one k) refl

pub line_pushed : (k : ℕ) (bytes old text with_line all : List ℕ) → text ≡ old ++ first_lines k bytes
    → with_line ≡ text ++ take 64 (drop (64 * k) bytes) → all ≡ with_line ++ 10 ∷ []
    → all ≡ old ++ first_lines (k + 1) bytes
line_pushed k bytes old text with_line all before line ended =
    rw (ended, line, before, one_line_more k bytes) (simp append_assoc)

-- what stands from a place on, as a slice has it
pub rest_is : (k : ℕ) (bytes : List ℕ) → take (length bytes - k) (drop k bytes) ≡ drop k bytes
rest_is k bytes = take_all (length bytes - k) (drop k bytes) (omega (arith, length-drop k bytes))

first_of_rest : (n : ℕ) (rest : List ℕ) → n ≡ min (length rest) 64 → take n rest ≡ take 64 rest
first_of_rest n rest is =
    let turned : n ≡ min 64 (length rest) = omega (arith, is) in
    ap (λ k. take k rest) turned ∙ take_min 64 rest

pub line_is : (n k : ℕ) (bytes : List ℕ) → n ≡ min (length (take (length bytes - k) (drop k bytes))) 64
    → take n (take (length bytes - k) (drop k bytes)) ≡ take 64 (drop k bytes)
line_is n k bytes is =
    first_of_rest n (take (length bytes - k) (drop k bytes)) is ∙ ap (take 64) (rest_is k bytes)
