-- What is signed of a payload and its type: the pre-authentication encoding of DSSE 1.0.
use Rattle.std.specs.Prelude.{ℕ, List, ◌∷◌, ◌++◌, codes, decimal, length}

-- a space, the length of the bytes in decimal, a space, and the bytes
abbrev pub field : List ℕ → List ℕ
field bytes = 32 ∷ (decimal (length bytes) ++ 32 ∷ bytes)

abbrev pub pae : List ℕ → List ℕ → List ℕ
pae payload_type payload = codes "DSSEv1" ++ (field payload_type ++ field payload)
