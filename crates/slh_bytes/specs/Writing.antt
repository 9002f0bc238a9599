-- A key file as it is written.
use Rattle.std.specs.Int.{div_ceil}
use Rattle.std.specs.Prelude.{ℕ, zero, suc, ◌*◌, List, ◌∷◌, [], ◌++◌, length, take, drop}
use Rattle.base64.specs.Engines.{standard}
use Rattle.base64.specs.GeneralPurpose.{encode_of}
use Rattle.slh_sets.specs.declared.set.Set.{Set}
use Rattle.slh_bytes.specs.Heads.{begin_line, der_of, end_line}
use Rattle.slh_bytes.specs.declared.key.Kind.{Kind}

-- the first lines of bytes, with 64 bytes each, of which the last may have fewer
abbrev pub first_lines : ℕ → List ℕ → List ℕ
first_lines zero bytes = []
first_lines (suc k) bytes = first_lines k bytes ++ (take 64 (drop (64 * k) bytes) ++ 10 ∷ [])

abbrev pub lines_of_64 : List ℕ → List ℕ
lines_of_64 bytes = first_lines (div_ceil (length bytes) 64) bytes

-- a key file in PEM
abbrev pub key_file : Kind → Set → List ℕ → List ℕ
key_file kind set key =
    begin_line kind ++ lines_of_64 (encode_of standard (der_of kind set key)) ++ end_line kind
