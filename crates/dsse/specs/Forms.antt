-- The forms of base64, and what one of them gives.
use Rattle.std.specs.Prelude.{◌≡◌, ◌⊎◌, ℕ, List, Option, Some, None, Result, Ok, Err, Vec, IsErr}
use Rattle.std.specs.Global.{Global}
use Rattle.std.specs.declared.alloc.AllocError.{AllocError}
use Rattle.base64.specs.Engines.{standard, standard_no_pad, url_safe, url_safe_no_pad}
use Rattle.base64.specs.GeneralPurpose.{encode_of}
use Rattle.base64.specs.declared.decode.DecodeAllocError.{DecodeAllocError}
use Rattle.base64.specs.declared.decode.DecodeAllocError.TheVariants.{DecodeError, OutOfMemory}

-- the bytes, nothing where the text isn't in this form, or want of memory
abbrev pub IsFound : Result (Vec ℕ Global) DecodeAllocError → Result (Option (Vec ℕ Global)) AllocError → Type 0
IsFound (Ok bytes) r = r ≡ Ok (Some bytes)
IsFound (Err (DecodeError e)) r = r ≡ Ok None
IsFound (Err OutOfMemory) r = IsErr r

-- the text is an encoding of the bytes: in the standard alphabet or in that of URLs, with padding or
-- without
abbrev pub IsBase64 : List ℕ → List ℕ → Type 0
IsBase64 text bytes = (text ≡ encode_of standard bytes)
    ⊎ ((text ≡ encode_of standard_no_pad bytes)
    ⊎ ((text ≡ encode_of url_safe bytes) ⊎ (text ≡ encode_of url_safe_no_pad bytes)))
