-- Why no array was made.
use Rattle.std.specs.Prelude.{Result, Ok, Err}
use Rattle.hybrid_array.specs.declared.error.SliceError.{SliceError}
use Rattle.hybrid_array.specs.declared.error.SliceError.TheVariants.{Length, Memory}
use Rattle.hybrid_array.specs.declared.error.MakeError.{MakeError}
use Rattle.hybrid_array.specs.declared.error.MakeError.TheVariants as make
use Rattle.hybrid_array.specs.declared.iter.IterError.{IterError}
use Rattle.hybrid_array.specs.declared.iter.IterError.TheVariants as iter

-- the slice's length was refused
abbrev pub IsLengthRefusal : {X : Type 0} → Result X SliceError → Type 0
IsLengthRefusal (Ok x) = ⊥
IsLengthRefusal (Err (Length e)) = Unit {0}
IsLengthRefusal (Err (Memory e)) = ⊥

-- P, where memory was wanting
abbrev pub OnMemory : {X E : Type 0} → Type 0 → Result X (MakeError E) → Type 0
OnMemory P (Ok x) = Unit {0}
OnMemory P (Err (make.Caller e)) = Unit {0}
OnMemory P (Err (make.Memory e)) = P

-- P of the caller's error
abbrev pub IfCaller : {E : Type 0} → (E → Type 0) → MakeError E → Type 0
IfCaller P (make.Caller e) = P e
IfCaller P (make.Memory e) = Unit {0}

-- P, where the number of items is refused
abbrev pub OnCount : Type 0 → IterError → Type 0
OnCount P (iter.Count e) = P
OnCount P (iter.Memory e) = Unit {0}

-- P, where memory was wanting
abbrev pub OnNoMemory : {X : Type 0} → Type 0 → Result X IterError → Type 0
OnNoMemory P (Ok x) = Unit {0}
OnNoMemory P (Err (iter.Count e)) = Unit {0}
OnNoMemory P (Err (iter.Memory e)) = P
