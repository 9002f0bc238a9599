-- A write over files that are the same as before, and where nothing stands that is kept.
use Rattle.std.proofs.Common.{◌∙◌, sym, subst, inl, inr, ℕ, List, Option, Err}
use Rattle.whole_files.specs.Files.{Files, Node, Same}
use Rattle.whole_files.specs.Whole.{HasBegun, HasWhole, IsOther, IsPlacing, IsWritable, IsWriting, IsWritten, Writes, mode_of}
use Rattle.whole_files.specs.declared.error.Written.{Written}
use Rattle.whole_files.specs.declared.error.WriteError.{WriteError}
use Rattle.whole_files.specs.declared.error.WriteError.TheVariants.{Failed, Left, NotRegular, Taken}
use Rattle.slh_host.specs.Outputs.{IsKept, Puts}
use Rattle.slh_host.specs.declared.secrets.Kept.{Kept}
use Rattle.slh_host.specs.declared.whole_outputs.PutError.TheVariants.{Write}

pub writing_over : (m a n : Files) (path part bytes : List ℕ) → Same m a → IsWriting a path part bytes n
    → IsWriting m path part bytes n
writing_over m a n path part bytes same writing = record {
  at = elim writing.at [
    | inl old ↦ inl (old ∙ same path)
    | inr new ↦ inr (subst (λ (o : Option Node). HasWhole (mode_of o) bytes (n path)) (same path) new)
  ];
  beside = elim writing.beside [
    | inl old ↦ inl (old ∙ same part)
    | inr new ↦ inr (subst (λ (o : Option Node). HasBegun (mode_of o) bytes (n part)) (same path) new)
  ];
  others = λ q apart other. writing.others q apart other ∙ same q;
}

pub written_over : (m a n : Files) (path part bytes : List ℕ) → Same m a → IsWritten a path part bytes n
    → IsWritten m path part bytes n
written_over m a n path part bytes same wrote = record {
  writable = subst IsWritable (same path) wrote.writable;
  whole = subst (λ (o : Option Node). HasWhole (mode_of o) bytes (n path)) (same path) wrote.whole;
  free = sym (same part) ∙ wrote.free;
  others = λ q apart. wrote.others q apart ∙ same q;
}

placing_over : (m a n : Files) (path part bytes : List ℕ) → Same m a → IsPlacing a part (mode_of (a path)) bytes n
    → IsPlacing m part (mode_of (m path)) bytes n
placing_over m a n path part bytes same placing = record {
  beside = elim placing.beside [
    | inl old ↦ inl (old ∙ same part)
    | inr new ↦ inr (subst (λ (o : Option Node). HasBegun (mode_of o) bytes (n part)) (same path) new)
  ];
  others = λ q apart. placing.others q apart ∙ same q;
}

refused_over : (m a n : Files) (path part bytes : List ℕ) (error : WriteError) → Same m a
    → Writes {A = Written} a path part bytes (Err error) n → Writes {A = Written} m path part bytes (Err error) n
refused_over m a n path part bytes NotRegular same refused = (
  λ q. refused.0 q ∙ same q,
  subst IsOther (same path) refused.1,
)
refused_over m a n path part bytes Taken same refused = (
  λ q. refused.0 q ∙ same q,
  λ free. refused.1 (same part ∙ free),
)
refused_over m a n path part bytes Failed same refused = λ q. refused q ∙ same q
refused_over m a n path part bytes Left same refused = placing_over m a n path part bytes same refused

-- a write was refused where nothing stands that is kept
pub not_written : (kept : Kept) (m a n : Files) (path part bytes : List ℕ) (error : WriteError)
    → (IsKept kept (m path) → ⊥) → Same m a → Writes {A = Written} a path part bytes (Err error) n
    → Puts kept m path part bytes (Err (Write error)) n
not_written kept m a n path part bytes error none same refused = (
  refused_over m a n path part bytes error same refused,
  λ here. absurd (none here),
)
