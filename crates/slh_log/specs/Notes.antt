-- What a note of right form is cut into.
use Rattle.std.specs.Prelude.{◌≡◌, ℕ, ◌^◌, ◌≤◌, List, length, true, Some}
use Rattle.line_serve.specs.Lines.{parts}
use Rattle.slh_log.specs.Reading.{after_text, has_form, line_at, read_root, read_size, read_text}
use Rattle.slh_log.specs.declared.note.Checkpoint.{Checkpoint}
use Rattle.slh_log.specs.declared.note.Note.{Note}

-- the first line, and what the next two say
pub record IsFront (bytes origin : List ℕ) (checkpoint : Checkpoint) : Type 0 where
  pub first : line_at bytes 0 ≡ origin
  pub some : 1 ≤ length origin
  pub size : read_size bytes ≡ Some checkpoint.size
  pub root : read_root bytes ≡ Some checkpoint.root

pub record IsNote (bytes : List ℕ) (note : Note) : Type 0 where
  pub form : has_form bytes ≡ true
  pub first : line_at bytes 0 ≡ note.origin.now
  pub size : read_size bytes ≡ Some note.checkpoint.size
  pub root : read_root bytes ≡ Some note.checkpoint.root
  pub text : note.text.now ≡ read_text bytes
  pub short : length note.text.now ≤ 2 ^ 60
  pub signatures : parts note.signatures.now ≡ after_text (parts bytes)

-- the bytes have the form of a checkpoint, and this is its first line and what the next two say
pub record IsReading (bytes origin : List ℕ) (checkpoint : Checkpoint) : Type 0 where
  pub form : has_form bytes ≡ true
  pub first : line_at bytes 0 ≡ origin
  pub size : read_size bytes ≡ Some checkpoint.size
  pub root : read_root bytes ≡ Some checkpoint.root
