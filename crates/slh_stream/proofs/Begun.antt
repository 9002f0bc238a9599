-- A verifier that has begun.
use Rattle.std.proofs.Common.{◌≡◌, ℕ, ◌≤◌, List, [], ◌++◌, length, take, refl, append-nil}
use Rattle.slh_core.specs.Bytes.{part}
use Rattle.slh_frames.specs.Frames.{head_of}
use Rattle.slh_frames.specs.declared.frame.Mode.{Mode}
use Rattle.slh_frames.specs.Tails.{IsTailOf, mode_of, passed_on}
use Rattle.slh_stream.specs.Verifying.{IsVerifying}
use Rattle.slh_frames.specs.declared.pieces.Tail.{Tail}

pub begun : (n : ℕ) (digests : List ℕ → List ℕ → List ℕ → List ℕ → Type 0) (tail : Tail) (seed root : List ℕ)
    (mode : Mode) (key context sig view rand : List ℕ)
    → mode_of tail ≡ mode → IsTailOf tail [] → passed_on tail [] ≡ []
    → seed ≡ part n key 0 → root ≡ part n key 1 → view ≡ sig → length context ≤ 255 → rand ≡ take n sig
    → digests rand seed root (head_of mode context ++ context)
    → IsVerifying n digests tail 0 seed root view mode key context sig []
begun n digests tail seed root mode key context sig view rand mode_is tail_is nothing seed_is root_is view_is fits rand_is stands = record {
  mode_is = mode_is;
  seed_is = seed_is;
  root_is = root_is;
  sig_is = view_is;
  context_fits = fits;
  taken_is = refl;
  stands = record {
    tail_is = tail_is;
    stands = rw (nothing, append-nil) (rw rand_is at stands);
  };
}
