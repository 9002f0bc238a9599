-- What a frame tells of its mode, its context and what follows it.
use Rattle.std.proofs.Common.{◌≡◌, ℕ, List, [], ◌∷◌, ◌++◌, length, take, drop, arith, ap, sym, refl, ◌∙◌}
use Rattle.std.proofs.lemmas.List.{append_cancel_left}
use Rattle.sha256_lanes.specs.Sha256.{sha256}
use Rattle.sha2.specs.Sha512.{sha512}
use Rattle.slh_core.proofs.Joins.{take_front, drop_front}
use Rattle.slh_frames.specs.Frames.{mode_frame, tail_of, sha256_identifier, sha512_identifier}
use Rattle.slh_frames.specs.declared.frame.Mode.{Mode}
use Rattle.slh_frames.specs.declared.frame.Mode.TheVariants.{Pure, Sha256, Sha512}

abbrev first : List ℕ → ℕ
first [] = 0
first (x ∷ xs) = x

abbrev later : List ℕ → List ℕ
later [] = []
later (x ∷ xs) = xs

pub record SameParts (c d s t : List ℕ) : Type 0 where
  pub contexts : c ≡ d
  pub tails : s ≡ t

joined_alike : (c d s t : List ℕ) → length c ≡ length d → c ++ s ≡ d ++ t → SameParts c d s t
joined_alike c d s t size same = record {
  contexts = sym (take_front (length d) c s size) ∙ ap (take (length d)) same ∙ take_front (length d) d t refl;
  tails = sym (drop_front (length d) c s size) ∙ ap (drop (length d)) same ∙ drop_front (length d) d t refl;
}

-- two bytes, of which the second says how long the context is
headed_alike : (x y : ℕ) (c d s t : List ℕ) → x ∷ length c ∷ (c ++ s) ≡ y ∷ length d ∷ (d ++ t) → SameParts c d s t
headed_alike x y c d s t same =
    joined_alike c d s t (ap (λ l. first (later l)) same) (ap (λ l. later (later l)) same)

pub frame_parts : (mode : Mode) (c d m n : List ℕ) → mode_frame mode c m ≡ mode_frame mode d n → SameParts c d (tail_of mode m) (tail_of mode n)
frame_parts Pure c d m n same = headed_alike 0 0 c d m n same
frame_parts Sha256 c d m n same = headed_alike 1 1 c d (tail_of Sha256 m) (tail_of Sha256 n) same
frame_parts Sha512 c d m n same = headed_alike 1 1 c d (tail_of Sha512 m) (tail_of Sha512 n) same

pub same_context : (mode : Mode) (c d m n : List ℕ) → mode_frame mode c m ≡ mode_frame mode d n → c ≡ d
same_context mode c d m n same = (frame_parts mode c d m n same).contexts

pub same_message : (c d m n : List ℕ) → mode_frame Pure c m ≡ mode_frame Pure d n → m ≡ n
same_message c d m n same = (frame_parts Pure c d m n same).tails

pub same_sha256 : (c d m n : List ℕ) → mode_frame Sha256 c m ≡ mode_frame Sha256 d n → sha256 m ≡ sha256 n
same_sha256 c d m n same = append_cancel_left sha256_identifier (sha256 m) (sha256 n) (frame_parts Sha256 c d m n same).tails

pub same_sha512 : (c d m n : List ℕ) → mode_frame Sha512 c m ≡ mode_frame Sha512 d n → sha512 m ≡ sha512 n
same_sha512 c d m n same = append_cancel_left sha512_identifier (sha512 m) (sha512 n) (frame_parts Sha512 c d m n same).tails

-- the last byte of an identifier
abbrev last_of_identifier : List ℕ → ℕ
last_of_identifier l = first (later (later (later (later (later (later (later (later (later (later l))))))))))

other_identifier : (c d m n : List ℕ) → mode_frame Sha256 c m ≡ mode_frame Sha512 d n → ◌≡◌ {A = ℕ} 1 3
other_identifier c d m n same =
    ap last_of_identifier (headed_alike 1 1 c d (tail_of Sha256 m) (tail_of Sha512 n) same).tails

pub same_mode : (a b : Mode) (c d m n : List ℕ) → mode_frame a c m ≡ mode_frame b d n → a ≡ b
same_mode Pure Pure c d m n same = refl
same_mode Pure Sha256 c d m n same = let no : ◌≡◌ {A = ℕ} 0 1 = ap first same in absurd (omega (arith, no))
same_mode Pure Sha512 c d m n same = let no : ◌≡◌ {A = ℕ} 0 1 = ap first same in absurd (omega (arith, no))
same_mode Sha256 Pure c d m n same = let no : ◌≡◌ {A = ℕ} 1 0 = ap first same in absurd (omega (arith, no))
same_mode Sha256 Sha256 c d m n same = refl
same_mode Sha256 Sha512 c d m n same = absurd (omega (arith, other_identifier c d m n same))
same_mode Sha512 Pure c d m n same = let no : ◌≡◌ {A = ℕ} 1 0 = ap first same in absurd (omega (arith, no))
same_mode Sha512 Sha256 c d m n same = absurd (omega (arith, other_identifier d c n m (sym same)))
same_mode Sha512 Sha512 c d m n same = refl
