-- The parts of a manifest that was made.
use Rattle.std.proofs.Common.{◌≡◌, ℕ, List, ◌++◌, ◌∙◌, ap, Option}
use Rattle.slh_core.specs.Parameters.{Scheme}
use Rattle.slh_frames.specs.Frames.{frame}
use Rattle.slh_trees.specs.Signing.{signature_of}
use Rattle.slh_manifest.specs.Building.{manifest_of}
use Rattle.slh_manifest.specs.Manifest.{body_bytes, manifest_context}
use Rattle.slh_manifest.specs.declared.entry.Entry.{Entry}

pub sealed : (Z : Scheme) (key : List ℕ) (opt_rand : Option (List ℕ)) (entries : List Entry) (body message sig whole : List ℕ)
    → body ≡ body_bytes entries → message ≡ body → sig ≡ signature_of Z key opt_rand (frame manifest_context message) → whole ≡ body ++ sig
    → whole ≡ manifest_of Z key opt_rand entries
sealed Z key opt_rand entries body message sig whole body_is message_is sig_is whole_is =
    whole_is ∙ ap (λ (s : List ℕ). body ++ s) (sig_is ∙ ap (λ (m : List ℕ). signature_of Z key opt_rand (frame manifest_context m)) message_is)
    ∙ ap (λ (b : List ℕ). b ++ signature_of Z key opt_rand (frame manifest_context b)) body_is
