-- The text of an envelope that is sealed.
use Rattle.std.proofs.Common.{◌≡◌, ℕ, ◌*◌, List, [], Option, drop, ◌∙◌, ap, sym}
use Rattle.slh_core.specs.Parameters.{Scheme}
use Rattle.slh_frames.specs.Frames.{frame}
use Rattle.slh_trees.specs.Signing.{signature_of}
use Rattle.dsse.specs.Encoding.{pae}
use Rattle.slh_envelope.specs.Sealing.{sealed, with_one}

pub sealed_is : (Z : Scheme) (n : ℕ) (key public payload_type payload text signature : List ℕ) (opt_rand : Option (List ℕ)) → Z.n ≡ n
    → public ≡ drop (2 * n) key → text ≡ pae payload_type payload → signature ≡ signature_of Z key opt_rand (frame [] text)
    → with_one public payload_type payload signature ≡ sealed Z key opt_rand payload_type payload
sealed_is Z n key public payload_type payload text signature opt_rand n_is public_is text_is signature_is =
    ap (λ (p : List ℕ). with_one p payload_type payload signature) (public_is ∙ ap (λ (m : ℕ). drop (2 * m) key) (sym n_is))
    ∙ ap (λ (s : List ℕ). with_one (drop (2 * Z.n) key) payload_type payload s) (signature_is ∙ ap (λ (t : List ℕ). signature_of Z key opt_rand (frame [] t)) text_is)
