use Rattle.std.proofs.Common.{ℕ, List, sym, ap, ◌∙◌, inl, inr}
use Rattle.encrypted_key.specs.Reading.{decrypted}
use Rattle.slh_bytes.specs.Encrypted.{opened_key}
use Rattle.slh_bytes.specs.Reading.{der_key}
use Rattle.slh_bytes.specs.declared.key.Kind.TheVariants.{Signing}
use Rattle.slh_bytes.proofs.encrypted.decrypted_key.Goals as goal

pub returns-clause-value : goal.returns-clause-value
returns-clause-value c =
    let words = sym (ap (λ (p : List ℕ). decrypted p c.args.der.now) c.expose.ensures.value) in
    elim c.read_der.ensures.value [
      | inl read ↦ inl (read ∙ ap (der_key Signing) c.deref.ensures.value ∙ sym (ap opened_key (words ∙ c.in_ok-private_key.ensures.exact)))
      | inr memory ↦ inr memory
    ]
