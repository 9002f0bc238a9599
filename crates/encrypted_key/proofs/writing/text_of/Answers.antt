use Rattle.std.proofs.Common.{◌∙◌, ap, sym, ℕ, List, take, arith}
use Rattle.aes.specs.Cbc.{cbc}
use Rattle.pbkdf2.specs.Pbkdf2.{pbkdf2}
use Rattle.encrypted_key.proofs.writing.text_of.Goals as goal

pub returns-clause-value : goal.returns-clause-value
returns-clause-value c =
    let iv = c.args.iv.now in
    let key = pbkdf2 c.args.passphrase.now c.args.salt.now c.args.count 32 in
    let derived = c.derive-derived.result in
    c.in_ok-text.ensures.value _ c.new-keys.ensures
    ∙ ap (λ (n : ℕ). cbc (take n derived) iv c.deref.result.now) c.key_len.ensures.value
    ∙ ap (λ (k : List ℕ). cbc k iv c.deref.result.now) (sym (c.derive-derived.ensures 32 (omega arith)))
    ∙ ap (cbc key iv) (c.deref.ensures.value ∙ c.in_ok-whole.ensures.value)
