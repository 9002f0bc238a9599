use Rattle.std.proofs.Common.{◌≡◌, ◌∙◌, ap, sym, inl, take, true, false, None, Some, Ok}
use Rattle.aes.specs.Cbc.{unpadded_len}
use Rattle.encrypted_key.specs.Reading.{is_private_key, key_len, told}
use Rattle.encrypted_key.proofs.Opening.{Gives, gives, key_len_most, opened_none, opened_some}
use Rattle.encrypted_key.proofs.reading.opened.Goals as goal

pub returns-in_default : goal.returns-in_default
returns-in_default c =
    let p = c.args.parts.now in
    let t = told p.cipher p.salt.now p.count p.iv.now p.text.now in
    let given : Gives c.args.passphrase.now c.in_ok-plain.plain.items t =
    gives c.args.passphrase.now c.in_ok-plain.plain.items c.derive-derived.result c.copy_from_slice.new.self t c.key_len.result (c.in_ok-plain.ensures _ c.new-keys.ensures) c.key_len.ensures.value (c.derive-derived.ensures (key_len p.cipher) (key_len_most p.cipher)) c.copy_from_slice.ensures.after in
    let none : unpadded_len c.in_ok-plain.plain.items ≡ None =
    ap unpadded_len (sym c.deref.ensures.value) ∙ sym c.unpadded_len.ensures.value ∙ c.in_default.is in
    inl (opened_none c.args.passphrase.now c.in_ok-plain.plain.items t given none)

pub returns-then-is_private_key : goal.returns-then-is_private_key
returns-then-is_private_key c =
    let p = c.args.parts.now in
    let t = told p.cipher p.salt.now p.count p.iv.now p.text.now in
    let n = c.in-Some.n in
    let plain = c.in_ok-plain.plain.items in
    let given : Gives c.args.passphrase.now plain t =
    gives c.args.passphrase.now plain c.derive-derived.result c.copy_from_slice.new.self t c.key_len.result (c.in_ok-plain.ensures _ c.new-keys.ensures) c.key_len.ensures.value (c.derive-derived.ensures (key_len p.cipher) (key_len_most p.cipher)) c.copy_from_slice.ensures.after in
    let some : unpadded_len plain ≡ Some n =
    ap unpadded_len (sym c.deref.ensures.value) ∙ sym c.unpadded_len.ensures.value ∙ c.in-Some.is in
    let rest : is_private_key (take n plain) ≡ true =
    ap is_private_key (sym (c.deref-2.ensures.value ∙ c.truncate.ensures.items)) ∙ sym c.is_private_key.ensures ∙ c.if-is_private_key.true in
    opened_some c.args.passphrase.now plain t n true given some rest ∙ ap Ok (sym c.truncate.ensures.items)

pub returns-else-is_private_key : goal.returns-else-is_private_key
returns-else-is_private_key c =
    let p = c.args.parts.now in
    let t = told p.cipher p.salt.now p.count p.iv.now p.text.now in
    let n = c.in-Some.n in
    let plain = c.in_ok-plain.plain.items in
    let given : Gives c.args.passphrase.now plain t =
    gives c.args.passphrase.now plain c.derive-derived.result c.copy_from_slice.new.self t c.key_len.result (c.in_ok-plain.ensures _ c.new-keys.ensures) c.key_len.ensures.value (c.derive-derived.ensures (key_len p.cipher) (key_len_most p.cipher)) c.copy_from_slice.ensures.after in
    let some : unpadded_len plain ≡ Some n =
    ap unpadded_len (sym c.deref.ensures.value) ∙ sym c.unpadded_len.ensures.value ∙ c.in-Some.is in
    let rest : is_private_key (take n plain) ≡ false =
    ap is_private_key (sym (c.deref-2.ensures.value ∙ c.truncate.ensures.items)) ∙ sym c.is_private_key.ensures ∙ c.if-is_private_key.false in
    inl (opened_some c.args.passphrase.now plain t n false given some rest)
