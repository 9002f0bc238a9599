use Rattle.std.proofs.Common.{◌≡◌, ◌*◌, ◌≤◌, ◌^◌, drop, length, ap, sym, ◌∙◌, arith, lit≤, subst}
use Rattle.std.proofs.lemmas.Bool.{and_parts, leb-true}
use Rattle.slh_core.specs.Parameters.{Scheme}
use Rattle.slh_frames.specs.declared.frame.Mode.TheVariants.{Pure}
use Rattle.slh_log.proofs.Made.{made_opened}
use Rattle.slh_log.proofs.MadeNote.{text_short}
use Rattle.slh_log.specs.Heads.{IsOpened}
use Rattle.slh_log.specs.Texts.{checkpoint_text, key_id, log_context, signed_note, text_signature}
use Rattle.slh_log.proofs.laws.made_is_opened.Goals as goal

pub returns : goal.returns
returns g c = λ key origin root opt_rand size true_key key_len is low root_len root_bytes bytes.
    let Z = g.P.ForsSizes.scheme in
    let n = g.P.N.ArraySize.USIZE in
    let same : Z.n ≡ n = ap (λ (Z : Scheme). Z.n) g.met.P.ForsSizes.scheme_is in
    let few : length origin ≤ 255 = leb-true (length origin) 255 (and_parts _ _ (and_parts _ _ is).0).1 in
    let text = checkpoint_text origin size root in
    let sig = text_signature Z key opt_rand text in
    let none = c.signed_is_accepted.ensures Pure key log_context text opt_rand true_key key_len (lit≤ tt) (text_short origin size root few low root_len) in
    let opened = made_opened Z g.P.SetSizes.set_name (drop (2 * n) key) origin size root sig is low root_len root_bytes bytes c.signature_bound.ensures none in
    subst (λ k. IsOpened Z g.P.SetSizes.set_name (drop (2 * n) key) origin (signed_note text origin (key_id origin g.P.SetSizes.set_name (drop (2 * k) key)) sig) size root) (sym same) opened
