use Rattle.std.proofs.lemmas.Grind.{common_steps}
use Rattle.std.proofs.Common.{◌≡◌, ◌+◌, List, length, drop, true, false, Some, None, subst, sym, ◌∙◌, ap, arith}
use Rattle.std.specs.Prelude.{if◌then◌else◌}
use Rattle.line_serve.specs.Lines.{parts}
use Rattle.line_serve.proofs.Fronts.{to_end}
use Rattle.slh_trees.specs.Checking.{signature_size}
use Rattle.slh_dsa.specs.Calls.{is_valid}
use Rattle.slh_frames.specs.declared.frame.Mode.TheVariants.{Pure}
use Rattle.slh_log.proofs.Signatures.{Fills, is_filled, not_filled}
use Rattle.slh_log.specs.Calls.{signature_refusal}
use Rattle.slh_log.specs.Reading.{own_signature}
use Rattle.slh_log.specs.Texts.{log_context}
use Rattle.slh_log.specs.declared.error.OpenError.TheVariants.{Invalid}
use Rattle.slh_log.proofs.opening.check_signature.Goals as goal

pub returns-then-not-find_signature : goal.returns-then-not-find_signature
returns-then-not-find_signature g c =
    let Z = g.P.ForsSizes.scheme in
    let key = c.args.vk.now in
    let text = c.args.text.now in
    let sigs = parts c.args.signatures.now in
    let name = c.as_bytes.result.now in
    let id = c.key_id-id.result in
    let out = c.find_signature.new.out in
    let read = own_signature (length c.args.buffer.now) name id sigs in
    let is = ap (λ n. own_signature n name id sigs) c.requires.room ∙ ap (λ o. own_signature (4 + signature_size Z) o id sigs) c.as_bytes.ensures.value
    ∙ ap (λ i. own_signature (4 + signature_size Z) c.args.origin.now i sigs) c.key_id-id.ensures in
    let fills : Fills read false out = subst (λ d. Fills read d out) c.if-not-find_signature.true c.find_signature.ensures in
    ap (signature_refusal Z key text) (sym is ∙ not_filled read out fills)

pub returns-then-not-is_valid : goal.returns-then-not-is_valid
returns-then-not-is_valid g c =
    let Z = g.P.ForsSizes.scheme in
    let key = c.args.vk.now in
    let text = c.args.text.now in
    let sigs = parts c.args.signatures.now in
    let name = c.as_bytes.result.now in
    let id = c.key_id-id.result in
    let out = c.find_signature.new.out in
    let read = own_signature (length c.args.buffer.now) name id sigs in
    let is = ap (λ n. own_signature n name id sigs) c.requires.room ∙ ap (λ o. own_signature (4 + signature_size Z) o id sigs) c.as_bytes.ensures.value
    ∙ ap (λ i. own_signature (4 + signature_size Z) c.args.origin.now i sigs) c.key_id-id.ensures in
    let fills : Fills read true out = subst (λ d. Fills read d out) c.if-not-find_signature.false c.find_signature.ensures in
    let valid : is_valid Z Pure key log_context text (drop 4 out) ≡ false = ap (is_valid Z Pure key log_context text) (sym (to_end out 4)) ∙ sym (rw c.fitting-message.ensures at c.is_valid.ensures) ∙ c.if-not-is_valid.true in
    ap (signature_refusal Z key text) (sym is ∙ is_filled read out fills) ∙ ap (λ b. if b then None else Some Invalid) valid

pub returns : goal.returns
returns g c =
    let Z = g.P.ForsSizes.scheme in
    let key = c.args.vk.now in
    let text = c.args.text.now in
    let sigs = parts c.args.signatures.now in
    let name = c.as_bytes.result.now in
    let id = c.key_id-id.result in
    let out = c.find_signature.new.out in
    let read = own_signature (length c.args.buffer.now) name id sigs in
    let is = ap (λ n. own_signature n name id sigs) c.requires.room ∙ ap (λ o. own_signature (4 + signature_size Z) o id sigs) c.as_bytes.ensures.value
    ∙ ap (λ i. own_signature (4 + signature_size Z) c.args.origin.now i sigs) c.key_id-id.ensures in
    let fills : Fills read true out = subst (λ d. Fills read d out) c.if-not-find_signature.false c.find_signature.ensures in
    let valid : is_valid Z Pure key log_context text (drop 4 out) ≡ true = ap (is_valid Z Pure key log_context text) (sym (to_end out 4)) ∙ sym (rw c.fitting-message.ensures at c.is_valid.ensures) ∙ c.if-not-is_valid.false in
    ap (signature_refusal Z key text) (sym is ∙ is_filled read out fills) ∙ ap (λ b. if b then None else Some Invalid) valid

pub is_valid-requires : goal.is_valid-requires
is_valid-requires g c = grind (arith, common_steps)
