use Rattle.std.proofs.Common.{◌≡◌, ◌++◌, ◌∷◌, [], List, Result, Ok, Err, ap, ◌∙◌, append_assoc, codes, map}
use Rattle.std.specs.Prelude.{OnOk}
use Rattle.std.specs.String.{string_bytes}
use Rattle.json.specs.Json.{array}
use Rattle.json.specs.Token.{Token, begin_object, end_object, key, string}
use Rattle.json.specs.Tree.{json_tokens}
use Rattle.dsse.specs.Said.{said_by}
use Rattle.dsse.specs.Writing.{bytes_json, signatures_json}
use Rattle.dsse.proofs.writing.write_object.Goals as goal

both : (old x y t u : List Token) → t ≡ old ++ x → u ≡ t ++ y → u ≡ old ++ (x ++ y)
both old x y t u e f = f ∙ ap (λ l. l ++ y) e ∙ append_assoc old x y

on_ok : {T E : Type 0} (r : Result T E) (P Q : Type 0) → (P → Q) → OnOk r P → OnOk r Q
on_ok (Ok v) P Q f p = f p
on_ok (Err e) P Q f p = p

pub returns-clause-tokens : goal.returns-clause-tokens
returns-clause-tokens c =
    let old = c.args.writer.now.tokens in
    let e = c.args.envelope.now in
    let begun : c.begin_object.new.self.tokens ≡ old ++ begin_object ∷ [] = c.in_ok-begin_object.ensures.ok in
    let named : c.key.new.self.tokens ≡ c.begin_object.new.self.tokens ++ key (codes "payload") ∷ [] = c.in_ok-key.ensures.ok in
    let payload : c.write_bytes.new.writer.tokens ≡ c.key.new.self.tokens ++ json_tokens (bytes_json e.payload.items) =
    c.in_ok-write_bytes.ensures.tokens ∙ ap (λ b. c.key.new.self.tokens ++ json_tokens (bytes_json b)) c.as_slice.ensures.value in
    let typed : c.key-2.new.self.tokens ≡ c.write_bytes.new.writer.tokens ++ key (codes "payloadType") ∷ [] = c.in_ok-key-2.ensures.ok in
    let kind : c.string.new.self.tokens ≡ c.key-2.new.self.tokens ++ string (string_bytes e.payload_type) ∷ [] =
    c.in_ok-string.ensures.ok ∙ ap (λ s. c.key-2.new.self.tokens ++ string s ∷ []) c.as_str.ensures.value in
    let signed : c.key-3.new.self.tokens ≡ c.string.new.self.tokens ++ key (codes "signatures") ∷ [] = c.in_ok-key-3.ensures.ok in
    let all : c.write_signatures.new.writer.tokens ≡ c.key-3.new.self.tokens ++ json_tokens (array (signatures_json (map said_by e.signatures.items))) =
    c.in_ok-write_signatures.ensures.tokens ∙ ap (λ l. c.key-3.new.self.tokens ++ json_tokens (array (signatures_json (map said_by l)))) c.as_slice-2.ensures.value in
    let two = both old _ _ _ _ begun named in
    let three = both old _ _ _ _ two payload in
    let four = both old _ _ _ _ three typed in
    let five = both old _ _ _ _ four kind in
    let six = both old _ _ _ _ five signed in
    let seven = both old _ _ _ _ six all in
    on_ok c.end_object.result _ _ (λ (last : c.end_object.new.self.tokens ≡ c.write_signatures.new.writer.tokens ++ end_object ∷ []). both old _ _ _ _ seven last) c.end_object.ensures.ok
