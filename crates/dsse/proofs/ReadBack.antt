-- What is written of an envelope is read as this envelope.
use Rattle.std.proofs.Common.{◌≡◌, ℕ, false, zero, suc, ◌≤◌, ◌≢◌, List, [], ◌∷◌, ◌++◌, Option, Some, None, codes, length, refl, sym, subst, ap, ◌∙◌, arith, append_assoc, option_and_then, option_map}
use Rattle.std.specs.Prelude.{All, IfSome, max}
use Rattle.std.specs.Option.{option_or}
use Rattle.std.specs.Result.{result_ok}
use Rattle.std.specs.Str.{IsUtf8}
use Rattle.std.proofs.lemmas.List.Elements.{All-head, All-tail}
use Rattle.std.proofs.lemmas.Str.{IsUtf8-from_ascii}
use Rattle.base64.specs.Engines.{standard, standard_no_pad, url_safe, url_safe_no_pad}
use Rattle.base64.specs.GeneralPurpose.{IsBytes, decoded_of, encode_of}
use Rattle.base64.proofs.EngineFacts.{IsAscii-encode_of, decode_of-encode_of}
use Rattle.json.specs.Json.{Items, Json, array, member, no_members, object, string}
use Rattle.json.specs.Strict.{AreDistinct, HasUniqueKeys, ItemsHaveUniqueKeys}
use Rattle.json.specs.Token.{Token, end_object}
use Rattle.json.specs.Tree.{HasNumbers, ItemsHaveNumbers, depth, items_depth, items_tokens, json_tokens}
use Rattle.json.proofs.Printed.Utf8.{IsUtf8-are_ascii}
use Rattle.dsse.specs.Reading.{IsEnvelope, decoded, envelope_in, signature_in, signatures_of}
use Rattle.dsse.specs.Said.{IsSaid, IsSignature, Said, Signed}
use Rattle.dsse.specs.Writing.{envelope_json, envelope_text, signature_json, signatures_json, with_key_id}
use Rattle.dsse.proofs.Texts.{AreTexts, document-line, line_utf8}

by_standard : (text bytes : List ℕ) → decoded_of standard text ≡ Some bytes → decoded text ≡ Some bytes
unfolding decoded
by_standard text bytes is =
    ap (λ o. option_or o (option_or (decoded_of standard_no_pad text) (option_or (decoded_of url_safe text) (decoded_of url_safe_no_pad text)))) is

decoded_encoded : (bytes : List ℕ) → IsBytes bytes → decoded (encode_of standard bytes) ≡ Some bytes
unfolding decoded_of
decoded_encoded bytes are = by_standard (encode_of standard bytes) bytes (ap result_ok (decode_of-encode_of standard bytes refl are))

symbols_utf8 : (bytes : List ℕ) → IsUtf8 (encode_of standard bytes)
symbols_utf8 bytes = IsUtf8-from_ascii (encode_of standard bytes) (IsAscii-encode_of standard bytes)

-- ---- one signature, whose base64 is a text

abbrev with_text : Option (List ℕ) → List ℕ → Json
with_text id text = object (with_key_id id (member (codes "sig") (string text) no_members))

abbrev signed : Option (List ℕ) → List ℕ → Signed
signed id bytes = record { key_id = id; bytes = bytes }

signature_read : (id : Option (List ℕ)) (text bytes : List ℕ) → decoded text ≡ Some bytes → signature_in (with_text id text) ≡ Some (signed id bytes)
signature_read None text bytes is = ap (option_map (signed None)) is
signature_read (Some id) text bytes is = ap (option_map (signed (Some id))) is

signature_texts : (id : Option (List ℕ)) (text : List ℕ) (after : List Token) → IfSome id IsUtf8 → IsUtf8 text → AreTexts after
    → AreTexts (json_tokens (with_text id text) ++ after)
signature_texts None text after h utf8 rest = (tt, (IsUtf8-are_ascii _ refl, (utf8, (tt, rest))))
signature_texts (Some id) text after h utf8 rest = (tt, (IsUtf8-are_ascii _ refl, (h, (IsUtf8-are_ascii _ refl, (utf8, (tt, rest))))))

signature_numbers : (id : Option (List ℕ)) (text : List ℕ) → HasNumbers (with_text id text)
signature_numbers None text = (tt, tt)
signature_numbers (Some id) text = (tt, (tt, tt))

signature_depth : (id : Option (List ℕ)) (text : List ℕ) → depth (with_text id text) ≤ 1
signature_depth None text = omega arith
signature_depth (Some id) text = omega arith

distinct_one : (a : List ℕ) → AreDistinct (a ∷ [])
distinct_one a i j d less fits = absurd (omega arith)

distinct_two : (a b : List ℕ) → a ≢ b → AreDistinct (a ∷ b ∷ [])
distinct_two a b ab zero zero d less fits = absurd (omega arith)
distinct_two a b ab zero (suc zero) d less fits = ab
distinct_two a b ab zero (suc (suc j)) d less fits = absurd (omega arith)
distinct_two a b ab (suc i) j d less fits = absurd (omega arith)

distinct_three : (a b c : List ℕ) → a ≢ b → a ≢ c → b ≢ c → AreDistinct (a ∷ b ∷ c ∷ [])
distinct_three a b c ab ac bc zero zero d less fits = absurd (omega arith)
distinct_three a b c ab ac bc zero (suc zero) d less fits = ab
distinct_three a b c ab ac bc zero (suc (suc zero)) d less fits = ac
distinct_three a b c ab ac bc zero (suc (suc (suc j))) d less fits = absurd (omega arith)
distinct_three a b c ab ac bc (suc i) zero d less fits = absurd (omega arith)
distinct_three a b c ab ac bc (suc zero) (suc zero) d less fits = absurd (omega arith)
distinct_three a b c ab ac bc (suc zero) (suc (suc zero)) d less fits = bc
distinct_three a b c ab ac bc (suc i) (suc (suc (suc j))) d less fits = absurd (omega arith)
distinct_three a b c ab ac bc (suc (suc i)) (suc j) d less fits = absurd (omega arith)

differ : (a b : List ℕ) → length a ≢ length b → a ≢ b
differ a b other is = other (ap length is)

signature_unique : (id : Option (List ℕ)) (text : List ℕ) → HasUniqueKeys (with_text id text)
signature_unique None text = (distinct_one (codes "sig"), (tt, tt))
signature_unique (Some id) text = (distinct_two (codes "keyid") (codes "sig") (differ (codes "keyid") (codes "sig") (λ e. omega (arith, e))), (tt, (tt, tt)))

-- ---- all signatures

max_below : (m n k : ℕ) → m ≤ k → n ≤ k → max m n ≤ k
max_below m n k a b = omega arith

signatures_read : (ss : List Signed) → All IsSignature ss → signatures_of (signatures_json ss) ≡ Some ss
signatures_read [] are = refl
signatures_read (s ∷ ss) are =
    ap (λ o. option_and_then (λ x. option_map (λ l. x ∷ l) (signatures_of (signatures_json ss))) o)
    (signature_read s.key_id (encode_of standard s.bytes) s.bytes (decoded_encoded s.bytes (All-head IsSignature s ss are).bytes))
    ∙ ap (option_map (λ l. s ∷ l)) (signatures_read ss (All-tail IsSignature s ss are))

signatures_texts : (ss : List Signed) (after : List Token) → All IsSignature ss → AreTexts after → AreTexts (items_tokens (signatures_json ss) ++ after)
signatures_texts [] after are rest = (tt, rest)
signatures_texts (s ∷ ss) after are rest =
    subst AreTexts (sym (append_assoc (json_tokens (signature_json s)) (items_tokens (signatures_json ss)) after))
    (signature_texts s.key_id (encode_of standard s.bytes) (items_tokens (signatures_json ss) ++ after) (All-head IsSignature s ss are).key_id (symbols_utf8 s.bytes)
    (signatures_texts ss after (All-tail IsSignature s ss are) rest))

signatures_numbers : (ss : List Signed) → ItemsHaveNumbers (signatures_json ss)
signatures_numbers [] = tt
signatures_numbers (s ∷ ss) = (signature_numbers s.key_id (encode_of standard s.bytes), signatures_numbers ss)

signatures_depth : (ss : List Signed) → items_depth (signatures_json ss) ≤ 1
signatures_depth [] = omega arith
signatures_depth (s ∷ ss) =
    let one : depth (signature_json s) ≤ 1 = signature_depth s.key_id (encode_of standard s.bytes) in
    let rest : items_depth (signatures_json ss) ≤ 1 = signatures_depth ss in
    max_below (depth (signature_json s)) (items_depth (signatures_json ss)) 1 one rest

signatures_unique : (ss : List Signed) → ItemsHaveUniqueKeys (signatures_json ss)
signatures_unique [] = tt
signatures_unique (s ∷ ss) = (signature_unique s.key_id (encode_of standard s.bytes), signatures_unique ss)

-- ---- the envelope

abbrev of_text : List ℕ → List ℕ → Items → Json
of_text payload_type text js =
    object
    (member (codes "payload") (string text) (member (codes "payloadType") (string payload_type) (member (codes "signatures") (array js) no_members)))

abbrev made : List ℕ → List ℕ → List Signed → Said
made payload_type payload signatures = record { payload_type = payload_type; payload = payload; signatures = signatures }

envelope_read : (payload_type text payload : List ℕ) (js : Items) (ss : List Signed) → decoded text ≡ Some payload → signatures_of js ≡ Some ss
    → envelope_in (of_text payload_type text js) ≡ Some (made payload_type payload ss)
envelope_read payload_type text payload js ss is are =
    ap (λ o. option_and_then (λ p. option_map (made payload_type p) (signatures_of js)) o) is
    ∙ ap (option_map (made payload_type payload)) are

envelope_texts : (e : Said) → IsSaid e → AreTexts (json_tokens (envelope_json e))
envelope_texts e is = (
  tt,
  (
    IsUtf8-are_ascii _ refl,
    (
      symbols_utf8 e.payload,
      (
        IsUtf8-are_ascii _ refl,
        (
          is.payload_type,
          (
            IsUtf8-are_ascii _ refl,
            (tt, signatures_texts e.signatures (end_object ∷ []) is.signatures (tt, tt)),
          ),
        ),
      ),
    ),
  ),
)

envelope_depth : (payload_type text : List ℕ) (js : Items) → items_depth js ≤ 1 → depth (of_text payload_type text js) ≤ 128
envelope_depth payload_type text js low = omega arith

envelope_unique : (payload_type text : List ℕ) (js : Items) → ItemsHaveUniqueKeys js → HasUniqueKeys (of_text payload_type text js)
envelope_unique payload_type text js unique = (
  distinct_three (codes "payload") (codes "payloadType") (codes "signatures") (differ (codes "payload") (codes "payloadType") (λ e. omega (arith, e)))
      (differ (codes "payload") (codes "signatures") (λ e. omega (arith, e))) (differ (codes "payloadType") (codes "signatures") (λ e. omega (arith, e))),
  (tt, (tt, (unique, tt))),
)

pub envelope_back : (e : Said) → IsSaid e → IsEnvelope (envelope_text e) e
envelope_back e is =
    let text : List ℕ = encode_of standard e.payload in
    let js : Items = signatures_json e.signatures in
    let texts = envelope_texts e is in
    record {
      utf8 = line_utf8 false (json_tokens (envelope_json e)) texts;
      json = envelope_json e;
      is
          = document-line (envelope_json e) texts (tt, (tt, (signatures_numbers e.signatures, tt))) (envelope_depth e.payload_type text js (signatures_depth e.signatures));
      unique = envelope_unique e.payload_type text js (signatures_unique e.signatures);
      says = envelope_read e.payload_type text e.payload js e.signatures (decoded_encoded e.payload is.payload) (signatures_read e.signatures is.signatures);
    }
