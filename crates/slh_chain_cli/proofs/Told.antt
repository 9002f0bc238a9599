-- The text for a link or a name, by what the call answers.
use Rattle.std.proofs.Common.{◌≡◌, ℕ, List, [], ◌∷◌, refl, true, false, arith}
use Rattle.std.specs.Prelude.{◌==◌, Bool, Option, None, Some, codes, length, nat_le, unwrap_or}
use Rattle.std.specs.Prelude.{if◌then◌else◌}
use Rattle.line_serve.specs.Texts.{hex_line}
use Rattle.slh_core.specs.Parameters.{Scheme}
use Rattle.slh_core.specs.Refusals.{first_refusal}
use Rattle.slh_chain.specs.Links.{delegate_refusal, is_name_size, link_body, signed_link}
use Rattle.slh_chain.specs.declared.error.LinkError.{LinkError}
use Rattle.slh_chain.specs.declared.error.LinkError.TheVariants.{Name, Depth, Randomizer, Memory}
use Rattle.slh_chain_cli.specs.Replies.{delegate_text}

text_by : (named : Bool) (later : List (Option LinkError)) (link : List ℕ)
    → first_refusal ((if named then None else Some Name) ∷ later) ≡ None
    → (if named then link else codes "error name\n") ≡ link
text_by true later link is = refl
text_by false later link is = grind arith

pub told_link : (Z : Scheme) (key name : List ℕ) (depth : ℕ) (subject : List ℕ)
    (opt_rand : Option (List ℕ))
    → delegate_refusal Z name depth opt_rand ≡ None
    → delegate_text Z key name depth subject opt_rand
    ≡ hex_line (codes "link ") (signed_link Z key opt_rand (link_body depth name subject))
told_link Z key name depth subject opt_rand is =
    text_by (is_name_size (length name)) _ _ is

name_by : (named shallow fits : Bool) (link : List ℕ)
    → unwrap_or (first_refusal
    ((if named then None else Some Name) ∷ (if shallow then None else Some Depth)
    ∷ (if fits then None else Some Randomizer) ∷ [])) Memory ≡ Name
    → (if named then link else codes "error name\n") ≡ codes "error name\n"
name_by false shallow fits link is = refl
name_by true true true link is = grind arith
name_by true true false link is = grind arith
name_by true false fits link is = grind arith

pub told_name : (Z : Scheme) (key name : List ℕ) (depth : ℕ) (subject : List ℕ)
    (opt_rand : Option (List ℕ))
    → unwrap_or (delegate_refusal Z name depth opt_rand) Memory ≡ Name
    → delegate_text Z key name depth subject opt_rand ≡ codes "error name\n"
told_name Z key name depth subject None is =
    name_by (is_name_size (length name)) (nat_le depth 15) true _ is
told_name Z key name depth subject (Some bytes) is =
    name_by (is_name_size (length name)) (nat_le depth 15) (length bytes == Z.n) _ is
