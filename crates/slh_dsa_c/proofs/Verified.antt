-- What is signed is verified, by the numbers that the exports answer.
use Rattle.std.proofs.Common.{◌≡◌, ℕ, ◌*◌, ◌^◌, ◌≤◌, List, [], ◌∷◌, length, drop, Option, None, Some, refl, ap, ◌∙◌, arith, length-drop}
use Rattle.std.specs.Option.{option_map}
use Rattle.std.specs.Prelude.{IfSome, MatchOption}
use Rattle.std.proofs.lemmas.Bool.Decides.{Decides-eqb}
use Rattle.slh_core.specs.Parameters.{Scheme}
use Rattle.slh_trees.specs.Keys.{IsTrueKey}
use Rattle.slh_trees.specs.Signing.{signature_of}
use Rattle.slh_core.specs.Refusals.{context_refusal, message_refusal}
use Rattle.slh_core.proofs.Refusals.{at_most, first_none, no_cause, none_first, passed}
use Rattle.slh_dsa.specs.Calls.{hash_verify_error, opt_rand_refusal, sign_input_refusal, sign_refusal, signature_refusal, signing_key_refusal}
use Rattle.slh_frames.specs.Frames.{mode_frame}
use Rattle.slh_dsa.specs.declared.error.Error.{Error}
use Rattle.slh_dsa.specs.declared.error.Error.TheVariants.{ContextTooLong, Invalid, Length, Memory, MessageTooLong, RandomizerLength}
use Rattle.slh_frames.specs.declared.frame.Mode.{Mode}
use Rattle.slh_sets.specs.Sets.{scheme_for}
use Rattle.slh_sets.specs.declared.set.Set.{Set}
use Rattle.slh_dsa_c.specs.Status.{in_mode, in_set, number_of_refusal, sign_refusal_by_key, verify_error_by_key}

-- no cause has the number 0
none_at_zero : (refusal : Option Error) → number_of_refusal refusal ≡ 0 → refusal ≡ None
none_at_zero None zero = refl
none_at_zero (Some Length) zero = absurd (omega (arith, zero))
none_at_zero (Some ContextTooLong) zero = absurd (omega (arith, zero))
none_at_zero (Some RandomizerLength) zero = absurd (omega (arith, zero))
none_at_zero (Some MessageTooLong) zero = absurd (omega (arith, zero))
none_at_zero (Some Invalid) zero = absurd (omega (arith, zero))
none_at_zero (Some Memory) zero = absurd (omega (arith, zero))

-- what is known of signing and verifying
abbrev pub Accepts : Scheme → ℕ → Type 0
Accepts Z n = (mode : Mode) (key context message : List ℕ) (opt_rand : Option (List ℕ))
    → IsTrueKey Z key → length key ≡ 4 * n → length context ≤ 255 → length message ≤ 2 ^ 60
    → hash_verify_error Z mode (drop (2 * n) key) context message (signature_of Z key opt_rand (mode_frame mode context message)) ≡ None

none_by_key : (Z : Scheme) (mode : Mode) (key context message sig : List ℕ) → length key ≡ 2 * Z.n
    → hash_verify_error Z mode key context message sig ≡ None → verify_error_by_key Z mode key context message sig ≡ None
unfolding verify_error_by_key
none_by_key Z mode key context message sig size none =
    none_first _ _ (no_cause _ _ ((Decides-eqb (length key) (2 * Z.n)).1 size)) (none_first _ _ none refl)

pub verified : (Z : Scheme) (n : ℕ) (mode : Mode) (key context message : List ℕ) (opt_rand : Option (List ℕ)) (len : ℕ)
    → Z.n ≡ n → Accepts Z n → IsTrueKey Z key
    → number_of_refusal (sign_refusal_by_key Z key context opt_rand message len) ≡ 0
    → number_of_refusal (verify_error_by_key Z mode (drop (2 * Z.n) key) context message (signature_of Z key opt_rand (mode_frame mode context message))) ≡ 0
verified Z n mode key context message opt_rand len size accepts true_key zero =
    let sig = signature_of Z key opt_rand (mode_frame mode context message) in
    let whole = first_none (signing_key_refusal Z key) (sign_refusal Z context opt_rand message len ∷ []) (none_at_zero _ zero) in
    let key_len = (Decides-eqb _ _).0 (passed _ _ whole.0) in
    let call = first_none (sign_refusal Z context opt_rand message len) [] whole.1 in
    let sized = first_none (signature_refusal Z len) (sign_input_refusal Z context opt_rand message ∷ []) call.0 in
    let input = first_none (sign_input_refusal Z context opt_rand message) [] sized.1 in
    let contexts = first_none (context_refusal ContextTooLong context) (opt_rand_refusal Z opt_rand ∷ message_refusal MessageTooLong message ∷ []) input.0 in
    let rands = first_none (opt_rand_refusal Z opt_rand) (message_refusal MessageTooLong message ∷ []) contexts.1 in
    let messages = first_none (message_refusal MessageTooLong message) [] rands.1 in
    let four : length key ≡ 4 * n = key_len ∙ ap (λ m. 4 * m) size in
    let accepted = accepts mode key context message opt_rand true_key four (at_most _ _ _ contexts.0) (at_most _ _ _ messages.0) in
    let public_len : length (drop (2 * Z.n) key) ≡ 2 * Z.n = omega (arith, length-drop (2 * Z.n) key, key_len) in
    ap number_of_refusal (none_by_key Z mode (drop (2 * Z.n) key) context message sig public_len (ap (λ m. hash_verify_error Z mode (drop (2 * m) key) context message sig) size ∙ accepted))

-- the same for the set and the mode of a number, where there are some
pub verified_in : (found : Option Set) (mode : Option Mode) (key context message : List ℕ) (opt_rand : Option (List ℕ)) (len : ℕ) (unknown : Type 0)
    → MatchOption found unknown (λ set. Accepts (scheme_for set) (scheme_for set).n)
    → IfSome (option_map scheme_for found) (λ Z. IfSome mode (λ m. let sig = signature_of Z key opt_rand (mode_frame m context message) in
    IsTrueKey Z key
    → in_set (option_map scheme_for found) (λ Z. in_mode mode (λ _. number_of_refusal (sign_refusal_by_key Z key context opt_rand message len))) ≡ 0
    → in_set (option_map scheme_for found) (λ W. in_mode mode (λ m. number_of_refusal (verify_error_by_key W m (drop (2 * Z.n) key) context message sig))) ≡ 0))
verified_in None mode key context message opt_rand len unknown told = tt
verified_in (Some set) None key context message opt_rand len unknown told = tt
verified_in (Some set) (Some mode) key context message opt_rand len unknown told = λ true_key zero.
    verified (scheme_for set) (scheme_for set).n mode key context message opt_rand len refl told true_key zero
