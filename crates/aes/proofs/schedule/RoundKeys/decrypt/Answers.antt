use Rattle.std.proofs.Common.{◌≡◌, ◌-◌, ◌∙◌, ap, arith, ℕ, List, map}
use Rattle.aes.specs.Field.{inverse_s_box}
use Rattle.aes.specs.Block.{added, inverse_shift_rows, inverse_mix_columns}
use Rattle.aes.specs.Cipher.{inverse_cipher, rounds_undone, round_key}
use Rattle.aes.specs.Schedule.{expanded_key, rounds_of}
use Rattle.aes.proofs.Rounds.{first_undone, one_undone}
use Rattle.aes.proofs.schedule.RoundKeys.decrypt.Goals as goal

pub rounds-init : goal.rounds-init
rounds-init c = λ key held.
    c.added-state.ensures
    ∙ first_undone (expanded_key key) c.args.block.now c.round_key.result (rounds_of key) (c.round_key.ensures key held ∙ ap (round_key (expanded_key key)) held.count)

pub rounds-preserved : goal.rounds-preserved
rounds-preserved c = λ key held.
    let steps : c.inverse_mix_columns-state.result ≡ inverse_mix_columns (added (map inverse_s_box (inverse_shift_rows c.rounds.state)) c.round_key-in-rounds.result) =
    cc in
    steps
    ∙ one_undone (expanded_key key) c.args.block.now c.rounds.state c.round_key-in-rounds.result (rounds_of key) c.rounds.r c.rounds.auto.r (c.round_key-in-rounds.ensures key held ∙ ap (λ n. round_key (expanded_key key) (n - c.rounds.r)) held.count) (c.rounds.invariant key held)

pub returns : goal.returns
unfolding inverse_cipher
returns c = λ key held.
    let steps : c.added.result ≡ added (map inverse_s_box (inverse_shift_rows c.rounds.state)) c.round_key-2.result =
    cc in
    let end : c.rounds.r - 1 ≡ rounds_of key - 1 = omega (arith, held.count) in
    steps
    ∙ ap (λ (t : List ℕ). added (map inverse_s_box (inverse_shift_rows t)) c.round_key-2.result) (c.rounds.invariant key held ∙ ap (rounds_undone (expanded_key key) (rounds_of key) c.args.block.now) end)
    ∙ ap (added (map inverse_s_box (inverse_shift_rows (rounds_undone (expanded_key key) (rounds_of key) c.args.block.now (rounds_of key - 1))))) (c.round_key-2.ensures key held)
