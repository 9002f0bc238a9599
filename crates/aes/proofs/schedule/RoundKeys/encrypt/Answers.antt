use Rattle.std.proofs.Common.{◌≡◌, ◌-◌, ◌∙◌, ap, arith, ℕ, List, map}
use Rattle.aes.specs.Field.{s_box}
use Rattle.aes.specs.Block.{added, shift_rows, mix_columns}
use Rattle.aes.specs.Cipher.{cipher, rounds_done, round_key}
use Rattle.aes.specs.Schedule.{expanded_key, rounds_of}
use Rattle.aes.proofs.Rounds.{first_done, one_done}
use Rattle.aes.proofs.schedule.RoundKeys.encrypt.Goals as goal

pub rounds-init : goal.rounds-init
rounds-init c = λ key held.
    c.added-state.ensures ∙ first_done (expanded_key key) c.args.block.now c.round_key.result (c.round_key.ensures key held)

pub rounds-preserved : goal.rounds-preserved
rounds-preserved c = λ key held.
    let steps : c.added-state-in-rounds.result ≡ added (mix_columns (shift_rows (map s_box c.rounds.state))) c.round_key-in-rounds.result =
    cc in
    steps
    ∙ one_done (expanded_key key) c.args.block.now c.rounds.state c.round_key-in-rounds.result c.rounds.r c.rounds.auto.r (c.round_key-in-rounds.ensures key held) (c.rounds.invariant key held)

pub returns : goal.returns
unfolding cipher
returns c = λ key held.
    let steps : c.added.result ≡ added (shift_rows (map s_box c.rounds.state)) c.round_key-2.result = cc in
    let end : c.rounds.r - 1 ≡ rounds_of key - 1 = omega (arith, held.count) in
    steps
    ∙ ap (λ (t : List ℕ). added (shift_rows (map s_box t)) c.round_key-2.result) (c.rounds.invariant key held ∙ ap (rounds_done (expanded_key key) c.args.block.now) end)
    ∙ ap (added (shift_rows (map s_box (rounds_done (expanded_key key) c.args.block.now (rounds_of key - 1))))) (c.round_key-2.ensures key held ∙ ap (round_key (expanded_key key)) held.count)
