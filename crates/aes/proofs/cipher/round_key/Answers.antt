use Rattle.std.proofs.Common.{◌≡◌, ◌+◌, ◌*◌, ◌-◌, ◌∙◌, ap, take, drop, arith}
use Rattle.aes.proofs.Rounds.{key_at}
use Rattle.aes.proofs.cipher.round_key.Goals as goal

pub returns : goal.returns
returns c = λ key held.
    let all = c.args.keys.now.bytes in
    let r = c.args.r in
    let sixteen : 16 * r + 16 - 16 * r ≡ 16 = omega arith in
    c.copy_from_slice.ensures.after ∙ ap (λ n. take n (drop (16 * r) all)) sixteen
    ∙ key_at all _ r c.args.keys.now.rounds c.requires held.bytes
