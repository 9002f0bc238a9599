use Rattle.std.proofs.Common.{◌≡◌, ◌*◌, ◌+◌, ◌-◌, ◌/◌, ◌≤◌, ◌∙◌, ap, ℕ, List, take, length, arith, refl}
use Rattle.std.proofs.lemmas.Grind.{common_steps}
use Rattle.aes.specs.Schedule.{expanded, rounds_of}
use Rattle.aes.proofs.Rounds.{begun, most_bytes, one_word, whole_words}
use Rattle.aes.proofs.schedule.RoundKeys.new.Goals as goal

pub words-init : goal.words-init
words-init c =
    let n = length c.args.key.now in
    record {
      whole = grind (arith, common_steps);
      front = ap (λ (t : List ℕ). take (4 * (n / 4)) t) c.zero_padded-bytes.ensures
          ∙ begun c.args.key.now _ (n / 4) (whole_words n c.requires);
    }

pub words-preserved : goal.words-preserved
words-preserved c =
    let n = length c.args.key.now in
    let most : n ≤ 32 = most_bytes n c.requires in
    let i = c.words.i in
    let fits : 4 * i + 4 ≤ length c.words.bytes = omega arith in
    record {
      whole = grind (arith, common_steps);
      front = one_word c.words.bytes c.args.key.now c.copy_from_slice.new.self (n / 4) i c.words.auto.i fits c.words.invariant.front (c.copy_from_slice.ensures.after ∙ c.next_word-word.ensures);
    }

pub returns : goal.returns
returns c =
    let key = c.args.key.now in
    let end : c.words.i ≡ 4 * (rounds_of key + 1) = omega arith in
    let all : 16 * (rounds_of key + 1) ≡ 4 * c.words.i = omega arith in
    record {
      size = c.requires;
      count = refl;
      bytes = ap (λ m. take m c.words.bytes) all ∙ c.words.invariant.front
          ∙ ap (λ m. expanded (length key / 4) key (m - length key / 4)) end;
    }
