use Rattle.std.proofs.Common.{◌≡◌, rules, sym, ◌∙◌}
use Rattle.slh_stream.proofs.passes.SecondPass.finish_into_counted.Goals as goal

pub returns-clause-value : goal.returns-clause-value
returns-clause-value g c key opt_rand context m is =
    let same : c.end_mac.result ≡ c.args.self.rand = search rules in
    c.sign_absorbed.ensures.value _ opt_rand _ is.key_is is.hashed
    (sym same ∙ rw is.randomizer_is at (c.end_mac.ensures _ _ _ is.stands))

pub returns-clause-made : goal.returns-clause-made
returns-clause-made g c key opt_rand m is =
    let same : c.end_mac.result ≡ c.args.self.rand = search rules in
    sym (c.end_mac.ensures _ _ _ is) ∙ same
