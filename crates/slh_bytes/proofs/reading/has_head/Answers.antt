use Rattle.std.proofs.Common.{Some, None}
use Rattle.std.proofs.lemmas.Bool.Decides.{Decides-eqb}
use Rattle.std.proofs.lemmas.Slice.Eq.{strip_prefix_is}
use Rattle.slh_bytes.proofs.Ders.{der_behind, der_elsewhere}
use Rattle.slh_bytes.proofs.reading.has_head.Goals as goal

pub returns-in-Some : goal.returns-in-Some
returns-in-Some c =
    let is = strip_prefix_is Decides-eqb c.args.der.now c.head.result.now (Some c.in-Some.key) c.in-Some.ensures.cases in
    rw c.key_len.ensures.value (der_behind c.args.kind c.args.set c.head.result.now c.in-Some.key.now c.args.der.now c.head.ensures.value is)

pub returns-in-None : goal.returns-in-None
returns-in-None c =
    let not = strip_prefix_is Decides-eqb c.args.der.now c.head.result.now None c.in-None.ensures.cases in
    der_elsewhere c.args.kind c.args.set c.head.result.now c.args.der.now c.head.ensures.value not
