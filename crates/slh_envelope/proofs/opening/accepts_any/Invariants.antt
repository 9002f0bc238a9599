use Rattle.std.proofs.Common.{◌≡◌, drop, map}
use Rattle.std.specs.List.{list_any}
use Rattle.dsse.specs.Said.{said_by}
use Rattle.slh_envelope.specs.Opening.{is_accepted}
use Rattle.slh_envelope.proofs.opening.accepts_any.Given as goal

-- one of all is accepted where one of those that are left is
abbrev pub invariant-loop-signature : goal.invariant-loop-signature
invariant-loop-signature g l =
    list_any (is_accepted g.P.ForsSizes.scheme l.vk l.id l.text) (map said_by (drop l.signature-index l.signatures))
    ≡ list_any (is_accepted g.P.ForsSizes.scheme l.vk l.id l.text) (map said_by l.signatures)
