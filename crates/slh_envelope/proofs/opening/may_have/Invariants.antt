use Rattle.std.proofs.Common.{◌≡◌, drop, map}
use Rattle.std.specs.List.{list_any}
use Rattle.dsse.specs.Said.{said_by}
use Rattle.slh_envelope.specs.Opening.{may_be_of}
use Rattle.slh_envelope.proofs.opening.may_have.Given as goal

-- one of all may be the key's where one of those that are left may
abbrev pub invariant-loop-signature : goal.invariant-loop-signature
invariant-loop-signature l =
    list_any (may_be_of l.id) (map said_by (drop l.signature-index l.signatures))
    ≡ list_any (may_be_of l.id) (map said_by l.signatures)
