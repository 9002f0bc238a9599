use Rattle.std.proofs.Common.{◌≡◌, drop, map}
use Rattle.std.specs.Prelude.{string_bytes}
use Rattle.slh_bytes.specs.Manifests.{first_unnamed}
use Rattle.slh_bytes.proofs.manifests.first_other.Given as goal

-- the first of all is that of the names that are left
abbrev pub invariant-loop-name : goal.invariant-loop-name
invariant-loop-name l =
    first_unnamed l.manifest (map string_bytes (drop l.name-index l.names))
    ≡ first_unnamed l.manifest (map string_bytes l.names)
