use Rattle.std.proofs.Common.{◌≡◌, [], drop}
use Rattle.line_serve.specs.Fields.{contents}
use Rattle.slh_bytes.specs.Rings.{ring_from}
use Rattle.slh_bytes.proofs.rings.ring_of.Given as goal

-- the ring of all is that of what is added, and of the texts that are left
abbrev pub invariant-each_text : goal.invariant-each_text
invariant-each_text g l =
    ring_from l.i l.ring (contents (drop l.i l.texts)) ≡ ring_from 0 [] (contents l.texts)
