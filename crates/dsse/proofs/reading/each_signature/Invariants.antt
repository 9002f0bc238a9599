use Rattle.std.proofs.Common.{◌≡◌, ◌++◌, drop, map, option_map}
use Rattle.json.specs.Value.{items_view}
use Rattle.dsse.specs.Reading.{signatures_of}
use Rattle.dsse.specs.Said.{said_by}
use Rattle.dsse.proofs.reading.each_signature.Given as goal

abbrev pub invariant-loop-item : goal.invariant-loop-item
invariant-loop-item l =
    option_map (λ rest. map said_by l.found.items ++ rest) (signatures_of (items_view (drop l.item-index l.items)))
    ≡ signatures_of (items_view l.items)
