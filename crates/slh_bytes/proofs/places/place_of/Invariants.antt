use Rattle.std.proofs.Common.{◌≡◌, drop}
use Rattle.slh_bytes.specs.Places.{first_place}
use Rattle.slh_bytes.proofs.Searches.{moved}
use Rattle.slh_bytes.proofs.places.place_of.Given as goal

-- the first place is one in what is left to be searched
abbrev pub invariant-loop-at : goal.invariant-loop-at
invariant-loop-at l = first_place l.mark l.text ≡ moved l.at (first_place l.mark (drop l.at l.text))
