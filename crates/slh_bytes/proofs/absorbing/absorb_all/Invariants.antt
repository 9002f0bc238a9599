use Rattle.std.proofs.Common.{ℕ, ◌≤◌, List, [], length}
use Rattle.std.specs.Io.KnownBytes.{Consumes}
use Rattle.slh_bytes.specs.Terms.{Terms}
use Rattle.slh_bytes.proofs.absorbing.absorb_all.Given as goal

abbrev pub invariant-each_piece : goal.invariant-each_piece
invariant-each_piece g l = (taken : List ℕ)
    × Consumes (g.R.Input.remaining l.initial.reader) (g.R.Input.remaining l.reader) taken
    × ((terms : Terms) → g.T.Absorber.stands l.initial.absorber terms [] → g.T.Absorber.stands l.absorber terms taken)
    × (l._pieces ≤ length taken)
