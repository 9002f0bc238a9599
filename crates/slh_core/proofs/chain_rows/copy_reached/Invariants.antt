use Rattle.std.proofs.Common.{◌≡◌, ◌==◌, ℕ, ◌*◌, List, take, drop, if◌then◌else◌}
use Rattle.std.specs.Prelude.{slice_index}
use Rattle.slh_core.specs.Bytes.{joined, part}
use Rattle.slh_core.proofs.chain_rows.copy_reached.Given as goal

-- the parts so far, and those that are left
abbrev pub invariant-loop-c : goal.invariant-loop-c
invariant-loop-c l =
    let current : ℕ → List ℕ = λ c. if slice_index l.digits c == l.q then part l.n l.values c else part l.n l.initial.out c in
    record {
      parts : take (l.c * l.n) l.out ≡ joined current l.c;
      rest : drop (l.c * l.n) l.out ≡ drop (l.c * l.n) l.initial.out;
    }
