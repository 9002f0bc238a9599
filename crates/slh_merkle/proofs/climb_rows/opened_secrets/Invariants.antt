use Rattle.std.proofs.Common.{◌≡◌, ◌<◌, ℕ, take}
use Rattle.slh_core.specs.Bytes.{part}
use Rattle.slh_merkle.proofs.climb_rows.opened_secrets.Given as goal

-- the secrets so far
abbrev pub invariant-loop-i : goal.invariant-loop-i
invariant-loop-i g l =
    (k : ℕ) → k < l.i → part l.n l.out k ≡ take l.n (part l.size l.sig k)
