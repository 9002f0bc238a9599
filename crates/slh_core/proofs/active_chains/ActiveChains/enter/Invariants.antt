use Rattle.std.proofs.Common.{◌≡◌, ◌*◌, ℕ, List, take, slice_index}
use Rattle.slh_core.specs.Bytes.{joined, part}
use Rattle.slh_core.specs.ActiveChains.{AreActive}
use Rattle.slh_core.proofs.active_chains.ActiveChains.enter.Given as goal

-- the chains that are taken in so far, and their values
abbrev pub invariant-loop-c : goal.invariant-loop-c
invariant-loop-c l = record {
  active : AreActive l.digits l.q l.c l.self;
  values : (value : ℕ → List ℕ)
      → ((c : ℕ) → slice_index l.digits c ≡ l.q → value c ≡ part l.n l.sig c)
      → take (l.fn.self.count * l.n) l.fn.values ≡ joined (λ k. value (slice_index l.fn.self.numbers k)) l.fn.self.count
      → take (l.self.count * l.n) l.values ≡ joined (λ k. value (slice_index l.self.numbers k)) l.self.count;
}
