use Rattle.std.proofs.Common.{◌≡◌, ◌*◌, ◌≤◌}
use Rattle.hmac_sha256.specs.Hash.{StandsFor, absorbed_bytes}
use Rattle.slh_bench.specs.Bench.{accepted_count, bench_signatures}
use Rattle.slh_trees.specs.Checking.{signature_size}
use Rattle.slh_bench.proofs.bench.sign_all.Given as goal

-- the signatures so far are hashed, and those that are accepted are counted
abbrev pub invariant-loop-i : goal.invariant-loop-i
invariant-loop-i g l =
    record {
      hashed : StandsFor l.hash (bench_signatures g.P.ForsSizes.scheme l.prk l.i);
      absorbed : absorbed_bytes l.hash ≡ l.i * signature_size g.P.ForsSizes.scheme;
      counted : l.accepted ≡ accepted_count g.P.ForsSizes.scheme l.prk l.i;
      few : l.accepted ≤ l.i;
    }
