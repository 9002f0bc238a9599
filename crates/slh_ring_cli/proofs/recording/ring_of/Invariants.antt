use Rattle.std.proofs.Common.{◌≡◌, ◌≤◌, [], drop, length}
use Rattle.slh_ring_cli.specs.Replies.{all_added}
use Rattle.slh_ring_cli.proofs.recording.ring_of.Given as goal

-- the ring of all is that of what is added, and of the paths that are left
abbrev pub invariant-loop-path : goal.invariant-loop-path
invariant-loop-path g l = record {
  added : all_added l.ring (drop l.path-index l.paths) ≡ all_added [] l.paths;
  few : length l.ring ≤ l.path-index;
}
