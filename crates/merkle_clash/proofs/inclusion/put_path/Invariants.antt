use Rattle.std.proofs.Common.{◌≡◌, ◌<◌, ◌≤◌, ◌^◌, ◌++◌, length, drop}
use Rattle.merkle_tree.specs.Tree.{path_within}
use Rattle.merkle_clash.proofs.inclusion.put_path.Given as goal

-- what is left of the way stands before what is put there
abbrev pub invariant-each_height : goal.invariant-each_height
invariant-each_height g l =
    let H = g.H.TreeHash.hash in
    record {
      inside : l.at < length l.part;
      few : length l.part ≤ 2 ^ l.height;
      room : l.height ≤ l.start;
      top : l.start ≤ 64;
      size : length l.path ≡ 64;
      path : path_within H l.height l.part l.at ++ drop l.start l.path ≡ path_within H 64 l.digests l.index;
    }

abbrev pub decreases-each_height : goal.decreases-each_height
decreases-each_height g l = l.height
