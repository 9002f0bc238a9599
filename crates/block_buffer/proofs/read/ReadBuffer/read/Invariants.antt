use Rattle.std.proofs.Common.{◌≡◌, ◌≤◌, ◌<◌, ◌-◌, [], length, take}
use Rattle.block_buffer.specs.Gen.{Reads}
use Rattle.block_buffer.proofs.read.ReadBuffer.read.Given as goal

-- what was read so far; and nothing is unread unless all is read
abbrev pub invariant-each_block : goal.invariant-each_block
invariant-each_block g l = record {
  within : l.at ≤ length l.out;
  len : length l.out ≡ l.len;
  reads : Reads g.BS.ArraySize.USIZE (g.G.BlockGen.state l.fn.generator) (g.G.BlockGen.state l.generator) l.fn.self (take l.at l.out) l.self;
  empty : l.at < length l.out → l.self ≡ [];
}

abbrev pub decreases-each_block : goal.decreases-each_block
decreases-each_block g l = l.len - l.at
