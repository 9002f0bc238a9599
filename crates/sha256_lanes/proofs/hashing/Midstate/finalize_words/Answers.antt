use Rattle.std.proofs.Common.{arith}
use Rattle.sha256_lanes.proofs.EightHashes.{digest_of_lane}
use Rattle.sha256_lanes.proofs.hashing.Midstate.finalize_words.Goals as goal

pub returns-in-16 : goal.returns-in-16
returns-in-16 c = λ m j held h.
    rw c.in-16.is (digest_of_lane c.args.self.now m c.args.heads.now c.args.values.now c.digest_words.result 16 j held (omega arith) (c.digest_words.ensures j h))

pub returns-in-24 : goal.returns-in-24
returns-in-24 c = λ m j held h.
    rw c.in-24.is (digest_of_lane c.args.self.now m c.args.heads.now c.args.values.now c.digest_words-in-24.result 24 j held (omega arith) (c.digest_words-in-24.ensures j h))

pub returns-in-32 : goal.returns-in-32
returns-in-32 c = λ m j held h.
    rw c.in-32.is (digest_of_lane c.args.self.now m c.args.heads.now c.args.values.now c.digest_words-in-32.result 32 j held (omega arith) (c.digest_words-in-32.ensures j h))
