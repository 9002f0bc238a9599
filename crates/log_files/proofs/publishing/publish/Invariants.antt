use Rattle.std.proofs.Common.{◌≤◌, IsTrue}
use Rattle.log_files.specs.Publishing.{FirstWritten}
use Rattle.log_files.proofs.publishing.publish.Given as goal

abbrev pub invariant-loop-i : goal.invariant-loop-i
invariant-loop-i g l = (IsTrue g.F.FileSystem.tells
    → FirstWritten (g.F.FileSystem.files l.fn.fs) l.fn.pieces l.i (g.F.FileSystem.files l.fs))
    × (g.F.FileSystem.faults l.fn.fs ≤ g.F.FileSystem.faults l.fs)
