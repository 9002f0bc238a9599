use Rattle.slh_frames.proofs.FrameParts.{same_context, same_message, same_mode, same_sha256, same_sha512}
use Rattle.slh_frames.proofs.laws.frames_differ.Goals as goal

pub returns-clause-modes : goal.returns-clause-modes
returns-clause-modes c = same_mode

pub returns-clause-contexts : goal.returns-clause-contexts
returns-clause-contexts c = same_context

pub returns-clause-pure : goal.returns-clause-pure
returns-clause-pure c = same_message

pub returns-clause-by_sha256 : goal.returns-clause-by_sha256
returns-clause-by_sha256 c = same_sha256

pub returns-clause-by_sha512 : goal.returns-clause-by_sha512
returns-clause-by_sha512 c = same_sha512
