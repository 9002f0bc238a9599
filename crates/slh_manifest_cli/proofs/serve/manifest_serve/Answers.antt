use Rattle.slh_manifest_cli.proofs.Replied.{replied}
use Rattle.slh_manifest_cli.proofs.serve.manifest_serve.Goals as goal

pub returns-clause-replied : goal.returns-clause-replied
returns-clause-replied g c = replied
