use Rattle.aes.proofs.Tables.{box_by_table}
use Rattle.aes.proofs.laws.box_is_table.Goals as goal

pub returns : goal.returns
returns c = box_by_table
