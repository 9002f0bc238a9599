use Rattle.log_tiles.proofs.Reading.{behind_reads, end_reads, refused_reads}
use Rattle.log_tiles.proofs.laws.readers_give_the_entries.Goals as goal

pub returns-clause-behind : goal.returns-clause-behind
returns-clause-behind c = behind_reads

pub returns-clause-end : goal.returns-clause-end
returns-clause-end c = end_reads

pub returns-clause-refused : goal.returns-clause-refused
returns-clause-refused c = refused_reads
