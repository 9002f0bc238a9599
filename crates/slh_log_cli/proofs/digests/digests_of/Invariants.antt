use Rattle.std.proofs.Common.{◌≡◌, drop}
use Rattle.slh_log_cli.specs.Proofs.{digests_of}
use Rattle.slh_log_cli.proofs.DigestWords.{read_on}
use Rattle.slh_log_cli.proofs.digests.digests_of.Given as goal

-- the digests of all words are those that are read, and those of the words that are left
abbrev pub invariant-each_word : goal.invariant-each_word
invariant-each_word l = read_on l.all.items (drop l.i l.words) ≡ digests_of l.words
