-- Bytes that come in pieces, to be compared with an entry.
use Rattle.std.specs.Prelude.{◌<◌, ℕ, List, length, MatchBool}
use Rattle.hmac_sha256.specs.Hash.{StandsFor}
use Rattle.slh_manifest.specs.Entries.{entry_copied}
use Rattle.slh_manifest.specs.declared.checker.EntryChecker.{EntryChecker}
use Rattle.slh_manifest.specs.declared.entry.Entry.{Entry}

-- the entry that they are compared with
abbrev pub checked_entry : EntryChecker → Entry
checked_entry checker = entry_copied checker.entry

-- these came: they are hashed, or there are more of them than the entry says
abbrev pub HasTaken : EntryChecker → List ℕ → Type 0
HasTaken checker m =
    MatchBool checker.is_longer (checker.entry.len < length m) (StandsFor checker.hash m)
