-- What the store in memory is seen as.
use Rattle.std.specs.Prelude.{ℕ, List, map}
use Rattle.std.specs.FinMap.{from_entries}
use Rattle.line_serve.specs.Scripts.{script_fails, script_number, script_faults}
use Rattle.slh_manifest.specs.Files.{Files}
use Rattle.slh_manifest.specs.declared.memory.MemStore.{MemStore}

-- the names with their bytes
abbrev pub store_files : MemStore → Files
store_files store = from_entries (map (λ e. (e.0.items, e.1)) store.files.entries)

-- the numbers of the reads that fail
abbrev pub store_fails : MemStore → List ℕ
store_fails store = script_fails store.script

-- the number of the next read, 2^64 once none is left
abbrev pub store_number : MemStore → ℕ
store_number store = script_number store.script

-- how many reads failed
abbrev pub store_faults : MemStore → ℕ
store_faults store = script_faults store.script
