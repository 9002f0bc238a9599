-- Addresses: 32 bytes, and the functions that set and read their parts (FIPS 205, sections 4.2 and
-- 4.3, table 1).
use Rattle.std.specs.Prelude.{ℕ, List, ◌++◌, slice_range}
use Rattle.fips205_law.specs.Bytes.{toByte, toInt}

abbrev pub WOTS_HASH : ℕ
WOTS_HASH = 0

abbrev pub WOTS_PK : ℕ
WOTS_PK = 1

abbrev pub TREE : ℕ
TREE = 2

abbrev pub FORS_TREE : ℕ
FORS_TREE = 3

abbrev pub FORS_ROOTS : ℕ
FORS_ROOTS = 4

abbrev pub WOTS_PRF : ℕ
WOTS_PRF = 5

abbrev pub FORS_PRF : ℕ
FORS_PRF = 6

-- table 1, setLayerAddress: bytes 0 to 3
unfoldable pub setLayerAddress : List ℕ → ℕ → List ℕ
setLayerAddress ADRS l = toByte l 4 ++ slice_range ADRS 4 32

-- setTreeAddress: bytes 4 to 15
unfoldable pub setTreeAddress : List ℕ → ℕ → List ℕ
setTreeAddress ADRS t = slice_range ADRS 0 4 ++ toByte t 12 ++ slice_range ADRS 16 32

-- setTypeAndClear: bytes 16 to 19, and zeros from there on
unfoldable pub setTypeAndClear : List ℕ → ℕ → List ℕ
setTypeAndClear ADRS Y = slice_range ADRS 0 16 ++ toByte Y 4 ++ toByte 0 12

-- setKeyPairAddress: bytes 20 to 23
unfoldable pub setKeyPairAddress : List ℕ → ℕ → List ℕ
setKeyPairAddress ADRS i = slice_range ADRS 0 20 ++ toByte i 4 ++ slice_range ADRS 24 32

-- setChainAddress: bytes 24 to 27
unfoldable pub setChainAddress : List ℕ → ℕ → List ℕ
setChainAddress ADRS i = slice_range ADRS 0 24 ++ toByte i 4 ++ slice_range ADRS 28 32

-- setTreeHeight: the same bytes
abbrev pub setTreeHeight : List ℕ → ℕ → List ℕ
setTreeHeight ADRS i = setChainAddress ADRS i

-- setHashAddress: bytes 28 to 31
unfoldable pub setHashAddress : List ℕ → ℕ → List ℕ
setHashAddress ADRS i = slice_range ADRS 0 28 ++ toByte i 4

-- setTreeIndex: the same bytes
abbrev pub setTreeIndex : List ℕ → ℕ → List ℕ
setTreeIndex ADRS i = setHashAddress ADRS i

-- getKeyPairAddress: bytes 20 to 23
unfoldable pub getKeyPairAddress : List ℕ → ℕ
getKeyPairAddress ADRS = toInt (slice_range ADRS 20 24) 4

-- getTreeIndex: bytes 28 to 31
unfoldable pub getTreeIndex : List ℕ → ℕ
getTreeIndex ADRS = toInt (slice_range ADRS 28 32) 4
