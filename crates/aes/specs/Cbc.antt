-- Cipher block chaining (SP 800-38A, 6.2), and the padding of messages to whole blocks (RFC 5652,
-- 6.3).
use Rattle.std.specs.Prelude.{ℕ, zero, suc, ◌-◌, ◌*◌, ◌/◌, ◌%◌, nat_lt, ◌==◌, ◌||◌}
use Rattle.std.specs.Prelude.{List, [], ◌++◌, length, take, drop, replicate, slice_index}
use Rattle.std.specs.Prelude.{Option, None, Some, if◌then◌else◌}
use Rattle.std.specs.Str.{bytes_eq}
use Rattle.aes.specs.Block.{added}
use Rattle.aes.specs.Cipher.{cipher, inverse_cipher}

-- block j of a message, counted from 0
abbrev pub block_at : List ℕ → ℕ → List ℕ
block_at m j = take 16 (drop (16 * j) m)

-- the block that is added to block j of a message: the initial vector, and then the block before it
-- of what was encrypted
unfoldable pub chained : List ℕ → List ℕ → List ℕ → ℕ → List ℕ
chained key iv m zero = iv
chained key iv m (suc j) = cipher key (added (block_at m j) (chained key iv m j))

-- the first n blocks of what is encrypted
unfoldable pub cbc_blocks : List ℕ → List ℕ → List ℕ → ℕ → List ℕ
cbc_blocks key iv m zero = []
cbc_blocks key iv m (suc n) = cbc_blocks key iv m n ++ chained key iv m (suc n)

-- a message of whole blocks under a key
abbrev pub cbc : List ℕ → List ℕ → List ℕ → List ℕ
cbc key iv m = cbc_blocks key iv m (length m / 16)

-- the block before block j, or the initial vector before the first
unfoldable pub before : List ℕ → List ℕ → ℕ → List ℕ
before iv c zero = iv
before iv c (suc j) = block_at c j

-- the first n blocks of what is decrypted
unfoldable pub cbc_undone : List ℕ → List ℕ → List ℕ → ℕ → List ℕ
cbc_undone key iv c zero = []
cbc_undone key iv c (suc n) =
    cbc_undone key iv c n ++ added (inverse_cipher key (block_at c n)) (before iv c n)

-- the message of blocks under a key
abbrev pub inverse_cbc : List ℕ → List ℕ → List ℕ → List ℕ
inverse_cbc key iv c = cbc_undone key iv c (length c / 16)

-- how many bytes follow a message of n bytes: 1 to 16
abbrev pub padding_count : ℕ → ℕ
padding_count n = 16 - n % 16

-- a message, and as many bytes as make its blocks whole, at least one, each with their number
unfoldable pub padded : List ℕ → List ℕ
padded m = m ++ replicate (padding_count (length m)) (padding_count (length m))

-- how many bytes stand before the padding, if the bytes end with one
unfoldable pub unpadded_len : List ℕ → Option ℕ
unpadded_len p =
    let n = length p in
    let count = slice_index p (n - 1) in
    if count == 0 || (nat_lt 16 count || nat_lt n count) then None
    else if bytes_eq (drop (n - count) p) (replicate count count) then Some (n - count)
    else None
