-- A store of nodes, with a place of 32 bytes for each height.
use Rattle.std.specs.Prelude.{◌≡◌, ℕ, ◌+◌, ◌-◌, ◌*◌, ◌/◌, ◌%◌, ◌^◌, List, slice_range}

-- the n bytes in the place of height h
unfoldable pub stored_node : ℕ → List ℕ → ℕ → List ℕ
stored_node n store h = slice_range store (32 * h) (32 * h + n)

-- after q of the lowest nodes below the node with index i at height z, each bit of q stands for a
-- finished node: the last one of its height
unfoldable pub HoldsNodes : ℕ → (ℕ → ℕ → List ℕ) → ℕ → ℕ → ℕ → List ℕ → Type 0
HoldsNodes n nodes z i q store =
    (h : ℕ)
    → q / 2 ^ h % 2 ≡ 1
    → stored_node n store h ≡ nodes h (i * 2 ^ (z - h) + q / 2 ^ h - 1)
