-- What a read buffer is once its first unread bytes aren't lent any more.
use Rattle.std.specs.Prelude.{◌≡◌, ℕ, List, drop, ⊤}
use Rattle.std.specs.Borrow.{MutBor, Fml, RattleType, follows_so}
use Rattle.hybrid_array.specs.declared.ArraySize.{Ghosts}
use Rattle.block_buffer.specs.contracts.read.ReadBuffer.{the_row}
use mathlib.Core.Option.{none}

-- the unread bytes but the first `len`
abbrev pub LeavesUnread : (U : RattleType) → Ghosts U.Denot → MutBor (List ℕ) → ℕ → Fml
LeavesUnread U size buffer len =
    follows_so (the_row U size) (the_row U size) buffer.ghost_name none (λ _ _. ⊤)
    (λ unread. unread ≡ drop len buffer.now)
