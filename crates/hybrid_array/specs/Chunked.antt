-- What a writable view of chunks ends as, where a `&mut` into it is returned.
use Rattle.std.specs.Prelude.{ℕ, ◌*◌, List, [], Option, Some, None}
use Rattle.std.specs.Borrow.{follows, follows_if, ftrue, MutBor, Fml, GName, Array, RattleType}
use Rattle.hybrid_array.specs.declared.ArraySize.{Ghosts}
use Rattle.hybrid_array.specs.declared.chunks_mut.ChunksMut.{ChunksMut}
use Rattle.hybrid_array.specs.Lending.{leads, with_part}
use Rattle.hybrid_array.specs.contracts.chunks_mut.ChunksMut as chunks
use mathlib.Core.Option as maybe
use mir.Syntax.{named}

module _ (T U : RattleType) (size : Ghosts U.Denot) (s : MutBor (ChunksMut T.Denot U.Denot)) where
  -- s with these items
  abbrev pub with_items : List T.Denot → ChunksMut T.Denot U.Denot
  with_items ws = record s.now { items = record s.now.items { now = ws } }

  -- s ends with the items that the reference of this name leaves
  abbrev pub LendsChunks : GName → Fml
  LendsChunks name = follows (chunks.the_row (record { mir = named 1; lft = [] }) T U size)
      (Array T 0) s.ghost_name name with_items

  -- without an answer s ends as it was
  abbrev pub RestsWithNone : {X : Type 0} → Option X → Fml
  RestsWithNone (Some x) = ftrue
  RestsWithNone None = follows_if (chunks.the_row (record { mir = named 1; lft = [] }) T U size)
      (Array T 0) s.ghost_name maybe.none with_items s.now

  -- s ends with the items that the reference of this name leaves in place of chunk i, or as it was,
  -- if there is no name
  abbrev pub LendsChunk : ℕ → maybe.Option GName → Fml
  LendsChunk i maybe.none =
      follows_if (chunks.the_row (record { mir = named 1; lft = [] }) T U size)
      (Array T 0) s.ghost_name maybe.none with_items s.now
  LendsChunk i (maybe.some name) =
      leads (chunks.the_row (record { mir = named 1; lft = [] }) T U size)
      (Array T 0) s.ghost_name name
      (λ ws. with_items (with_part s.now.items.now (i * size.USIZE) size.USIZE ws))
