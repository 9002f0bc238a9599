-- What a writable view ends as, where a `&mut` to its items is returned.
use Rattle.std.specs.Prelude.{List, [], length}
use Rattle.std.specs.List.{refill, length_refill}
use Rattle.std.specs.Borrow.{follows, MutBor, Fml, GName, Array, RattleType}
use Rattle.hybrid_array.specs.declared.ArraySize.{Ghosts}
use Rattle.hybrid_array.specs.declared.view_mut.ArrayMut.{ArrayMut}
use Rattle.hybrid_array.specs.contracts.view_mut.ArrayMut as view
use mathlib.Core.Path.{refl, sym, ◌∙◌}
use mir.Syntax.{named}

module _ (T U : RattleType) (size : Ghosts U.Denot)
    (s : MutBor (ArrayMut T.Denot U.Denot size)) where
  -- s with these items, as many as it had
  abbrev pub with_items : List T.Denot → ArrayMut T.Denot U.Denot size
  with_items ws =
      let n = length s.now.items.now in
      record s.now {
        items = record s.now.items { now = refill n s.now.items.now ws };
        sized = sym (length_refill n s.now.items.now ws refl) ∙ s.now.sized;
      }

  -- s ends with the items that the reference of this name leaves
  abbrev pub LendsView : GName → Fml
  LendsView name = follows (view.the_row (record { mir = named 1; lft = [] }) T U size)
      (Array T 0) s.ghost_name name with_items
