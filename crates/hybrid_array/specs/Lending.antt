-- What an array or a slice ends as, where a `&mut` into it is returned.
use Rattle.std.specs.Prelude.{ℕ, List, ◌++◌, length, take, drop, slice_set}
use Rattle.std.specs.List.{refill}
use Rattle.std.specs.Borrow.{Lends, follows, follows_both, follows_if, MutBor, Fml, GName, Array}
use Rattle.std.specs.Borrow.{RattleType}
use base.Fml.{fall, fres, fwand}
use mathlib.Core.Option as maybe
use Rattle.std.specs.declared.slice.IterMut.{IterMut}
use Rattle.std.specs.Slice.Iter.{iter_mut_name}
use Rattle.hybrid_array.specs.declared.ArraySize.{Ghosts}
use Rattle.hybrid_array.specs.contracts.array.Array as array

module _ (T U : RattleType) (size : Ghosts U.Denot) (s : MutBor (List T.Denot)) where
  -- s ends with the items that r leaves
  abbrev pub LendsItems : MutBor (List T.Denot) → Fml
  LendsItems r = Lends (array.the_row T U size) (Array T 0) s r (refill (length s.now) s.now)

  -- s ends with the value that r leaves in place i
  abbrev pub LendsItem : ℕ → MutBor T.Denot → Fml
  LendsItem i r = Lends (array.the_row T U size) T s r (slice_set s.now i)

  -- s ends with the items that the reference of this name leaves
  abbrev pub LendsTo : GName → Fml
  LendsTo name = follows (array.the_row T U size) (Array T 0) s.ghost_name name
      (refill (length s.now) s.now)

  -- s ends with the items that the iterator leaves
  abbrev pub LendsIter : IterMut T.Denot → Fml
  LendsIter it = LendsTo (iter_mut_name it)

  -- s ends with the items that the references of these names leave, one after the other
  abbrev pub LendsHalves : GName → GName → Fml
  LendsHalves first rest = follows_both (array.the_row T U size) (Array T 0) (Array T 0)
      s.ghost_name first rest (λ xs ys. refill (length s.now) s.now (xs ++ ys))

-- the slice s ends with the items that the references of these names leave, one after the other
abbrev pub LendsParts : (T : RattleType) → MutBor (List T.Denot) → GName → GName → Fml
LendsParts T s first rest = follows_both (Array T 0) (Array T 0) (Array T 0)
    s.ghost_name first rest ◌++◌

-- the slice s ends with the items that the reference of this name leaves, or as it was, if there
-- is no name
abbrev pub LendsAllIf : (T : RattleType) → MutBor (List T.Denot) → maybe.Option GName → Fml
LendsAllIf T s name = follows_if (Array T 0) (Array T 0) s.ghost_name name (λ items. items) s.now

-- once the reference of the second name is given up with w behind it, that of the first ends as F w
abbrev pub leads : (R T : RattleType) → GName → GName → (T.Denot → R.Denot) → Fml
leads R T whole part F =
    fall T.Denot (λ w. fwand (fres part (T.coded.code w)) (fres whole (R.coded.code (F w))))

-- xs with ws in place of n items from place `at` on
abbrev pub with_part : {X : Type 0} → List X → ℕ → ℕ → List X → List X
with_part xs at n ws = take at xs ++ (ws ++ drop n (drop at xs))

-- the slice s ends with the items that the reference of this name leaves, in place of n items from
-- place `at` on, or as it was, if there is no name
abbrev pub LendsPart : (T : RattleType) → MutBor (List T.Denot) → ℕ → ℕ → maybe.Option GName
    → Fml
LendsPart T s at n maybe.none = LendsAllIf T s maybe.none
LendsPart T s at n (maybe.some name) =
    leads (Array T 0) (Array T 0) s.ghost_name name (with_part s.now at n)
