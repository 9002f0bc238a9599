-- The items of a writable view are lent out of the view.
use mathlib.Core.List.{List, [], ◌∷◌}
use mathlib.Core.Path.{◌≡◌, refl, sym}
use Prim.Native.Nat.{ℕ, ◌+◌}
use seplogic.Ra.Ura.{Ura}
use base.Fraction.{full_share}
use base.Logic.{SProp, ent, sep, ex, all, guard, all_e, apply∗}
use base.Stored.{coded_list}
use base.Fml.{Fml, Lft, Incl, GName, Share, fsep, fobs, fbor, flft}
use lib.ListN.{length}
use mir.Syntax.{Lifetime}
use mir.Val.{Val}
use types.Logic.{Logic, sem}
use types.Kit.{‵, raw, ◌⊛◌, some, later, ◌$◌, ◌∵◌, !, qed, move, check, show, use1, use2, use3, split3, split, fsplit, fsplit3, fjoin, fjoin3, fpick, fpack, feq_i, feq_l, pick, rewrite, await, updating, now as at_once, done}
use types.SemTy.{Arr, Body}
use types.Through.{hands_through}
use denote.FollowSlice.{heres_id, slice_of}
use denote.Memory.{mem, cell_at, part_at, part_of}
use denote.Param.Laws.{Laws}
use denote.RattleType.{RattleType}
use denote.Ref.{MutBor, NamedLft, at_last}
use denote.Slice.{MutSlice, Room, room, mut_slice_vals, slice_val}
use denote.Struct.Declared.{Declared, row}
use denote.Struct.Values.{Values}
use denote.Through.{renamed}
use borrow.Struct.Apart.{apart, part_apart}
use borrow.Struct.Open.{Way, field_open}
use Rattle.std.proofs.Common.{◌∙◌, arith}
use Rattle.std.proofs.lemmas.List.{take_all, take-append-le}
use Rattle.std.specs.List.{refill}
use Rattle.hybrid_array.specs.Viewed.{with_items, LendsView}
use Rattle.hybrid_array.specs.declared.ArraySize.{Ghosts}
use Rattle.hybrid_array.specs.declared.view_mut.ArrayMut.{ArrayMut}
use Rattle.hybrid_array.specs.contracts.view_mut.ArrayMut as view
use Rattle.hybrid_array.proofs.view_mut.ArrayMut.TheLaws.{the_loose}

-- a list of the wanted length takes the place of all
refill_whole : {X : Type 0} (n : ℕ) (xs ws : List X) → length ws ≡ n → refill n xs ws ≡ ws
refill_whole n xs ws e = take-append-le n ws _ (omega (arith, e)) ∙ take_all n ws (omega (arith, e))

module _ {M : Type 1} {𝓤 : Ura M} (𝓛 : Logic 𝓤) (a : NamedLft) (T U : RattleType) (LT : Laws T) (LU : Laws U) (g : Ghosts U.Denot) (x : MutBor (ArrayMut T.Denot U.Denot g)) where
  open 𝓛 use {H, A}

  abbrev N : Declared
  N = view.the_type a T U g

  abbrev View : RattleType
  View = view.the_row a T U g

  abbrev Slice : RattleType
  Slice = MutSlice a.mir a.lft T

  abbrev s : MutBor (List T.Denot)
  s = x.now.items

  abbrev n : ℕ
  n = length s.now

  abbrev b : ℕ
  b = x.ref_ptr.0

  abbrev o : ℕ
  o = x.ref_ptr.1

  abbrev v : Values N.parts
  v = (s, (x.now.size, tt))

  abbrev Cell : Fml
  Cell = cell_at full_share Slice.mir (mut_slice_vals s) b (o + 0)

  abbrev Held : GName → Fml
  Held δ = Body (Arr (mem T) n) s.ref_ptr.0 s.ref_ptr.1 δ

  -- what is left of the view while its items are out
  abbrev Rest : SProp 𝓤
  Rest = sep 𝓤 (sem 𝓛 Cell) (sep 𝓤 (sem 𝓛 (room T n)) (all 𝓤 (Way N 0 0 𝓛 full_share v b o)))

  abbrev Has : List T.Denot → SProp 𝓤
  Has ws = sep 𝓤 (A.obs s.ghost_name ((coded_list T.coded).code ws)) (sep 𝓤 (A.bor a.lft (Held s.ghost_name)) Rest)

  counts : (ws : List T.Denot) → ent 𝓤 (sem 𝓛 ((Arr (mem T) n).own_at ws s.ref_ptr.0 s.ref_ptr.1)) (guard 𝓤 (length ws ≡ n) (sem 𝓛 ((Arr (mem T) n).own_at ws s.ref_ptr.0 s.ref_ptr.1)))
  counts ws = qed 𝓛 (‵ ((Arr (mem T) n).own_at ws s.ref_ptr.0 s.ref_ptr.1) ∷ []) ∵ fsplit ! $ feq_l ! (λ e. check ! e $ feq_i ! ℕ (length ws) n e $ done !)

  items_out : ent 𝓤 (sem 𝓛 ((mem View).own_at x.now b o)) (Has s.now)
  unfolding part_of
  items_out = qed 𝓛 (‵ (part_at (row N) full_share x.now b o) ∷ []) ∵
      rewrite ! 0 (λ (X : Fml). ‵ X) (part_apart N full_share x.now v refl b o) refl $
      use1 𝓛 (‵ (part_at Slice full_share s b (o + 0)) ⊛ raw (all 𝓤 (Way N 0 0 𝓛 full_share v b o))) (field_open N 0 0 𝓛 refl (the_loose a T U g LT LU) full_share refl v b o) $ split ! $
      fpick ! (λ vs. fsplit ! $ move ! (1 ∷ []) $ fsplit3 ! $ fsplit ! $ feq_l ! (λ e.
      -- [the room; the name; the borrow; the cell; the way back]
      rewrite ! 3 (λ (us : List Val). ‵ (cell_at full_share Slice.mir us b (o + 0))) e refl $
      rewrite ! 1 (λ (zs : List T.Denot). ‵ (fobs s.ghost_name ((coded_list T.coded).code zs))) (heres_id T s.now) refl $
      move ! (1 ∷ 2 ∷ 3 ∷ 0 ∷ 4 ∷ []) $ done !))

  items_in : (ws : List T.Denot) → length ws ≡ n → ent 𝓤 (Has ws) (sem 𝓛 ((mem View).own_at (with_items T U g x ws) b o))
  unfolding part_of
  items_in ws e =
      let s' : MutBor (List T.Denot) = at_last s (refill n s.now ws) in
      let Back : SProp 𝓤 = Way N 0 0 𝓛 full_share v b o s' in
      qed 𝓛 (‵ (fobs s.ghost_name ((coded_list T.coded).code ws)) ∷ ‵ (fbor a.lft (Held s.ghost_name)) ∷ ‵ Cell ∷ ‵ (room T n) ∷ raw (all 𝓤 (Way N 0 0 𝓛 full_share v b o)) ∷ []) ∵
      rewrite ! 0 (λ (zs : List T.Denot). ‵ (fobs s.ghost_name ((coded_list T.coded).code zs))) (sym (heres_id T ws)) refl $
      rewrite ! 1 (λ (k : ℕ). ‵ (fbor a.lft (Body (Arr (mem T) k) s.ref_ptr.0 s.ref_ptr.1 s.ghost_name))) (sym e) refl $
      rewrite ! 2 (λ (k : ℕ). ‵ (cell_at full_share Slice.mir (slice_val s.ref_ptr k ∷ []) b (o + 0))) (sym e) refl $
      rewrite ! 3 (λ (k : ℕ). ‵ (room T k)) (sym e) refl $
      move ! (3 ∷ []) $ feq_i ! (List Val) (mut_slice_vals (at_last s ws)) (mut_slice_vals (at_last s ws)) refl $ fjoin ! $
      -- [what the slice says; the name; the borrow; the cell; the way back]
      fjoin3 ! $ move ! (1 ∷ 0 ∷ []) $ fjoin ! $
      fpack ! (List Val) (λ us. fsep (cell_at full_share Slice.mir us b (o + 0)) (Slice.own_val (at_last s ws) us)) (mut_slice_vals (at_last s ws)) $
      rewrite ! 0 (λ (zs : List T.Denot). ‵ (part_at Slice full_share (at_last s zs) b (o + 0))) (sym (refill_whole n s.now ws e)) refl $
      move ! (1 ∷ []) $ use1 𝓛 (raw Back) (all_e 𝓤 (Way N 0 0 𝓛 full_share v b o) s') $ move ! (1 ∷ 0 ∷ []) $
      use2 𝓛 (‵ (part_at (apart N) full_share (s', (x.now.size, tt)) b o))
      (apply∗ 𝓤 (sem 𝓛 (part_at Slice full_share s' b (o + 0))) (sem 𝓛 (part_at (apart N) full_share (s', (x.now.size, tt)) b o))) $
      rewrite ! 0 (λ (X : Fml). ‵ X) (sym (part_apart N full_share (with_items T U g x ws) (s', (x.now.size, tt)) refl b o)) refl $ done !

  -- the items, lent for κ, and the view follows them
  abbrev pub LentItems : Lifetime → Lft → Share → GName → SProp 𝓤
  LentItems ℓ κ q γ = sep 𝓤 (sem 𝓛 ((MutSlice ℓ κ T).own_val (renamed s γ) (mut_slice_vals s))) (sep 𝓤 (A.lft κ q) (sem 𝓛 (LendsView T U g x γ)))

  pub lends_items : (ℓ : Lifetime) (κ : Lft) (q : Share) → Incl κ a.lft → Room T n
      → ent 𝓤 (sep 𝓤 (A.obs x.ghost_name (View.coded.code x.now)) (sep 𝓤 (A.bor κ (Body (mem View) b o x.ghost_name)) (A.lft κ q))) (H.⇛ (ex 𝓤 (LentItems ℓ κ q)))
  lends_items ℓ κ q within rm =
      qed 𝓛 (‵ (fobs x.ghost_name (View.coded.code x.now)) ∷ ‵ (fbor κ (Body (mem View) b o x.ghost_name)) ∷ ‵ (flft κ q) ∷ []) ∵ updating ! $
      use3 𝓛 (later (some (λ (γ : GName). ‵ (fobs γ ((coded_list T.coded).code s.now)) ⊛ ‵ (fbor κ (Held γ)) ⊛ ‵ (flft κ q) ⊛ ‵ (LendsView T U g x γ))))
      (hands_through 𝓛 (mem View) (Arr (mem T) n) (with_items T U g x) κ a.lft within b o s.ref_ptr.0 s.ref_ptr.1 x.ghost_name s.ghost_name Rest (λ ws. length ws ≡ n) counts items_in q x.now s.now items_out) $
      await ! tt $ pick ! (λ γ. split3 ! $
      use2 𝓛 (‵ ((MutSlice ℓ κ T).own_val (renamed s γ) (mut_slice_vals s))) (slice_of 𝓛 T ℓ κ s.ref_ptr.0 s.ref_ptr.1 γ s.now rm) $ at_once ! $ show ! (LentItems ℓ κ q) γ $ done !)
