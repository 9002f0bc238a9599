-- The slice is the view's own, lent on, and the view follows it past the fact on its length.
use Rattle.hybrid_array.proofs.Steps.{◌≡◌, flft, NamedLft, ℕ, ◌^◌, ◌<◌, List, [], ◌∷◌, length, ◌++◌, refl, sym, ap, ◌∙◌, proved, leaves, GName, ftrue, emp, ◌⊑◌, fact, fact_i, tables, no, Is, shows, param, bounded, param_laws, RattleType, plain, MutSlice, slice_val, MutBor, mut_vals, mut_Tells, mut_slice_vals, mut_ref_to, Goes-spent_ref, through, vptr, nothing, heard, peeks, Stays, stay_dropped, walk_of, inst_fn, a_type, dcons, dnil, named, alloc_all, pass_all, free_all, look_at, get, sets, ‵, raw, ◌⊛◌, some, later, ◌$◌, ◌∵◌, !, qed, by, move, keep, use0, use1, split, split3, join, fjoin, pick, await, rewrite, let_go, agg, sub, whole, stop, fld, hop, addr, and_then, no_more, returns, enter}
use Rattle.hybrid_array.proofs.ViewLemmas.{lends_items}
use base.Fml.{fat}
use base.Fraction.{full_share}
use denote.Memory.{cell_at, lone}
use denote.RattleType.{flat, owns}
use denote.Signature.{types_at}
use denote.Steps.{opens, closes}
use denote.Through.{renamed}
use mir.Syntax.{Ty, erased}
use mir.Val.{Val, vstruct, of_list}
use types.Kit.{use3, fsplit, fsplit3, feq_l}
use types.Part.{look_in}
use types.Run.{of_opd, load}
use Rattle.hybrid_array.specs.Viewed.{LendsView}
use Rattle.hybrid_array.specs.contracts.view_mut.ArrayMut as view
use Rattle.hybrid_array.specs.contracts.view_mut.Length as size
use Rattle.hybrid_array.specs.contracts.view_mut.ArrayMut.as_mut_slice as f
use Rattle.hybrid_array.specs.contracts.view_mut.ArrayMut.as_mut_slice.Key.{name as #self}
use Rattle.hybrid_array.proofs.view_mut.ArrayMut.as_mut_slice.Statement.{statement}
use Rattle.hybrid_array.proofs.view_mut.ArrayMut.as_mut_slice.Code as code

pub as_mut_slice_spec : {M : Type 1} → statement M
as_mut_slice_spec 𝓤 𝓛 𝓜 𝓡 wired T U LT LU g d met =
    let H = 𝓛.H in
    let 𝓣 = tables 𝓤 H 𝓜 𝓡 𝓡.env in
    let R : RattleType = param 0 T in
    let P : RattleType = param 1 U in
    let LR = param_laws 0 T LT in
    let LP = param_laws 1 U LU in
    let En = f.ended T U g d in
    let c = f.clauses T U g d 𝓛 𝓜.mem 𝓡.returns in
    let inst = bounded (a_type ∷ a_type ∷ []) (T, (U, tt)) (dcons d dnil) in
    let fn = inst_fn inst code.function in
    let self = plain {n = 4} (λ κs. view.the_row (record { mir = named 1; lft = κs.1.0 }) R P g) in
    let stays : Stays En.signature.params En.kept = (stay_dropped (mut_ref_to (0 ∷ []) tt self) no, tt) in
    proved 𝓛 En stays c 𝓜 𝓡 (Goes-spent_ref 𝓛 4 (0 ∷ []) tt self, tt) (#self inst) fn
    (code.unfolded 𝓤 H 𝓜 𝓡 wired (T, (U, tt)) d)
    (λ κs. (mut_vals, tt)) (λ κs. (mut_Tells (named 0) κs.0 (self.row κs), tt)) (λ κs qs bounds a gh are.
    let x = a.0 in
    let h = x.now in
    let s : MutBor (List T.Denot) = h.items in
    let n : ℕ = length s.now in
    let b : ℕ = x.ref_ptr.0 in
    let o : ℕ = x.ref_ptr.1 in
    let vs = mut_vals x in
    let y : (walk_of 𝓛 En stays c).Ghost = ((κs, qs, bounds, a, (vs, tt)), gh) in
    let Post = (walk_of 𝓛 En stays c).post y in
    let lft : NamedLft = record { mir = named 1; lft = κs.1.0 } in
    let View : RattleType = view.the_row lft R P g in
    let Slice : RattleType = MutSlice (named 0) κs.0 R in
    let Outlives-T : Type 0 = κs.1.1.0 ⊑ T.lives in
    let Outlives-U : Type 0 = κs.1.1.1.0 ⊑ U.lives in
    let l0 = flft κs.0 qs.0 in
    let lA = flft κs.1.0 qs.1.0 in
    let lT = flft κs.1.1.0 qs.1.1.0 in
    let lU = flft κs.1.1.1.0 qs.1.1.1.0 in
    let τ : Ty = lone (view.the_row (record { mir = erased; lft = [] }) R P g).mir in
    qed 𝓛 (((‵ l0 ⊛ ‵ lA ⊛ ‵ lT ⊛ ‵ lU ⊛ ‵ ftrue) ⊛ ‵ (owns (types_at En.signature.params κs) a (vs, tt))) ∷
    (raw (fact 𝓤 Outlives-T) ⊛ raw (fact 𝓤 Outlives-U) ⊛ ‵ ftrue) ∷ []) ∵
    move ! (1 ∷ []) $ split3 ! $ heard ! Outlives-T (λ lt. heard ! Outlives-U (λ lu. let_go ! $
    split ! $ move ! (1 ∷ []) $ fsplit ! $ move ! (1 ∷ []) $ let_go ! $
    -- [the view's reference; the tokens]
    enter ! 𝓣.C 𝓣.Λ fn (vptr b o ∷ []) Post $
    alloc_all ! (λ l. pass_all ! refl ((tt, tt), tt) $
    move ! (1 ∷ []) $ split ! $ move ! (2 ∷ []) $ fsplit3 ! $ feq_l ! (λ _.
    -- [its name; its borrow; a token; the other tokens]
    opens ! tt View {h = h} b o (λ us. move ! (1 ∷ []) $ peeks ! View (Is View) (shows 𝓛 View) h us (λ is.
    let fits : n < 2 ^ 64 = is.1.1.0.0.1.0 in
    let other = flat ((size.the_field P g).row ∷ []) is.0.1 in
    let v : Val = vstruct (of_list (mut_slice_vals s ++ other)) in
    let word : us ≡ v ∷ [] = is.1.0 ∙ ap (λ (ws : List Val). vstruct (of_list (ws ++ other)) ∷ []) is.1.1.0.0.0 in
    let Cell = λ (ws : List Val). ‵ (cell_at full_share View.mir ws b o) in
    -- [what the view owns; its cell; the open borrow, in three entries; the other tokens]
    rewrite ! 1 Cell word refl $ move ! (1 ∷ []) $ use1 𝓛 (‵ (fat full_share τ b o v)) (𝓛.laws.raw_at full_share τ b o v) $
    sets ! (of_opd ! (load ! (through ! refl (fld ! refl (fld ! refl (stop !)))) (look_in ! 0 (sub ! 1 refl (sub ! 0 refl (whole !)))))) refl (tt, record { fits = fits }) $
    sets ! (addr ! (through ! refl (fld ! refl (fld ! refl (hop ! (look_in ! 0 (sub ! 0 refl (sub ! 0 refl (whole !)))) (stop !)))))) refl (tt, tt) $
    use1 𝓛 (Cell (v ∷ [])) (𝓛.laws.at_raw full_share τ b o v) $ rewrite ! 0 Cell (sym word) refl $
    closes ! tt View h us b o $
    use3 𝓛 (later (some (λ (γ : GName). ‵ (Slice.own_val (renamed s γ) (mut_slice_vals s)) ⊛ ‵ l0 ⊛ ‵ (LendsView R P g x γ))))
    (lends_items 𝓛 lft R P LR LP g x (named 0) κs.0 qs.0 bounds.0 is.1.1.0.0.1) $ await ! tt $ pick ! (λ γ. split3 ! $
    -- [the slice; a token; what the view follows; the other tokens]
    sets ! (agg ! (and_then ! (get ! refl) (and_then ! (get ! refl) (no_more !)))) refl (tt, (tt, (record { fits = fits }, tt))) $
    returns ! (look_at ! 0 refl) $ free_all ! refl $
    move ! (1 ∷ 3 ∷ []) $ join ! $
    use0 𝓛 (raw (fact 𝓤 (n ≡ g.USIZE))) (fact_i 𝓤 _ (emp 𝓤) h.sized) $
    use0 𝓛 (raw (fact 𝓤 (s.now ≡ s.now))) (fact_i 𝓤 _ (emp 𝓤) refl) $ join ! $
    -- [the facts; the tokens; the slice; what the view follows]
    move ! (3 ∷ 0 ∷ []) $ join ! $ nothing ! $ nothing ! $ fjoin ! $ keep ! (2 ∷ 0 ∷ 3 ∷ 1 ∷ []) $
    by ! (leaves 𝓛 En stays c y (slice_val s.ref_ptr n) (renamed s γ) (tt, tt) (tt, tt))))))))))
