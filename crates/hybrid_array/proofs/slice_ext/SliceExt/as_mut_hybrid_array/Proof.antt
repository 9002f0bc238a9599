-- The view is what `slice_as_mut_array` makes.
use Rattle.hybrid_array.proofs.Steps.{◌≡◌, NamedLft, ◌^◌, ◌<◌, List, [], ◌∷◌, length, refl, proved, leaves, GName, fsep, ftrue, id⊢, emp, ◌⊑◌, fact, fact_i, tables, no, Is, shows, param, bounded, param_laws, RattleType, plain, mut_slice_of, slice_val, mut_slice_vals, mut_slice_Tells, nothing, heard, peeks, calls_at, alive, on_entry, triple_of, framed, Stays, stay_dropped, walk_of, Goes-spent_slice, inst_fn, a_type, dcons, dnil, named, alloc_all, pass_all, free_all, look_at, look_in_at, get, get_in, sets, lands_as, ‵, raw, ◌⊛◌, some, later, ◌$◌, ◌∵◌, !, qed, by, move, keep, use0, use1, split, split3, join, fjoin, pick, await, let_go, agg, sub, whole, stop, fld, hop, from, addr, and_then, no_more, returns, enter}
use Rattle.std.specs.Prelude.{IsSome, IfSome, ◌↔◌}
use Rattle.std.specs.Borrow.{name_if_some}
use Rattle.hybrid_array.specs.Lending.{LendsAllIf}
use Rattle.hybrid_array.specs.contracts.slice_ext.SliceExt.as_mut_hybrid_array as f
use Rattle.hybrid_array.specs.contracts.slice_ext.SliceExt.as_mut_hybrid_array.Key.{name as #self}
use Rattle.hybrid_array.proofs.slice_ext.SliceExt.as_mut_hybrid_array.Statement.{statement}
use Rattle.hybrid_array.proofs.slice_ext.SliceExt.as_mut_hybrid_array.Code as code
use Rattle.hybrid_array.specs.contracts.array.Array.slice_as_mut_array as lends
use Rattle.hybrid_array.proofs.array.Array.slice_as_mut_array.Met as lends-met
use Rattle.hybrid_array.specs.contracts.view_mut.ArrayMut as view
use Rattle.std.specs.contracts.option.Option as option
use Rattle.std.proofs.option.Option.TheLaws.{the_row_laws as option-laws-of}
use Rattle.hybrid_array.proofs.view_mut.ArrayMut.TheLaws.{the_row_laws as view-laws-of}

pub as_mut_hybrid_array_spec : {M : Type 1} → statement M
as_mut_hybrid_array_spec 𝓤 𝓛 𝓜 𝓡 wired T U LT LU g d met =
    let H = 𝓛.H in
    let 𝓣 = tables 𝓤 H 𝓜 𝓡 𝓡.env in
    let R : RattleType = param 0 T in
    let En = f.ended T U g d in
    let c = f.clauses T U g d 𝓛 𝓜.mem 𝓡.returns in
    let inst = bounded (a_type ∷ a_type ∷ []) (T, (U, tt)) (dcons d dnil) in
    let fn = inst_fn inst code.function in
    let item = plain {n = 3} (λ _. R) in
    let stays : Stays En.signature.params En.kept = (stay_dropped (mut_slice_of (0 ∷ []) tt item) no, tt) in
    proved 𝓛 En stays c 𝓜 𝓡 (Goes-spent_slice 𝓛 3 (0 ∷ []) tt item, tt) (#self inst) fn
    (code.unfolded 𝓤 H 𝓜 𝓡 wired (T, (U, tt)) d)
    (λ κs. (mut_slice_vals, tt)) (λ κs. (mut_slice_Tells (named 0) κs.0 R, tt)) (λ κs qs bounds a gh are.
    let γ : GName = a.0.ghost_name in
    let xs : List T.Denot = a.0.now in
    let vs = mut_slice_vals a.0 in
    let y : (walk_of 𝓛 En stays c).Ghost = ((κs, qs, bounds, a, (vs, tt)), gh) in
    let Post = (walk_of 𝓛 En stays c).post y in
    let toks = alive 𝓛 En.signature κs qs in
    let lft : NamedLft = record { mir = named 0; lft = κs.0 } in
    let View : RattleType = view.the_row lft R (param 1 U) g in
    let view-laws = view-laws-of lft R (param 1 U) g (param_laws 0 T LT) (param_laws 1 U LU) in
    let Views : RattleType = option.the_row View in
    let views-laws = option-laws-of View view-laws in
    let Outlives-T : Type 0 = κs.1.0 ⊑ T.lives in
    let Outlives-U : Type 0 = κs.1.1.0 ⊑ U.lives in
    let Fits : Type 0 = length xs ≡ g.USIZE in
    let HasName : View.Denot → Type 0 = λ w. w.items.ghost_name ≡ γ in
    let HasItems : View.Denot → Type 0 = λ w. w.items.now ≡ xs in
    let name : View.Denot → GName = λ w. w.items.ghost_name in
    let G₁ = triple_of 𝓛 (lends.signature T U g d) (lends.spec T U g d 𝓛 𝓜.mem 𝓡.returns) in
    let y₁ : G₁.Ghost = ((κs, qs, bounds, a, (vs, tt)), tt) in
    let met₁ = lends-met.met 𝓤 𝓛 𝓜 𝓡 (code.calls-hybrid_array::array::Array::slice_as_mut_array 𝓡.env wired) T U LT LU g d met in
    let fits : length xs < 2 ^ 64 = are.0.0.1.0 in
    qed 𝓛 (raw (on_entry 𝓛 En.signature κs qs a (vs, tt)) ∷ (raw (fact 𝓤 Outlives-T) ⊛ raw (fact 𝓤 Outlives-U) ⊛ ‵ ftrue) ∷ []) ∵
    move ! (1 ∷ []) $ split3 ! $ heard ! Outlives-T (λ lt. heard ! Outlives-U (λ lu. let_go ! $
    enter ! 𝓣.C 𝓣.Λ fn (slice_val a.0.ref_ptr (length xs) ∷ []) Post $
    alloc_all ! (λ l. pass_all ! refl ((tt, (tt, (record { fits = fits }, tt))), tt) $
    sets ! (addr ! (from ! (fld ! refl (hop ! (look_in_at ! 1 (sub ! 0 refl (whole !))) (stop !))))) refl (tt, tt) $
    sets ! (agg ! (and_then ! (get ! refl) (and_then ! (get_in ! (fld ! refl (stop !)) (sub ! 1 refl (whole !))) (no_more !))))
    refl (tt, (tt, (record { fits = fits }, tt))) $
    -- the view is made
    nothing ! $
    use0 𝓛 (raw (fact 𝓤 Outlives-U)) (fact_i 𝓤 _ (emp 𝓤) lu) $ join ! $
    use0 𝓛 (raw (fact 𝓤 Outlives-T)) (fact_i 𝓤 _ (emp 𝓤) lt) $ join ! $
    move ! (1 ∷ 0 ∷ []) $ join ! $ use1 𝓛 (raw (G₁.pre y₁)) (id⊢ 𝓤 (G₁.pre y₁)) $
    calls_at ! (framed 𝓤 H 𝓜 𝓣) G₁ met₁ y₁ (and_then ! (get ! refl) (no_more !)) (λ v₁.
    use1 𝓛 (later (some (λ (u : Views.Denot). (raw toks ⊛ ‵ (Views.own_val u (v₁ ∷ []))) ⊛
    some (λ (ws : Unit {0} × Unit {0}). ‵ (fsep ftrue ftrue) ⊛ ‵ (LendsAllIf R a.0 (name_if_some name u)) ⊛
    raw (fact 𝓤 (IsSome u ↔ Fits)) ⊛ raw (fact 𝓤 (IfSome u HasName)) ⊛ raw (fact 𝓤 (IfSome u HasItems))))))
    (id⊢ 𝓤 (G₁.post y₁ v₁)) $
    await ! tt $ pick ! (λ u. split ! $ split ! $ move ! (2 ∷ []) $ pick ! (λ ws. split ! $ let_go ! $ split3 ! $
    -- [what the slice follows; two facts; the tokens; the view]
    move ! (1 ∷ 2 ∷ []) $ join ! $ move ! (1 ∷ 0 ∷ []) $ join ! $
    move ! (2 ∷ []) $ peeks ! Views (Is Views) (shows 𝓛 Views) u (v₁ ∷ []) (λ is₁.
    lands_as ! refl refl ((views-laws.lawful 𝓛).typed u (v₁ ∷ []) is₁).0 $
    returns ! (look_at ! 0 refl) $ free_all ! refl $ nothing ! $ nothing ! $ fjoin ! $ keep ! (3 ∷ 0 ∷ 1 ∷ 2 ∷ []) $
    by ! (leaves 𝓛 En stays c y v₁ u (tt, tt) (tt, tt))))))))))
