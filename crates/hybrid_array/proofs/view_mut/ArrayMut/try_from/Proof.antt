-- The view has the slice's own reference, and a slice of another length is given up as it was.
use Rattle.hybrid_array.proofs.Steps.{◌≡◌, ap, flft, NamedLft, ℕ, ◌^◌, ◌<◌, List, [], ◌∷◌, length, refl, sym, ◌∙◌, proved, leaves, GName, ftrue, id⊢, emp, ◌⊑◌, fact, fact_i, tables, no, alive, Is, shows, param, bounded, param_laws, RattleType, plain, mut_slice_of, MutSlice, slice_val, mut_slice_vals, mut_slice_Tells, nothing, heard, peeks, Goes-spent_slice, calls_at, Lasts, lasts, triple_of, framed, Stays, stay_dropped, walk_of, inst_fn, a_type, dcons, dnil, named, alloc_all, pass_all, free_all, look_at, look_in_at, get, get_in, sets, lands_as, ‵, raw, ◌⊛◌, some, later, ◌$◌, ◌∵◌, !, qed, by, move, keep, use0, use1, split, split3, join, fjoin, pick, await, rewrite, let_go, agg, sub, whole, stop, fld, hop, from, addr, and_then, no_more, returns, enter}
use lib.Dec.{lit<}
use mathlib.Core.Option.{none, some as a-name}
use mir.Val.{Val, vstruct, vnil, of_list}
use types.Match.{live}
use denote.Struct.Struct.{within}
use denote.Struct.Declared.{shape as declared_shape}
use denote.RattleType.{Valss}
use types.Kit.{feq_i, fpack}
use Rattle.std.specs.Prelude.{Err, Ok, IsOk, ◌↔◌}
use Rattle.std.specs.contracts.result.Result as result
use Rattle.hybrid_array.specs.contracts.TryFromSliceError as error
use Rattle.std.proofs.VecSteps.Shapes.{after}
use Rattle.hybrid_array.proofs.ResultLemmas.{and_tt, is_not, is_so, is_err, is_ok}
use denote.Builtin.{usize}
use denote.RattleType.{owns}
use denote.Signature.{types_at}
use denote.Steps.{only}
use types.Kit.{fsplit, feq_l, flt_l, at_ret}
use types.Run.{of_opd, bin, lit, first, branches, skips, exec, returns_within}
use types.ByLocal.{env}
use Rattle.hybrid_array.proofs.LendLemmas.{rests, passed_on, ok_of, err_of}
use Rattle.hybrid_array.specs.Lending.{LendsAllIf}
use Rattle.hybrid_array.specs.contracts.ArraySize.USIZE as size
use Rattle.hybrid_array.specs.contracts.view_mut.ArrayMut as view
use Rattle.hybrid_array.proofs.view_mut.ArrayMut.TheLaws.{the_row_laws as view-laws-of}
use Rattle.hybrid_array.specs.contracts.view_mut.ArrayMut.of as of
use Rattle.hybrid_array.proofs.view_mut.ArrayMut.of.Met as of-met
use Rattle.hybrid_array.specs.contracts.view_mut.ArrayMut.try_from as f
use Rattle.hybrid_array.specs.contracts.view_mut.ArrayMut.try_from.Key.{name as #self}
use Rattle.hybrid_array.proofs.view_mut.ArrayMut.try_from.Statement.{statement}
use Rattle.hybrid_array.proofs.view_mut.ArrayMut.try_from.Code as code

pub try_from_spec : {M : Type 1} → statement M
try_from_spec 𝓤 𝓛 𝓜 𝓡 wired T U LT LU g d met =
    let H = 𝓛.H in
    let 𝓣 = tables 𝓤 H 𝓜 𝓡 𝓡.env in
    let R : RattleType = param 0 T in
    let En = f.ended T U g d in
    let c = f.clauses T U g d 𝓛 𝓜.mem 𝓡.returns in
    let inst = bounded (a_type ∷ a_type ∷ []) (T, (U, tt)) (dcons d dnil) in
    let fn = inst_fn inst code.function in
    let item = plain {n = 3} (λ _. R) in
    let stays : Stays En.signature.params En.kept = (stay_dropped (mut_slice_of (0 ∷ []) tt item) no, tt) in
    proved 𝓛 En stays c 𝓜 𝓡 (Goes-spent_slice 𝓛 3 (0 ∷ []) tt item, tt) (#self inst) fn
    (code.unfolded 𝓤 H 𝓜 𝓡 wired (T, (U, tt)) d)
    (λ κs. (mut_slice_vals, tt)) (λ κs. (mut_slice_Tells (named 0) κs.0 R, tt)) (λ κs qs bounds a gh are.
    let γ : GName = a.0.ghost_name in
    let xs : List T.Denot = a.0.now in
    let vs = mut_slice_vals a.0 in
    let y : (walk_of 𝓛 En stays c).Ghost = ((κs, qs, bounds, a, (vs, tt)), gh) in
    let Post = (walk_of 𝓛 En stays c).post y in
    let lft : NamedLft = record { mir = named 0; lft = κs.0 } in
    let Slice : RattleType = MutSlice (named 0) κs.0 R in
    let View : RattleType = view.the_row lft R (param 1 U) g in
    let view-laws = view-laws-of lft R (param 1 U) g (param_laws 0 T LT) (param_laws 1 U LU) in
    let Outlives-T : Type 0 = κs.1.0 ⊑ T.lives in
    let Outlives-U : Type 0 = κs.1.1.0 ⊑ U.lives in
    let l0 = flft κs.0 qs.0 in
    let lT = flft κs.1.0 qs.1.0 in
    let lU = flft κs.1.1.0 qs.1.1.0 in
    let toks = alive 𝓛 En.signature κs qs in
    let Out : RattleType = result.the_row View error.the_row in
    let refused : Out.Denot = Err (record {}) in
    let none-val : Val = vstruct vnil in
    let refused-val : Val = live 1 (of_list (none-val ∷ [])) in
    let G₁ = triple_of 𝓛 (size.signature U) (size.spec U g d 𝓛 𝓜.mem 𝓡.returns) in
    let y₁ : G₁.Ghost = (((κs.1.1.0, tt), (qs.1.1.0, tt), tt, tt, tt), tt) in
    let G₂ = triple_of 𝓛 (of.signature T U g d) (of.spec T U g d 𝓛 𝓜.mem 𝓡.returns) in
    let y₂ : G₂.Ghost = ((κs, qs, bounds, a, (vs, tt)), tt) in
    let met₂ = of-met.met 𝓤 𝓛 𝓜 𝓡 (code.calls-hybrid_array::view_mut::ArrayMut::of 𝓡.env wired) T U LT LU g d met in
    let fits : length xs < 2 ^ 64 = are.0.0.1.0 in
    qed 𝓛 (((‵ l0 ⊛ ‵ lT ⊛ ‵ lU ⊛ ‵ ftrue) ⊛ ‵ (owns (types_at En.signature.params κs) a (vs, tt))) ∷
    (raw (fact 𝓤 Outlives-T) ⊛ raw (fact 𝓤 Outlives-U) ⊛ ‵ ftrue) ∷ []) ∵
    move ! (1 ∷ []) $ split3 ! $ heard ! Outlives-T (λ lt. heard ! Outlives-U (λ lu. let_go ! $
    split ! $ split3 ! $ move ! (2 ∷ []) $
    -- [the token of U; those of 0 and T; the slice]
    enter ! 𝓣.C 𝓣.Λ fn (slice_val a.0.ref_ptr (length xs) ∷ []) Post $
    alloc_all ! (λ l. pass_all ! refl ((tt, (tt, (record { fits = fits }, tt))), tt) $
    sets ! (of_opd ! (get_in ! (fld ! refl (stop !)) (sub ! 1 refl (whole !)))) refl (tt, record { fits = fits }) $
    nothing ! $ move ! (1 ∷ 0 ∷ []) $ join ! $ nothing ! $
    use0 𝓛 (raw (fact 𝓤 Outlives-U)) (fact_i 𝓤 _ (emp 𝓤) lu) $ join ! $
    move ! (1 ∷ 0 ∷ []) $ join ! $ use1 𝓛 (raw (G₁.pre y₁)) (id⊢ 𝓤 (G₁.pre y₁)) $
    calls_at ! (framed 𝓤 H 𝓜 𝓣) G₁ met.USIZE y₁ (no_more !) (λ v₁.
    use1 𝓛 (later (some (λ (n : ℕ). ((‵ lU ⊛ ‵ ftrue) ⊛ ‵ (usize.own_val n (v₁ ∷ []))) ⊛
    some (λ (ws : Unit {0}). ‵ ftrue ⊛ raw (fact 𝓤 (n ≡ g.USIZE)))))) (id⊢ 𝓤 (G₁.post y₁ v₁)) $
    await ! tt $ pick ! (λ n. split ! $ split ! $ move ! (1 ∷ []) $ fsplit ! $ feq_l ! (λ told. flt_l ! (λ small.
    move ! (1 ∷ []) $ pick ! (λ ws. split ! $ let_go ! $ heard ! (n ≡ g.USIZE) (λ is-size.
    -- [the token of U; those of 0 and T; the slice]
    lands_as ! (ap only told) refl (tt, record { fits = small }) $
    sets ! (bin ! (get ! refl) (get ! refl) tt) refl (tt, tt) $
    first ! $ branches ! (get ! refl)
    (λ differs.
    sets ! (agg ! (no_more !)) refl (tt, tt) $
    sets ! (agg ! (and_then ! (lit ! tt) (and_then ! (get ! refl) (no_more !)))) refl (tt, (record { fits = lit< tt }, (tt, tt))) $
    returns_within ! Post refl (look_at ! 0 refl) $ free_all ! refl $
    move ! (2 ∷ 0 ∷ []) $ join ! $ move ! (1 ∷ 0 ∷ []) $ join ! $ move ! (1 ∷ []) $ fsplit ! $
    use1 𝓛 (‵ (LendsAllIf R a.0 none)) (rests 𝓛 R (named 0) κs.0 a.0 vs) $
    let other : length xs ≡ g.USIZE → ⊥ = λ e. is_not (length xs) n differs (e ∙ sym is-size) in
    use0 𝓛 (raw (fact 𝓤 (Unit {0}))) (fact_i 𝓤 _ (emp 𝓤) tt) $ use0 𝓛 (raw (fact 𝓤 (Unit {0}))) (fact_i 𝓤 _ (emp 𝓤) tt) $ join ! $
    use0 𝓛 (raw (fact 𝓤 (IsOk refused ↔ (length xs ≡ g.USIZE)))) (fact_i 𝓤 _ (emp 𝓤) (is_err View.Denot (error.the_row).Denot (record {}) other)) $ join ! $
    move ! (1 ∷ 0 ∷ []) $ join ! $
    nothing ! $ feq_i ! (List Val) (none-val ∷ []) (none-val ∷ []) refl $ fjoin ! $
    fpack ! (Valss []) (within (declared_shape error.the_type) tt (none-val ∷ [])) tt $
    use1 𝓛 (‵ (Out.own_val refused (refused-val ∷ []))) (err_of 𝓛 View error.the_row (record {}) none-val) $
    -- [the result; the clauses; nothing; the tokens]
    nothing ! $ move ! (0 ∷ 3 ∷ []) $ fjoin ! $ keep ! (3 ∷ 0 ∷ 1 ∷ 2 ∷ []) $
    by ! (leaves 𝓛 En stays c y refused-val refused (tt, tt) (tt, tt)))
    (λ equals.
    let same : length xs ≡ g.USIZE = is_so (length xs) n equals ∙ is-size in
    skips ! $ exec ! 𝓣.C 𝓣.Λ (env fn.locals l) (after 4 fn.body) (at_ret (env fn.locals l) Post) $
    sets ! (addr ! (from ! (fld ! refl (hop ! (look_in_at ! 1 (sub ! 0 refl (whole !))) (stop !))))) refl (tt, tt) $
    sets ! (agg ! (and_then ! (get ! refl) (and_then ! (get_in ! (fld ! refl (stop !)) (sub ! 1 refl (whole !))) (no_more !))))
    refl (tt, (tt, (record { fits = fits }, tt))) $
    move ! (2 ∷ 0 ∷ []) $ join ! $ move ! (1 ∷ 0 ∷ []) $ join ! $ join ! $
    use0 𝓛 (raw (fact 𝓤 (length xs ≡ g.USIZE))) (fact_i 𝓤 _ (emp 𝓤) same) $
    use0 𝓛 (raw (fact 𝓤 Outlives-U)) (fact_i 𝓤 _ (emp 𝓤) lu) $ join ! $
    use0 𝓛 (raw (fact 𝓤 Outlives-T)) (fact_i 𝓤 _ (emp 𝓤) lt) $ join ! $
    move ! (1 ∷ 0 ∷ []) $ join ! $ use1 𝓛 (raw (G₂.pre y₂)) (id⊢ 𝓤 (G₂.pre y₂)) $
    calls_at ! (framed 𝓤 H 𝓜 𝓣) G₂ met₂ y₂ (and_then ! (get ! refl) (no_more !)) (λ v₂.
    use1 𝓛 (later (some (λ (w : View.Denot). (raw toks ⊛ ‵ (View.own_val w (v₂ ∷ []))) ⊛
    some (λ (ws : Lasts (of.ended T U g d) κs a). ‵ (lasts (of.ended T U g d) κs a ws) ⊛
    raw (fact 𝓤 (w.items.ghost_name ≡ γ)) ⊛ raw (fact 𝓤 (w.items.now ≡ xs)))))) (id⊢ 𝓤 (G₂.post y₂ v₂)) $
    await ! tt $ pick ! (λ w. split ! $ split ! $ move ! (2 ∷ []) $ pick ! (λ ws₂. split ! $ let_go ! $ split ! $
    heard ! (w.items.ghost_name ≡ γ) (λ same-name. heard ! (w.items.now ≡ xs) (λ shown.
    move ! (1 ∷ []) $ peeks ! View (Is View) (shows 𝓛 View) w (v₂ ∷ []) (λ is.
    let typed = ((view-laws.lawful 𝓛).typed w (v₂ ∷ []) is).0 in
    lands_as ! refl refl typed $
    sets ! (agg ! (and_then ! (lit ! tt) (and_then ! (get ! refl) (no_more !)))) refl (and_tt _ typed.0, (record { fits = lit< tt }, (typed.1, tt))) $
    returns ! (look_at ! 0 refl) $ free_all ! refl $
    let out-val : Val = live 0 (of_list (v₂ ∷ [])) in
    use1 𝓛 (‵ (Out.own_val (Ok w) (out-val ∷ []))) (ok_of 𝓛 View error.the_row w v₂) $
    -- [the result; the tokens]
    use0 𝓛 (‵ (LendsAllIf R a.0 (a-name γ))) (passed_on 𝓛 R a.0) $
    rewrite ! 0 (λ (p : GName). ‵ (LendsAllIf R a.0 (a-name p))) (sym same-name) refl $
    use0 𝓛 (raw (fact 𝓤 (w.items.now ≡ xs))) (fact_i 𝓤 _ (emp 𝓤) shown) $
    use0 𝓛 (raw (fact 𝓤 (w.items.ghost_name ≡ γ))) (fact_i 𝓤 _ (emp 𝓤) same-name) $ join ! $
    use0 𝓛 (raw (fact 𝓤 (IsOk {T = View.Denot} {E = (error.the_row).Denot} (Ok w) ↔ (length xs ≡ g.USIZE)))) (fact_i 𝓤 _ (emp 𝓤) (is_ok View.Denot (error.the_row).Denot w same)) $ join ! $
    move ! (1 ∷ 0 ∷ []) $ join ! $ nothing ! $ nothing ! $ fjoin ! $ keep ! (3 ∷ 0 ∷ 2 ∷ 1 ∷ []) $
    by ! (leaves 𝓛 En stays c y out-val (Ok w) (tt, tt) (tt, tt)))))))))))))))))))
