-- The view is made of the chunk that is cut out, and the items are given up where there is none.
use Rattle.hybrid_array.proofs.Steps.{◌≡◌, ap, flft, NamedLft, ℕ, ◌^◌, ◌<◌, List, [], ◌∷◌, length, refl, proved, leaves, ftrue, id⊢, emp, ◌⊑◌, fact, fact_i, tables, no, alive, Is, shows, param, bounded, param_laws, RattleType, plain, mut_slice_of, slice_val, mut_slice_vals, mut_slice_Tells, nothing, heard, peeks, Goes-spent_slice, calls_at, Lasts, lasts, triple_of, framed, Stays, stay_dropped, walk_of, inst_fn, a_type, dcons, dnil, named, alloc_all, pass_all, free_all, look_at, look_in_at, get, get_in, sets, lands_as, ‵, raw, ◌⊛◌, some, later, ◌$◌, ◌∵◌, !, qed, by, move, keep, use0, use1, split, split3, join, fjoin, pick, await, let_go, agg, sub, whole, stop, fld, hop, from, addr, and_then, no_more, returns, enter}
use lib.Dec.{lit<}
use mir.Val.{Val, vnil}
use types.Match.{live}
use Rattle.std.proofs.VecSteps.Shapes.{after}
use contract.Lifetimes.{Lfts}
use denote.Builtin.{usize}
use denote.RattleType.{owns}
use denote.Signature.{types_at}
use denote.Steps.{only}
use types.Kit.{fsplit, feq_l, at_ret}
use types.Run.{of_opd, lit, first, branches, skips, exec, returns_within}
use types.ByLocal.{env}
use Rattle.hybrid_array.specs.contracts.view_mut.ArrayMut as view
use Rattle.hybrid_array.proofs.view_mut.ArrayMut.TheLaws.{the_row_laws as view-laws-of}
use denote.Builtin.{bool}
use denote.Exit.{yes}
use denote.Plain.{uint_vals, uint_Tells, uint_Makes}
use denote.Steps.{owned}
use denote.Triple.Walked.{Goes-dropped}
use mathlib.Core.Bool.{Bool, true}
use mathlib.Core.Option.{none}
use mir.Val.{vint}
use mir.Syntax.{w64}
use Rattle.std.proofs.Common.{◌/◌}
use Rattle.std.specs.Prelude.{None, IsSome, IfSome, ◌↔◌}
use Rattle.std.specs.contracts.option.Option as option
use Rattle.std.proofs.option.Option.TheLaws.{the_row_laws as option-laws-of}
use Rattle.hybrid_array.proofs.LendLemmas.{rests, none_of, middle_leads}
use Rattle.hybrid_array.proofs.ResultLemmas.{is_true, is_false, none_is}
use Rattle.hybrid_array.specs.Chunks.{chunk_at}
use Rattle.hybrid_array.specs.Lending.{LendsAllIf, LendsPart}
use Rattle.hybrid_array.specs.contracts.chunks_mut.has_chunk as has
use Rattle.hybrid_array.proofs.chunks_mut.has_chunk.Met as has-met
use Rattle.hybrid_array.specs.contracts.chunks_mut.before_and_rest_mut as cuts
use Rattle.hybrid_array.proofs.chunks_mut.before_and_rest_mut.Met as cuts-met
use Rattle.hybrid_array.specs.contracts.chunks_mut.chunk_and_after_mut as chunks
use Rattle.hybrid_array.proofs.chunks_mut.chunk_and_after_mut.Met as chunks-met
use Rattle.hybrid_array.specs.contracts.chunks_mut.chunk_view as makes
use Rattle.hybrid_array.proofs.chunks_mut.chunk_view.Met as makes-met
use denote.RattleType.{Valss, flat}
use denote.Triple.Entry.{Res}
use types.Kit.{fpick, group}
use mir.Val.{vstruct, of_list}
use Rattle.hybrid_array.proofs.Steps.{Array, GName, MutSlice, subst, Tuple, rewrite, follows_both, ◌++◌, ◌∙◌, take, drop, fsep}
use Rattle.std.proofs.Common.{◌*◌, ◌≤◌}
use Rattle.std.specs.Borrow.{name_if_some}
use Rattle.hybrid_array.specs.contracts.chunks_mut.chunk_if_any as f
use Rattle.hybrid_array.specs.contracts.chunks_mut.chunk_if_any.Key.{name as #self}
use Rattle.hybrid_array.proofs.chunks_mut.chunk_if_any.Statement.{statement}
use Rattle.hybrid_array.proofs.chunks_mut.chunk_if_any.Code as code

pub chunk_if_any_spec : {M : Type 1} → statement M
chunk_if_any_spec 𝓤 𝓛 𝓜 𝓡 wired T U LT LU g d met =
    let H = 𝓛.H in
    let 𝓣 = tables 𝓤 H 𝓜 𝓡 𝓡.env in
    let R : RattleType = param 0 T in
    let En = f.ended T U g d in
    let c = f.clauses T U g d 𝓛 𝓜.mem 𝓡.returns in
    let inst = bounded (a_type ∷ a_type ∷ []) (T, (U, tt)) (dcons d dnil) in
    let fn = inst_fn inst code.function in
    let item = plain {n = 3} (λ _. R) in
    let number = plain {n = 3} (λ _. usize) in
    let stays : Stays En.signature.params En.kept = (stay_dropped (mut_slice_of (0 ∷ []) tt item) no, (stay_dropped number yes, tt)) in
    proved 𝓛 En stays c 𝓜 𝓡 (Goes-spent_slice 𝓛 3 (0 ∷ []) tt item, (Goes-dropped 𝓛 3 number yes (λ κs x w. refl), tt)) (#self inst) fn
    (code.unfolded 𝓤 H 𝓜 𝓡 wired (T, (U, tt)) d)
    (λ κs. (mut_slice_vals, (uint_vals w64, tt))) (λ κs. (mut_slice_Tells (named 0) κs.0 R, (uint_Tells w64, tt))) (λ κs qs bounds a gh are.
    let xs : List T.Denot = a.0.now in
    let i : ℕ = a.1.0 in
    let vss : List Val × (List Val × Unit {0}) = (mut_slice_vals a.0, (vint w64 i ∷ [], tt)) in
    let y : (walk_of 𝓛 En stays c).Ghost = ((κs, qs, bounds, a, vss), gh) in
    let Post = (walk_of 𝓛 En stays c).post y in
    let lft : NamedLft = record { mir = named 0; lft = κs.0 } in
    let View : RattleType = view.the_row lft R (param 1 U) g in
    let view-laws = view-laws-of lft R (param 1 U) g (param_laws 0 T LT) (param_laws 1 U LU) in
    let Views : RattleType = option.the_row View in
    let views-laws = option-laws-of View view-laws in
    let Outlives-T : Type 0 = κs.1.0 ⊑ T.lives in
    let Outlives-U : Type 0 = κs.1.1.0 ⊑ U.lives in
    let Below : Type 0 = i < length xs / g.USIZE in
    let IsChunk : View.Denot → Type 0 = λ w. w.items.now ≡ chunk_at g.USIZE xs i in
    let l0 = flft κs.0 qs.0 in
    let lT = flft κs.1.0 qs.1.0 in
    let lU = flft κs.1.1.0 qs.1.1.0 in
    let none-val : Val = live 0 vnil in
    let toks = alive 𝓛 En.signature κs qs in
    let κs₁ : Lfts 1 = (κs.1.1.0, tt) in
    let G₁ = triple_of 𝓛 (has.signature U) (has.spec U g d 𝓛 𝓜.mem 𝓡.returns) in
    let y₁ : G₁.Ghost = ((κs₁, (qs.1.1.0, tt), tt, (length xs, (i, tt)), (vint w64 (length xs) ∷ [], (vint w64 i ∷ [], tt))), tt) in
    let met₁ = has-met.met 𝓤 𝓛 𝓜 𝓡 (code.calls-hybrid_array::chunks_mut::has_chunk 𝓡.env wired) U LU g d met in
    let Half : RattleType = MutSlice (named 0) κs.0 R in
    let Parts : RattleType = Tuple (Half ∷ Half ∷ []) in
    let at : ℕ = i * g.USIZE in
    let Joins = λ (γ γ₁ γ₂ : GName). follows_both (Array R 0) (Array R 0) (Array R 0) γ γ₁ γ₂ ◌++◌ in
    let IsBefore : List T.Denot → Type 0 = λ zs. zs ≡ take at xs in
    let IsRest : List T.Denot → Type 0 = λ zs. zs ≡ drop at xs in
    let IsEnough : List T.Denot → Type 0 = λ zs. g.USIZE ≤ length zs in
    let IsFirst : List T.Denot → List T.Denot → Type 0 = λ zs ws. ws ≡ take g.USIZE zs in
    let IsAfter : List T.Denot → List T.Denot → Type 0 = λ zs ws. ws ≡ drop g.USIZE zs in
    let IsSized : List T.Denot → Type 0 = λ zs. length zs ≡ g.USIZE in
    let Named : GName → View.Denot → Type 0 = λ γ w. w.items.ghost_name ≡ γ in
    let Shows : List T.Denot → View.Denot → Type 0 = λ zs w. w.items.now ≡ zs in
    let G₂ = triple_of 𝓛 (cuts.signature T U) (cuts.spec T U g d 𝓛 𝓜.mem 𝓡.returns) in
    let y₂ : G₂.Ghost = ((κs, qs, bounds, a, vss), tt) in
    let met₂ = cuts-met.met 𝓤 𝓛 𝓜 𝓡 (code.calls-hybrid_array::chunks_mut::before_and_rest_mut 𝓡.env wired) T U LT LU g d met in
    let G₃ = triple_of 𝓛 (chunks.signature T U) (chunks.spec T U g d 𝓛 𝓜.mem 𝓡.returns) in
    let met₃ = chunks-met.met 𝓤 𝓛 𝓜 𝓡 (code.calls-hybrid_array::chunks_mut::chunk_and_after_mut 𝓡.env wired) T U LT LU g d met in
    let G₄ = triple_of 𝓛 (makes.signature T U g d) (makes.spec T U g d 𝓛 𝓜.mem 𝓡.returns) in
    let met₄ = makes-met.met 𝓤 𝓛 𝓜 𝓡 (code.calls-hybrid_array::chunks_mut::chunk_view 𝓡.env wired) T U LT LU g d met in
    let fits : length xs < 2 ^ 64 = are.0.0.1.0 in
    let small : i < 2 ^ 64 = are.1.0.1 in
    qed 𝓛 (((‵ l0 ⊛ ‵ lT ⊛ ‵ lU ⊛ ‵ ftrue) ⊛ ‵ (owns (types_at En.signature.params κs) a vss)) ∷
    (raw (fact 𝓤 Outlives-T) ⊛ raw (fact 𝓤 Outlives-U) ⊛ ‵ ftrue) ∷ []) ∵
    move ! (1 ∷ []) $ split3 ! $ heard ! Outlives-T (λ lt. heard ! Outlives-U (λ lu. let_go ! $
    split ! $ split3 ! $ move ! (2 ∷ []) $
    -- [the token of U; those of 0 and T; the slice and the number]
    enter ! 𝓣.C 𝓣.Λ fn (slice_val a.0.ref_ptr (length xs) ∷ vint w64 i ∷ []) Post $
    alloc_all ! (λ l. pass_all ! refl ((tt, (tt, (record { fits = fits }, tt))), ((tt, record { fits = small }), tt)) $
    sets ! (of_opd ! (get_in ! (fld ! refl (stop !)) (sub ! 1 refl (whole !)))) refl (tt, record { fits = fits }) $
    nothing ! $ owned ! usize _ (uint_Makes 𝓛 w64) i _ (refl, small) $ fjoin ! $
    owned ! usize _ (uint_Makes 𝓛 w64) (length xs) _ (refl, fits) $ fjoin ! $
    move ! (1 ∷ 0 ∷ []) $ join ! $ nothing ! $
    use0 𝓛 (raw (fact 𝓤 Outlives-U)) (fact_i 𝓤 _ (emp 𝓤) lu) $ join ! $
    move ! (1 ∷ 0 ∷ []) $ join ! $ use1 𝓛 (raw (G₁.pre y₁)) (id⊢ 𝓤 (G₁.pre y₁)) $
    calls_at ! (framed 𝓤 H 𝓜 𝓣) G₁ met₁ y₁ (and_then ! (get ! refl) (and_then ! (get ! refl) (no_more !))) (λ v₁.
    use1 𝓛 (later (some (λ (r : Bool). ((‵ lU ⊛ ‵ ftrue) ⊛ ‵ (bool.own_val r (v₁ ∷ []))) ⊛
    some (λ (ws : Lasts (has.ended U g d) κs₁ (length xs, (i, tt))). ‵ (lasts (has.ended U g d) κs₁ (length xs, (i, tt)) ws) ⊛ raw (fact 𝓤 ((r ≡ true) ↔ Below)))))) (id⊢ 𝓤 (G₁.post y₁ v₁)) $
    await ! tt $ pick ! (λ r. split ! $ split ! $ move ! (1 ∷ []) $ feq_l ! (λ told.
    move ! (1 ∷ []) $ pick ! (λ ws. split ! $ let_go ! $ heard ! ((r ≡ true) ↔ Below) (λ tells.
    -- [the token of U; those of 0 and T; the slice and the number]
    lands_as ! (ap only told) refl (tt, tt) $
    first ! $ branches ! (get ! refl)
    (λ holds.
    let below : Below = tells.0 (is_true r holds) in
    sets ! (addr ! (from ! (fld ! refl (hop ! (look_in_at ! 1 (sub ! 0 refl (whole !))) (stop !))))) refl (tt, tt) $
    sets ! (agg ! (and_then ! (get ! refl) (and_then ! (get_in ! (fld ! refl (stop !)) (sub ! 1 refl (whole !))) (no_more !))))
    refl (tt, (tt, (record { fits = fits }, tt))) $
    move ! (2 ∷ 0 ∷ []) $ join ! $ move ! (1 ∷ 0 ∷ []) $ join ! $ join ! $
    use0 𝓛 (raw (fact 𝓤 Below)) (fact_i 𝓤 _ (emp 𝓤) below) $
    use0 𝓛 (raw (fact 𝓤 Outlives-U)) (fact_i 𝓤 _ (emp 𝓤) lu) $ join ! $
    use0 𝓛 (raw (fact 𝓤 Outlives-T)) (fact_i 𝓤 _ (emp 𝓤) lt) $ join ! $
    move ! (1 ∷ 0 ∷ []) $ join ! $ use1 𝓛 (raw (G₂.pre y₂)) (id⊢ 𝓤 (G₂.pre y₂)) $
    calls_at ! (framed 𝓤 H 𝓜 𝓣) G₂ met₂ y₂ (and_then ! (get ! refl) (and_then ! (get ! refl) (no_more !))) (λ v₂.
    use1 𝓛 (later (some (λ (u : Res (cuts.signature T U) κs). (raw toks ⊛ ‵ (Parts.own_val u (v₂ ∷ []))) ⊛
    some (λ (ws : Lasts (cuts.ended T U g d) κs a). ‵ (lasts (cuts.ended T U g d) κs a ws) ⊛ ‵ (Joins a.0.ghost_name u.0.ghost_name u.1.ghost_name) ⊛
    raw (fact 𝓤 (IsBefore u.0.now)) ⊛ raw (fact 𝓤 (IsRest u.1.now)) ⊛ raw (fact 𝓤 (IsEnough u.1.now)))))) (id⊢ 𝓤 (G₂.post y₂ v₂)) $
    await ! tt $ pick ! (λ u. split ! $ split ! $ move ! (2 ∷ []) $ pick ! (λ ws₂. split ! $ let_go ! $ split3 ! $
    move ! (1 ∷ []) $ heard ! (IsBefore u.0.now) (λ is-before. move ! (1 ∷ []) $ split ! $ heard ! (IsRest u.1.now) (λ is-rest. heard ! (IsEnough u.1.now) (λ enough.
    -- [what the items follow; the tokens; the parts]
    move ! (2 ∷ []) $ fpick ! (λ us. fsplit ! $ feq_l ! (λ told₂. fsplit ! $ peeks ! Half (Is Half) (shows 𝓛 Half) u.0 us.0 (λ is₀.
    move ! (1 ∷ []) $ fsplit ! $ peeks ! Half (Is Half) (shows 𝓛 Half) u.1 us.1.0 (λ is₁. move ! (1 ∷ []) $ let_go ! $
    -- [the rest; the items before; what the items follow; the tokens]
    lands_as ! (ap only (told₂ ∙ ap (λ (zs : Valss (Half ∷ Half ∷ [])). vstruct (of_list (flat (Half ∷ Half ∷ []) zs)) ∷ []) (λ j. (is₀.0.0 j, (is₁.0.0 j, tt))))) refl
    (tt, ((tt, (record { fits = is₀.0.1.0 }, tt)), ((tt, (record { fits = is₁.0.1.0 }, tt)), tt))) $
    rewrite ! 0 (λ (ws : List Val). ‵ (Half.own_val u.1 ws)) is₁.0.0 refl $
    move ! (1 ∷ []) $ use1 𝓛 (‵ (LendsAllIf R u.0 none)) (rests 𝓛 R (named 0) κs.0 u.0 us.0) $
    sets ! (addr ! (from ! (fld ! refl (fld ! refl (hop ! (look_in_at ! 3 (sub ! 0 refl (sub ! 1 refl (whole !)))) (stop !)))))) refl (tt, tt) $
    sets ! (agg ! (and_then ! (get ! refl) (and_then ! (get_in ! (fld ! refl (fld ! refl (stop !))) (sub ! 1 refl (sub ! 1 refl (whole !)))) (no_more !))))
    refl (tt, (tt, (record { fits = is₁.0.1.0 }, tt))) $
    -- [before rests; the rest; what the items follow; the tokens]
    let y₃ : G₃.Ghost = ((κs, qs, bounds, (u.1, tt), (mut_slice_vals u.1, tt)), tt) in
    nothing ! $ move ! (2 ∷ 0 ∷ []) $ fjoin ! $ move ! (3 ∷ 0 ∷ []) $ join ! $
    use0 𝓛 (raw (fact 𝓤 (IsEnough u.1.now))) (fact_i 𝓤 _ (emp 𝓤) enough) $
    use0 𝓛 (raw (fact 𝓤 Outlives-U)) (fact_i 𝓤 _ (emp 𝓤) lu) $ join ! $
    use0 𝓛 (raw (fact 𝓤 Outlives-T)) (fact_i 𝓤 _ (emp 𝓤) lt) $ join ! $
    move ! (1 ∷ 0 ∷ []) $ join ! $ use1 𝓛 (raw (G₃.pre y₃)) (id⊢ 𝓤 (G₃.pre y₃)) $
    calls_at ! (framed 𝓤 H 𝓜 𝓣) G₃ met₃ y₃ (and_then ! (get ! refl) (no_more !)) (λ v₃.
    use1 𝓛 (later (some (λ (r : Res (chunks.signature T U) κs). (raw toks ⊛ ‵ (Parts.own_val r (v₃ ∷ []))) ⊛
    some (λ (ws : Unit {0} × Unit {0}). ‵ (fsep ftrue ftrue) ⊛ ‵ (Joins u.1.ghost_name r.0.ghost_name r.1.ghost_name) ⊛
    raw (fact 𝓤 (IsFirst u.1.now r.0.now)) ⊛ raw (fact 𝓤 (IsAfter u.1.now r.1.now)) ⊛ raw (fact 𝓤 (IsSized r.0.now)))))) (id⊢ 𝓤 (G₃.post y₃ v₃)) $
    await ! tt $ pick ! (λ r. split ! $ split ! $ move ! (2 ∷ []) $ pick ! (λ ws₃. split ! $ let_go ! $ split3 ! $
    move ! (1 ∷ []) $ heard ! (IsFirst u.1.now r.0.now) (λ is-first. move ! (1 ∷ []) $ split ! $ heard ! (IsAfter u.1.now r.1.now) (λ is-after. heard ! (IsSized r.0.now) (λ sized.
    -- [what the rest follows; the tokens; the parts; before rests; what the items follow]
    move ! (2 ∷ []) $ fpick ! (λ us₃. fsplit ! $ feq_l ! (λ told₃. fsplit ! $ peeks ! Half (Is Half) (shows 𝓛 Half) r.0 us₃.0 (λ is₂.
    move ! (1 ∷ []) $ fsplit ! $ peeks ! Half (Is Half) (shows 𝓛 Half) r.1 us₃.1.0 (λ is₃. move ! (1 ∷ []) $ let_go ! $
    -- [the items after; the chunk; what the rest follows; the tokens; before rests; what the items follow]
    lands_as ! (ap only (told₃ ∙ ap (λ (zs : Valss (Half ∷ Half ∷ [])). vstruct (of_list (flat (Half ∷ Half ∷ []) zs)) ∷ []) (λ j. (is₂.0.0 j, (is₃.0.0 j, tt))))) refl
    (tt, ((tt, (record { fits = is₂.0.1.0 }, tt)), ((tt, (record { fits = is₃.0.1.0 }, tt)), tt))) $
    use1 𝓛 (‵ (LendsAllIf R r.1 none)) (rests 𝓛 R (named 0) κs.0 r.1 us₃.1.0) $
    move ! (1 ∷ []) $ rewrite ! 0 (λ (ws : List Val). ‵ (Half.own_val r.0 ws)) is₂.0.0 refl $
    sets ! (addr ! (from ! (fld ! refl (fld ! refl (hop ! (look_in_at ! 4 (sub ! 0 refl (sub ! 0 refl (whole !)))) (stop !)))))) refl (tt, tt) $
    sets ! (agg ! (and_then ! (get ! refl) (and_then ! (get_in ! (fld ! refl (fld ! refl (stop !))) (sub ! 1 refl (sub ! 0 refl (whole !)))) (no_more !))))
    refl (tt, (tt, (record { fits = is₂.0.1.0 }, tt))) $
    let y₄ : G₄.Ghost = ((κs, qs, bounds, (r.0, tt), (mut_slice_vals r.0, tt)), tt) in
    -- [the chunk; after rests; what the rest follows; the tokens; before rests; what the items follow]
    nothing ! $ move ! (1 ∷ 0 ∷ []) $ fjoin ! $ move ! (3 ∷ 0 ∷ []) $ join ! $
    use0 𝓛 (raw (fact 𝓤 (IsSized r.0.now))) (fact_i 𝓤 _ (emp 𝓤) sized) $
    use0 𝓛 (raw (fact 𝓤 Outlives-U)) (fact_i 𝓤 _ (emp 𝓤) lu) $ join ! $
    use0 𝓛 (raw (fact 𝓤 Outlives-T)) (fact_i 𝓤 _ (emp 𝓤) lt) $ join ! $
    move ! (1 ∷ 0 ∷ []) $ join ! $ use1 𝓛 (raw (G₄.pre y₄)) (id⊢ 𝓤 (G₄.pre y₄)) $
    calls_at ! (framed 𝓤 H 𝓜 𝓣) G₄ met₄ y₄ (and_then ! (get ! refl) (no_more !)) (λ v₄.
    use1 𝓛 (later (some (λ (w : Views.Denot). (raw toks ⊛ ‵ (Views.own_val w (v₄ ∷ []))) ⊛
    some (λ (ws : Unit {0} × Unit {0}). ‵ (fsep ftrue ftrue) ⊛ raw (fact 𝓤 (IsSome w)) ⊛ raw (fact 𝓤 (IfSome w (Named r.0.ghost_name))) ⊛
    raw (fact 𝓤 (IfSome w (Shows r.0.now))))))) (id⊢ 𝓤 (G₄.post y₄ v₄)) $
    await ! tt $ pick ! (λ w. split ! $ split ! $ move ! (2 ∷ []) $ pick ! (λ ws₄. split ! $ let_go ! $ split3 ! $
    heard ! (IsSome w) (λ is-some. heard ! (IfSome w (Named r.0.ghost_name)) (λ is-named. heard ! (IfSome w (Shows r.0.now)) (λ is-shown.
    let first : r.0.now ≡ chunk_at g.USIZE xs i = is-first ∙ ap (take g.USIZE) is-rest in
    let is-chunk : IfSome w IsChunk = subst (λ (zs : List T.Denot). IfSome w (Shows zs)) first is-shown in
    move ! (1 ∷ []) $ peeks ! Views (Is Views) (shows 𝓛 Views) w (v₄ ∷ []) (λ is.
    lands_as ! refl refl ((views-laws.lawful 𝓛).typed w (v₄ ∷ []) is).0 $
    returns_within ! Post refl (look_at ! 0 refl) $ free_all ! refl $
    -- [the view; the tokens; after rests; what the rest follows; before rests; what the items follow]
    move ! (5 ∷ 4 ∷ 3 ∷ 2 ∷ []) $ group ! 4 $
    use1 𝓛 (‵ (LendsPart R a.0 at g.USIZE (name_if_some (λ (z : View.Denot). z.items.ghost_name) w)))
    (middle_leads 𝓛 R a.0 u.0 u.1 r.0 r.1 at g.USIZE (λ (z : View.Denot). z.items.ghost_name) w is-before (is-after ∙ ap (drop g.USIZE) is-rest) is-some is-named) $
    use0 𝓛 (raw (fact 𝓤 (IfSome w IsChunk))) (fact_i 𝓤 _ (emp 𝓤) is-chunk) $
    use0 𝓛 (raw (fact 𝓤 (IsSome w ↔ Below))) (fact_i 𝓤 _ (emp 𝓤) ((λ _. below), (λ _. is-some))) $ join ! $
    move ! (1 ∷ 0 ∷ []) $ join ! $
    nothing ! $ nothing ! $ fjoin ! $ nothing ! $ fjoin ! $ keep ! (3 ∷ 0 ∷ 2 ∷ 1 ∷ []) $
    by ! (leaves 𝓛 En stays c y v₄ w (tt, (tt, tt)) (tt, (tt, tt)))))))))))))))))))))))))))))))
    (λ fails.
    let beyond : Below → ⊥ = λ p. is_false r fails (tells.1 p) in
    skips ! $ exec ! 𝓣.C 𝓣.Λ (env fn.locals l) (after 3 fn.body) (at_ret (env fn.locals l) Post) $
    sets ! (agg ! (and_then ! (lit ! tt) (no_more !))) refl (tt, (record { fits = lit< tt }, tt)) $
    returns ! (look_at ! 0 refl) $ free_all ! refl $
    move ! (2 ∷ 0 ∷ []) $ join ! $ move ! (1 ∷ 0 ∷ []) $ join ! $ move ! (1 ∷ []) $ fsplit ! $
    use1 𝓛 (‵ (LendsAllIf R a.0 none)) (rests 𝓛 R (named 0) κs.0 a.0 (mut_slice_vals a.0)) $
    use0 𝓛 (raw (fact 𝓤 (Unit {0}))) (fact_i 𝓤 _ (emp 𝓤) tt) $
    use0 𝓛 (raw (fact 𝓤 (IsSome {T = View.Denot} None ↔ Below))) (fact_i 𝓤 _ (emp 𝓤) (none_is View.Denot beyond)) $ join ! $
    move ! (1 ∷ 0 ∷ []) $ join ! $
    use0 𝓛 (‵ (Views.own_val None (none-val ∷ []))) (none_of 𝓛 View) $
    -- [the answer; the clauses; the number; the tokens]
    nothing ! $ nothing ! $ fjoin ! $ nothing ! $ fjoin ! $ keep ! (4 ∷ 0 ∷ 1 ∷ 2 ∷ []) $
    by ! (leaves 𝓛 En stays c y none-val None (tt, (tt, tt)) (tt, (tt, tt)))))))))))))
