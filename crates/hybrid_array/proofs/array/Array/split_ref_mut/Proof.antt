-- The views are made of what `halves_mut` lends of the array's slice, and the array follows both.
use Rattle.hybrid_array.proofs.Steps.{◌≡◌, ap, Array, flft, vptr, use2, through, mut_vals, mut_Tells, mut_ref_to, Goes-spent_ref, ◌+◌, NamedLft, List, [], ◌∷◌, ◌++◌, length, take, drop, refl, sym, ◌∙◌, MutBor, proved, leaves, GName, ftrue, id⊢, emp, ◌⊑◌, fact, fact_i, tables, no, Is, shows, param, bounded, param_laws, of_field, row_shared, mut_slice_shared, RattleType, plain, MutSlice, nothing, heard, peeks, mut_slice_field, mut_slice_laws, Tuple, tuple_laws, calls_at, Lasts, lasts, triple_of, framed, Stays, stay_dropped, walk_of, inst_fn, a_type, dcons, dnil, named, alloc_all, pass_all, free_all, look_at, get, sets, lands_as, ‵, raw, ◌⊛◌, some, later, ◌$◌, ◌∵◌, !, qed, by, move, keep, use0, use1, split, split3, join, fjoin, pick, await, rewrite, let_go, stop, addr, and_then, no_more, returns, enter}
use contract.Lifetimes.{Lfts, Shares}
use denote.RattleType.{owns}
use denote.Signature.{types_at}
use Rattle.std.specs.List.{refill}
use Rattle.hybrid_array.proofs.LendLemmas.{then_both}
use Rattle.hybrid_array.specs.Lending.{LendsItems, LendsHalves, LendsParts}
use Rattle.hybrid_array.specs.contracts.array.Array as array
use Rattle.hybrid_array.specs.contracts.array.Array.split_ref_mut as f
use Rattle.hybrid_array.specs.contracts.array.Array.split_ref_mut.Key.{name as #self}
use Rattle.hybrid_array.proofs.array.Array.split_ref_mut.Statement.{statement}
use Rattle.hybrid_array.proofs.array.Array.split_ref_mut.Code as code
use Rattle.hybrid_array.specs.contracts.array.Array.as_mut_slice as slice
use Rattle.hybrid_array.proofs.array.Array.as_mut_slice.Met as slice-met
use Rattle.hybrid_array.specs.contracts.lending.halves_mut as halves
use Rattle.hybrid_array.proofs.lending.halves_mut.Met as halves-met
use Rattle.hybrid_array.specs.contracts.view_mut.views_of_parts as views
use Rattle.hybrid_array.proofs.view_mut.views_of_parts.Met as views-met
use Rattle.hybrid_array.specs.contracts.view_mut.ArrayMut as view
use Rattle.hybrid_array.proofs.view_mut.ArrayMut.TheLaws.{the_row_laws as view-laws-of}

pub split_ref_mut_spec : {M : Type 1} → statement M
split_ref_mut_spec 𝓤 𝓛 𝓜 𝓡 wired T U N O LT LU LN LO gU dU gN dN gO dO metU metN metO =
    let H = 𝓛.H in
    let 𝓣 = tables 𝓤 H 𝓜 𝓡 𝓡.env in
    let R : RattleType = param 0 T in
    let Self : RattleType = array.the_row R (param 1 U) gU in
    let En = f.ended T U N O gU dU gN dN gO dO in
    let c = f.clauses T U N O gU dU gN dN gO dO 𝓛 𝓜.mem 𝓡.returns in
    let inst = bounded (a_type ∷ a_type ∷ a_type ∷ a_type ∷ []) (T, (U, (N, (O, tt)))) (dcons dU (dcons dN (dcons dO dnil))) in
    let fn = inst_fn inst code.function in
    let self = plain {n = 5} (λ _. Self) in
    let stays : Stays En.signature.params En.kept = (stay_dropped (mut_ref_to (0 ∷ []) tt self) no, tt) in
    proved 𝓛 En stays c 𝓜 𝓡 (Goes-spent_ref 𝓛 5 (0 ∷ []) tt self, tt) (#self inst) fn
    (code.unfolded 𝓤 H 𝓜 𝓡 wired (T, (U, (N, (O, tt)))) dU dN dO)
    (λ κs. (mut_vals, tt)) (λ κs. (mut_Tells (named 0) κs.0 Self, tt)) (λ κs qs bounds a gh are.
    let γ : GName = a.0.ghost_name in
    let xs : List T.Denot = a.0.now in
    let vs = mut_vals a.0 in
    let y : (walk_of 𝓛 En stays c).Ghost = ((κs, qs, bounds, a, (vs, tt)), gh) in
    let Post = (walk_of 𝓛 En stays c).post y in
    let lft : NamedLft = record { mir = named 0; lft = κs.0 } in
    let Half : RattleType = MutSlice (named 0) κs.0 R in
    let shared = mut_slice_shared lft R tt (row_shared R (param_laws 0 T LT)) in
    let half-laws = of_field (mut_slice_field lft R tt) (mut_slice_laws lft R tt) refl shared in
    let Parts : RattleType = Tuple (Half ∷ Half ∷ []) in
    let parts-laws = tuple_laws (Half ∷ Half ∷ []) (half-laws, (half-laws, tt)) in
    let First : RattleType = view.the_row lft R (param 2 N) gN in
    let first-laws = view-laws-of lft R (param 2 N) gN (param_laws 0 T LT) (param_laws 2 N LN) in
    let Rest : RattleType = view.the_row lft R (param 3 O) gO in
    let rest-laws = view-laws-of lft R (param 3 O) gO (param_laws 0 T LT) (param_laws 3 O LO) in
    let Views : RattleType = Tuple (First ∷ Rest ∷ []) in
    let views-laws = tuple_laws (First ∷ Rest ∷ []) (first-laws, (rest-laws, tt)) in
    let Outlives-T : Type 0 = κs.1.0 ⊑ T.lives in
    let Outlives-U : Type 0 = κs.1.1.0 ⊑ U.lives in
    let Outlives-N : Type 0 = κs.1.1.1.0 ⊑ N.lives in
    let Outlives-O : Type 0 = κs.1.1.1.1.0 ⊑ O.lives in
    let l0 = flft κs.0 qs.0 in
    let lT = flft κs.1.0 qs.1.0 in
    let lU = flft κs.1.1.0 qs.1.1.0 in
    let lN = flft κs.1.1.1.0 qs.1.1.1.0 in
    let lO = flft κs.1.1.1.1.0 qs.1.1.1.1.0 in
    let κs₁ : Lfts 3 = (κs.0, (κs.1.0, (κs.1.1.0, tt))) in
    let G₁ = triple_of 𝓛 (slice.signature T U gU dU) (slice.spec T U gU dU 𝓛 𝓜.mem 𝓡.returns) in
    let y₁ : G₁.Ghost = ((κs₁, (qs.0, (qs.1.0, (qs.1.1.0, tt))), (bounds.0, (bounds.1.0, tt)), a, (vs, tt)), tt) in
    let met₁ = slice-met.met 𝓤 𝓛 𝓜 𝓡 (code.calls-hybrid_array::array::Array::as_mut_slice 𝓡.env wired) T U LT LU gU dU metU in
    let κs₂ : Lfts 4 = (κs.0, (κs.1.0, (κs.1.1.1.0, (κs.1.1.1.1.0, tt)))) in
    let qs₂ : Shares 4 = (qs.0, (qs.1.0, (qs.1.1.1.0, (qs.1.1.1.1.0, tt)))) in
    let G₂ = triple_of 𝓛 (halves.signature T N O) (halves.spec T N O gN dN gO dO 𝓛 𝓜.mem 𝓡.returns) in
    let met₂ = halves-met.met 𝓤 𝓛 𝓜 𝓡 (code.calls-hybrid_array::lending::halves_mut 𝓡.env wired) T N O LT LN LO gN dN gO dO metN metO in
    let G₃ = triple_of 𝓛 (views.signature T N O gN dN gO dO) (views.spec T N O gN dN gO dO 𝓛 𝓜.mem 𝓡.returns) in
    let met₃ = views-met.met 𝓤 𝓛 𝓜 𝓡 (code.calls-hybrid_array::view_mut::views_of_parts 𝓡.env wired) T N O LT LN LO gN dN gO dO metN metO in
    let Sum : Type 0 = gN.USIZE + gO.USIZE ≡ gU.USIZE in
    qed 𝓛 (((‵ (flft κs.0 qs.0) ⊛ ‵ (flft κs.1.0 qs.1.0) ⊛ ‵ (flft κs.1.1.0 qs.1.1.0) ⊛ ‵ (flft κs.1.1.1.0 qs.1.1.1.0) ⊛ ‵ (flft κs.1.1.1.1.0 qs.1.1.1.1.0) ⊛ ‵ ftrue) ⊛
    ‵ (owns (types_at En.signature.params κs) a (vs, tt))) ∷
    (raw (fact 𝓤 Outlives-T) ⊛ raw (fact 𝓤 Outlives-U) ⊛ raw (fact 𝓤 Outlives-N) ⊛ raw (fact 𝓤 Outlives-O) ⊛ raw (fact 𝓤 Sum)) ∷ []) ∵
    move ! (1 ∷ []) $ split3 ! $ heard ! Outlives-T (λ lt. heard ! Outlives-U (λ lu. split3 ! $ heard ! Outlives-N (λ ln. heard ! Outlives-O (λ lo. heard ! Sum (λ sum.
    split ! $ split3 ! $ move ! (2 ∷ []) $ split3 ! $ move ! (2 ∷ []) $ split ! $
    -- [lft O; true; lft U; lft N; lft 0; lft T; owns]
    enter ! 𝓣.C 𝓣.Λ fn (vptr a.0.ref_ptr.0 a.0.ref_ptr.1 ∷ []) Post $
    alloc_all ! (λ l. pass_all ! refl ((tt, tt), tt) $
    sets ! (addr ! (through ! refl (stop !))) refl (tt, tt) $
    -- the slice is lent
    move ! (2 ∷ 1 ∷ []) $ join ! $ move ! (4 ∷ 0 ∷ []) $ join ! $ move ! (3 ∷ 0 ∷ []) $ join ! $
    move ! (0 ∷ 3 ∷ []) $ join ! $ nothing ! $
    use0 𝓛 (raw (fact 𝓤 Outlives-U)) (fact_i 𝓤 _ (emp 𝓤) lu) $ join ! $
    use0 𝓛 (raw (fact 𝓤 Outlives-T)) (fact_i 𝓤 _ (emp 𝓤) lt) $ join ! $
    move ! (1 ∷ 0 ∷ []) $ join ! $ use1 𝓛 (raw (G₁.pre y₁)) (id⊢ 𝓤 (G₁.pre y₁)) $
    calls_at ! (framed 𝓤 H 𝓜 𝓣) G₁ met₁ y₁ (and_then ! (get ! refl) (no_more !)) (λ v₁.
    use1 𝓛 (later (some (λ (r₁ : MutBor (List T.Denot)). ((‵ l0 ⊛ ‵ lT ⊛ ‵ lU ⊛ ‵ ftrue) ⊛ ‵ (Half.own_val r₁ (v₁ ∷ []))) ⊛
    some (λ (ws : Lasts (slice.ended T U gU dU) κs₁ a). ‵ (lasts (slice.ended T U gU dU) κs₁ a ws) ⊛
    ‵ (LendsItems R (param 1 U) gU a.0 r₁) ⊛ raw (fact 𝓤 (r₁.now ≡ xs)) ⊛ raw (fact 𝓤 (length r₁.now ≡ gU.USIZE))))))
    (id⊢ 𝓤 (G₁.post y₁ v₁)) $
    await ! tt $ pick ! (λ r₁. split ! $ split ! $ move ! (2 ∷ []) $ pick ! (λ ws₁. split ! $ let_go ! $ split3 ! $
    move ! (1 ∷ 2 ∷ []) $ heard ! (r₁.now ≡ xs) (λ same. heard ! (length r₁.now ≡ gU.USIZE) (λ len.
    -- [what the array follows; the tokens; the slice; two tokens]
    move ! (2 ∷ []) $ peeks ! Half (Is Half) (shows 𝓛 Half) r₁ (v₁ ∷ []) (λ is₁.
    lands_as ! refl refl ((half-laws.lawful 𝓛).typed r₁ (v₁ ∷ []) is₁).0 $
    -- its two parts are lent
    move ! (2 ∷ []) $ split3 ! $ nothing ! $ move ! (6 ∷ 0 ∷ []) $ join ! $ move ! (6 ∷ 0 ∷ []) $ join ! $
    move ! (2 ∷ 0 ∷ []) $ join ! $ move ! (1 ∷ 0 ∷ []) $ join ! $
    nothing ! $ move ! (3 ∷ 0 ∷ []) $ fjoin ! $ move ! (1 ∷ 0 ∷ []) $ join ! $
    let Fits : Type 0 = gN.USIZE + gO.USIZE ≡ length r₁.now in
    use0 𝓛 (raw (fact 𝓤 Fits)) (fact_i 𝓤 _ (emp 𝓤) (sum ∙ sym len)) $
    use0 𝓛 (raw (fact 𝓤 Outlives-O)) (fact_i 𝓤 _ (emp 𝓤) lo) $ join ! $
    use0 𝓛 (raw (fact 𝓤 Outlives-N)) (fact_i 𝓤 _ (emp 𝓤) ln) $ join ! $
    use0 𝓛 (raw (fact 𝓤 Outlives-T)) (fact_i 𝓤 _ (emp 𝓤) lt) $ join ! $
    let y₂ : G₂.Ghost = ((κs₂, qs₂, (bounds.0, tt), (r₁, tt), (v₁ ∷ [], tt)), tt) in
    move ! (1 ∷ 0 ∷ []) $ join ! $ use1 𝓛 (raw (G₂.pre y₂)) (id⊢ 𝓤 (G₂.pre y₂)) $
    calls_at ! (framed 𝓤 H 𝓜 𝓣) G₂ met₂ y₂ (and_then ! (get ! refl) (no_more !)) (λ v₂.
    let IsFirst : List T.Denot → Type 0 = λ zs. zs ≡ take gN.USIZE r₁.now in
    let IsRest : List T.Denot → Type 0 = λ zs. zs ≡ drop gN.USIZE r₁.now in
    let FitsFirst : List T.Denot → Type 0 = λ zs. length zs ≡ gN.USIZE in
    let FitsRest : List T.Denot → Type 0 = λ zs. length zs ≡ gO.USIZE in
    use1 𝓛 (later (some (λ (r₂ : MutBor (List T.Denot) × MutBor (List T.Denot)). ((‵ l0 ⊛ ‵ lT ⊛ ‵ lN ⊛ ‵ lO ⊛ ‵ ftrue) ⊛ ‵ (Parts.own_val r₂ (v₂ ∷ []))) ⊛
    some (λ (ws : Lasts (halves.ended T N O gN dN gO dO) κs₂ (r₁, tt)). ‵ (lasts (halves.ended T N O gN dN gO dO) κs₂ (r₁, tt) ws) ⊛
    ‵ (LendsParts R r₁ r₂.0.ghost_name r₂.1.ghost_name) ⊛ raw (fact 𝓤 (IsFirst r₂.0.now)) ⊛
    raw (fact 𝓤 (FitsFirst r₂.0.now)) ⊛ raw (fact 𝓤 (IsRest r₂.1.now)) ⊛ raw (fact 𝓤 (FitsRest r₂.1.now))))))
    (id⊢ 𝓤 (G₂.post y₂ v₂)) $
    await ! tt $ pick ! (λ r₂. split ! $ split ! $ move ! (2 ∷ []) $ pick ! (λ ws₂. split ! $ let_go ! $ split3 ! $
    move ! (1 ∷ []) $ heard ! (IsFirst r₂.0.now) (λ first. move ! (1 ∷ []) $ split3 ! $
    heard ! (FitsFirst r₂.0.now) (λ fits-first. heard ! (IsRest r₂.1.now) (λ rest. heard ! (FitsRest r₂.1.now) (λ fits-rest.
    -- [what the slice follows; the tokens; the parts; another token; what the array follows]
    let lent = λ (p q : GName). LendsHalves R (param 1 U) gU a.0 p q in
    let Slots = Array R 0 in
    move ! (4 ∷ 0 ∷ []) $ use2 𝓛 (‵ (lent r₂.0.ghost_name r₂.1.ghost_name))
    (then_both 𝓛 Self Slots Slots Slots (refill (length xs) xs) ◌++◌ γ r₁.ghost_name r₂.0.ghost_name r₂.1.ghost_name) $
    move ! (2 ∷ []) $ peeks ! Parts (Is Parts) (shows 𝓛 Parts) r₂ (v₂ ∷ []) (λ is₂.
    lands_as ! refl refl ((parts-laws.lawful 𝓛).typed r₂ (v₂ ∷ []) is₂).0 $
    -- the views are made of them
    nothing ! $ move ! (1 ∷ 0 ∷ []) $ fjoin ! $ move ! (2 ∷ 0 ∷ []) $ join ! $
    use0 𝓛 (raw (fact 𝓤 (FitsRest r₂.1.now))) (fact_i 𝓤 _ (emp 𝓤) fits-rest) $
    use0 𝓛 (raw (fact 𝓤 (FitsFirst r₂.0.now))) (fact_i 𝓤 _ (emp 𝓤) fits-first) $ join ! $
    use0 𝓛 (raw (fact 𝓤 Outlives-O)) (fact_i 𝓤 _ (emp 𝓤) lo) $ join ! $
    use0 𝓛 (raw (fact 𝓤 Outlives-N)) (fact_i 𝓤 _ (emp 𝓤) ln) $ join ! $
    use0 𝓛 (raw (fact 𝓤 Outlives-T)) (fact_i 𝓤 _ (emp 𝓤) lt) $ join ! $
    let y₃ : G₃.Ghost = ((κs₂, qs₂, (bounds.0, tt), (r₂, tt), (v₂ ∷ [], tt)), tt) in
    move ! (1 ∷ 0 ∷ []) $ join ! $ use1 𝓛 (raw (G₃.pre y₃)) (id⊢ 𝓤 (G₃.pre y₃)) $
    calls_at ! (framed 𝓤 H 𝓜 𝓣) G₃ met₃ y₃ (and_then ! (get ! refl) (no_more !)) (λ v₃.
    use1 𝓛 (later (some (λ (u : Views.Denot). ((‵ l0 ⊛ ‵ lT ⊛ ‵ lN ⊛ ‵ lO ⊛ ‵ ftrue) ⊛ ‵ (Views.own_val u (v₃ ∷ []))) ⊛
    some (λ (ws : Lasts (views.ended T N O gN dN gO dO) κs₂ (r₂, tt)). ‵ (lasts (views.ended T N O gN dN gO dO) κs₂ (r₂, tt) ws) ⊛
    raw (fact 𝓤 (u.0.items.ghost_name ≡ r₂.0.ghost_name)) ⊛ raw (fact 𝓤 (u.0.items.now ≡ r₂.0.now)) ⊛
    raw (fact 𝓤 (u.1.items.ghost_name ≡ r₂.1.ghost_name)) ⊛ raw (fact 𝓤 (u.1.items.now ≡ r₂.1.now))))))
    (id⊢ 𝓤 (G₃.post y₃ v₃)) $
    await ! tt $ pick ! (λ u. split ! $ split ! $ move ! (2 ∷ []) $ pick ! (λ ws₃. split ! $ let_go ! $ split3 ! $
    heard ! (u.0.items.ghost_name ≡ r₂.0.ghost_name) (λ named₀. heard ! (u.0.items.now ≡ r₂.0.now) (λ shown₀.
    split ! $ heard ! (u.1.items.ghost_name ≡ r₂.1.ghost_name) (λ named₁. heard ! (u.1.items.now ≡ r₂.1.now) (λ shown₁.
    -- [the tokens; the views; what the array follows; another token]
    move ! (1 ∷ []) $ peeks ! Views (Is Views) (shows 𝓛 Views) u (v₃ ∷ []) (λ is₃.
    lands_as ! refl refl ((views-laws.lawful 𝓛).typed u (v₃ ∷ []) is₃).0 $
    returns ! (look_at ! 0 refl) $ free_all ! refl $ move ! (2 ∷ []) $
    rewrite ! 0 (λ (p : GName). ‵ (lent p r₂.1.ghost_name)) (sym named₀) refl $
    rewrite ! 0 (λ (p : GName). ‵ (lent u.0.items.ghost_name p)) (sym named₁) refl $
    use0 𝓛 (raw (fact 𝓤 (u.1.items.now ≡ drop gN.USIZE xs))) (fact_i 𝓤 _ (emp 𝓤) (shown₁ ∙ rest ∙ ap (drop gN.USIZE) same)) $
    use0 𝓛 (raw (fact 𝓤 (u.0.items.now ≡ take gN.USIZE xs))) (fact_i 𝓤 _ (emp 𝓤) (shown₀ ∙ first ∙ ap (take gN.USIZE) same)) $ join ! $
    move ! (1 ∷ 0 ∷ []) $ join ! $
    -- [the clauses; the views; the tokens; another token]
    move ! (2 ∷ []) $ split3 ! $ move ! (5 ∷ []) $ split ! $ move ! (0 ∷ 4 ∷ []) $ join ! $
    move ! (3 ∷ 0 ∷ []) $ join ! $ move ! (2 ∷ 0 ∷ []) $ join ! $
    nothing ! $ move ! (0 ∷ 2 ∷ []) $ fjoin ! $ keep ! (1 ∷ 0 ∷ 3 ∷ 2 ∷ []) $
    by ! (leaves 𝓛 En stays c y v₃ u (tt, tt) (tt, tt)))))))))))))))))))))))))))))))
