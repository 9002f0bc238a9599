-- The chunks and the rest are what `chunks_and_rest_mut` lends, and the slice follows both.
use Rattle.hybrid_array.proofs.Steps.{◌≡◌, NamedLft, ℕ, ◌^◌, ◌<◌, List, [], ◌∷◌, length, take, drop, refl, sym, ◌∙◌, subst, proved, leaves, GName, fsep, ftrue, id⊢, emp, ◌⊑◌, fact, fact_i, tables, no, Is, shows, param, bounded, param_laws, of_field, row_shared, mut_slice_shared, RattleType, plain, mut_slice_of, MutSlice, slice_val, mut_slice_vals, mut_slice_Tells, nothing, heard, peeks, mut_slice_field, mut_slice_laws, Tuple, tuple_laws, calls_at, Lasts, lasts, Res, alive, on_entry, triple_of, framed, Stays, stay_dropped, walk_of, Goes-spent_slice, inst_fn, a_type, dcons, dnil, named, alloc_all, pass_all, free_all, look_at, look_in_at, get, get_in, sets, lands_as, ‵, raw, ◌⊛◌, some, later, ◌$◌, ◌∵◌, !, qed, by, move, keep, use0, use1, split, split3, join, fjoin, pick, await, rewrite, let_go, agg, sub, whole, stop, fld, hop, from, addr, and_then, no_more, returns, enter}
use Rattle.hybrid_array.proofs.ChunkLemmas.{taken-whole}
use Rattle.hybrid_array.specs.Chunks.{IsWholeChunks, whole_count}
use Rattle.hybrid_array.specs.Lending.{LendsParts}
use Rattle.hybrid_array.specs.contracts.array.Array.slice_as_chunks_mut as f
use Rattle.hybrid_array.specs.contracts.array.Array.slice_as_chunks_mut.Key.{name as #self}
use Rattle.hybrid_array.proofs.array.Array.slice_as_chunks_mut.Statement.{statement}
use Rattle.hybrid_array.proofs.array.Array.slice_as_chunks_mut.Code as code
use Rattle.hybrid_array.specs.contracts.lending.chunks_and_rest_mut as lends
use Rattle.hybrid_array.proofs.lending.chunks_and_rest_mut.Met as lends-met
use Rattle.hybrid_array.specs.contracts.chunks_mut.chunks_of_parts as views
use Rattle.hybrid_array.proofs.chunks_mut.chunks_of_parts.Met as views-met
use Rattle.hybrid_array.specs.contracts.chunks_mut.ChunksMut as chunks
use Rattle.hybrid_array.proofs.chunks_mut.ChunksMut.TheLaws.{the_row_laws as chunks-laws-of}

pub slice_as_chunks_mut_spec : {M : Type 1} → statement M
slice_as_chunks_mut_spec 𝓤 𝓛 𝓜 𝓡 wired T U LT LU g d met =
    let H = 𝓛.H in
    let 𝓣 = tables 𝓤 H 𝓜 𝓡 𝓡.env in
    let R : RattleType = param 0 T in
    let En = f.ended T U g d in
    let c = f.clauses T U g d 𝓛 𝓜.mem 𝓡.returns in
    let inst = bounded (a_type ∷ a_type ∷ []) (T, (U, tt)) (dcons d dnil) in
    let fn = inst_fn inst code.function in
    let item = plain {n = 3} (λ _. R) in
    let stays : Stays En.signature.params En.kept = (stay_dropped (mut_slice_of (0 ∷ []) tt item) no, tt) in
    proved 𝓛 En stays c 𝓜 𝓡 (Goes-spent_slice 𝓛 3 (0 ∷ []) tt item, tt) (#self inst) fn
    (code.unfolded 𝓤 H 𝓜 𝓡 wired (T, (U, tt)) d)
    (λ κs. (mut_slice_vals, tt)) (λ κs. (mut_slice_Tells (named 0) κs.0 R, tt)) (λ κs qs bounds a gh are.
    let γ : GName = a.0.ghost_name in
    let xs : List T.Denot = a.0.now in
    let n : ℕ = whole_count g.USIZE (length xs) in
    let vs = mut_slice_vals a.0 in
    let y : (walk_of 𝓛 En stays c).Ghost = ((κs, qs, bounds, a, (vs, tt)), gh) in
    let Post = (walk_of 𝓛 En stays c).post y in
    let toks = alive 𝓛 En.signature κs qs in
    let lft : NamedLft = record { mir = named 0; lft = κs.0 } in
    let Half : RattleType = MutSlice (named 0) κs.0 R in
    let shared = mut_slice_shared lft R tt (row_shared R (param_laws 0 T LT)) in
    let half-laws = of_field (mut_slice_field lft R tt) (mut_slice_laws lft R tt) refl shared in
    let Parts : RattleType = Tuple (Half ∷ Half ∷ []) in
    let parts-laws = tuple_laws (Half ∷ Half ∷ []) (half-laws, (half-laws, tt)) in
    let Chunks : RattleType = chunks.the_row lft R (param 1 U) g in
    let chunks-laws = chunks-laws-of lft R (param 1 U) g (param_laws 0 T LT) (param_laws 1 U LU) in
    let Views : RattleType = Tuple (Chunks ∷ Half ∷ []) in
    let views-laws = tuple_laws (Chunks ∷ Half ∷ []) (chunks-laws, (half-laws, tt)) in
    let Outlives-T : Type 0 = κs.1.0 ⊑ T.lives in
    let Outlives-U : Type 0 = κs.1.1.0 ⊑ U.lives in
    let Some : Type 0 = 0 < g.USIZE in
    let IsTaken : List T.Denot → Type 0 = λ zs. zs ≡ take n xs in
    let IsLeft : List T.Denot → Type 0 = λ zs. zs ≡ drop n xs in
    let IsShort : List T.Denot → Type 0 = λ zs. length zs < g.USIZE in
    let lent = λ (p q : GName). LendsParts R a.0 p q in
    let G₁ = triple_of 𝓛 (lends.signature T U) (lends.spec T U g d 𝓛 𝓜.mem 𝓡.returns) in
    let y₁ : G₁.Ghost = ((κs, qs, bounds, a, (vs, tt)), tt) in
    let met₁ = lends-met.met 𝓤 𝓛 𝓜 𝓡 (code.calls-hybrid_array::lending::chunks_and_rest_mut 𝓡.env wired) T U LT LU g d met in
    let G₂ = triple_of 𝓛 (views.signature T U g d) (views.spec T U g d 𝓛 𝓜.mem 𝓡.returns) in
    let met₂ = views-met.met 𝓤 𝓛 𝓜 𝓡 (code.calls-hybrid_array::chunks_mut::chunks_of_parts 𝓡.env wired) T U LT LU g d met in
    let fits : length xs < 2 ^ 64 = are.0.0.1.0 in
    qed 𝓛 (raw (on_entry 𝓛 En.signature κs qs a (vs, tt)) ∷ (raw (fact 𝓤 Outlives-T) ⊛ raw (fact 𝓤 Outlives-U) ⊛ raw (fact 𝓤 Some)) ∷ []) ∵
    move ! (1 ∷ []) $ split3 ! $ heard ! Outlives-T (λ lt. heard ! Outlives-U (λ lu. heard ! Some (λ positive.
    enter ! 𝓣.C 𝓣.Λ fn (slice_val a.0.ref_ptr (length xs) ∷ []) Post $
    alloc_all ! (λ l. pass_all ! refl ((tt, (tt, (record { fits = fits }, tt))), tt) $
    sets ! (addr ! (from ! (fld ! refl (hop ! (look_in_at ! 1 (sub ! 0 refl (whole !))) (stop !))))) refl (tt, tt) $
    sets ! (agg ! (and_then ! (get ! refl) (and_then ! (get_in ! (fld ! refl (stop !)) (sub ! 1 refl (whole !))) (no_more !))))
    refl (tt, (tt, (record { fits = fits }, tt))) $
    -- the parts are lent
    use0 𝓛 (raw (fact 𝓤 Some)) (fact_i 𝓤 _ (emp 𝓤) positive) $
    use0 𝓛 (raw (fact 𝓤 Outlives-U)) (fact_i 𝓤 _ (emp 𝓤) lu) $ join ! $
    use0 𝓛 (raw (fact 𝓤 Outlives-T)) (fact_i 𝓤 _ (emp 𝓤) lt) $ join ! $
    move ! (1 ∷ 0 ∷ []) $ join ! $ use1 𝓛 (raw (G₁.pre y₁)) (id⊢ 𝓤 (G₁.pre y₁)) $
    calls_at ! (framed 𝓤 H 𝓜 𝓣) G₁ met₁ y₁ (and_then ! (get ! refl) (no_more !)) (λ v₁.
    use1 𝓛 (later (some (λ (r : Res (lends.signature T U) κs). (raw toks ⊛ ‵ (Parts.own_val r (v₁ ∷ []))) ⊛
    some (λ (ws : Unit {0} × Unit {0}). ‵ (fsep ftrue ftrue) ⊛ ‵ (lent r.0.ghost_name r.1.ghost_name) ⊛
    raw (fact 𝓤 (IsTaken r.0.now)) ⊛ raw (fact 𝓤 (IsLeft r.1.now)) ⊛ raw (fact 𝓤 (IsShort r.1.now))))))
    (id⊢ 𝓤 (G₁.post y₁ v₁)) $
    await ! tt $ pick ! (λ r. split ! $ split ! $ move ! (2 ∷ []) $ pick ! (λ ws. split ! $ let_go ! $ split3 ! $
    move ! (1 ∷ []) $ heard ! (IsTaken r.0.now) (λ taken. move ! (1 ∷ []) $ split ! $
    heard ! (IsLeft r.1.now) (λ left. heard ! (IsShort r.1.now) (λ short.
    -- [what the slice follows; the tokens; the parts]
    move ! (2 ∷ []) $ peeks ! Parts (Is Parts) (shows 𝓛 Parts) r (v₁ ∷ []) (λ is₁.
    lands_as ! refl refl ((parts-laws.lawful 𝓛).typed r (v₁ ∷ []) is₁).0 $
    -- the views are made of them
    nothing ! $ move ! (1 ∷ 0 ∷ []) $ fjoin ! $ move ! (2 ∷ 0 ∷ []) $ join ! $
    let Whole : List T.Denot → Type 0 = λ zs. IsWholeChunks g.USIZE (length zs) in
    let is-whole : Whole r.0.now = subst Whole (sym taken) (taken-whole g.USIZE xs positive) in
    use0 𝓛 (raw (fact 𝓤 (Whole r.0.now))) (fact_i 𝓤 _ (emp 𝓤) is-whole) $
    use0 𝓛 (raw (fact 𝓤 Outlives-U)) (fact_i 𝓤 _ (emp 𝓤) lu) $ join ! $
    use0 𝓛 (raw (fact 𝓤 Outlives-T)) (fact_i 𝓤 _ (emp 𝓤) lt) $ join ! $
    let y₂ : G₂.Ghost = ((κs, qs, bounds, (r, tt), (v₁ ∷ [], tt)), tt) in
    move ! (1 ∷ 0 ∷ []) $ join ! $ use1 𝓛 (raw (G₂.pre y₂)) (id⊢ 𝓤 (G₂.pre y₂)) $
    calls_at ! (framed 𝓤 H 𝓜 𝓣) G₂ met₂ y₂ (and_then ! (get ! refl) (no_more !)) (λ v₂.
    use1 𝓛 (later (some (λ (u : Views.Denot). (raw toks ⊛ ‵ (Views.own_val u (v₂ ∷ []))) ⊛
    some (λ (ws : Lasts (views.ended T U g d) κs (r, tt)). ‵ (lasts (views.ended T U g d) κs (r, tt) ws) ⊛
    raw (fact 𝓤 (u.0.items.ghost_name ≡ r.0.ghost_name)) ⊛ raw (fact 𝓤 (u.0.items.now ≡ r.0.now)) ⊛
    raw (fact 𝓤 (u.1.ghost_name ≡ r.1.ghost_name)) ⊛ raw (fact 𝓤 (u.1.now ≡ r.1.now))))))
    (id⊢ 𝓤 (G₂.post y₂ v₂)) $
    await ! tt $ pick ! (λ u. split ! $ split ! $ move ! (2 ∷ []) $ pick ! (λ ws. split ! $ let_go ! $ split3 ! $
    heard ! (u.0.items.ghost_name ≡ r.0.ghost_name) (λ named₀. heard ! (u.0.items.now ≡ r.0.now) (λ shown₀.
    split ! $ heard ! (u.1.ghost_name ≡ r.1.ghost_name) (λ named₁. heard ! (u.1.now ≡ r.1.now) (λ shown₁.
    -- [the tokens; the views; what the slice follows]
    move ! (1 ∷ []) $ peeks ! Views (Is Views) (shows 𝓛 Views) u (v₂ ∷ []) (λ is₂.
    lands_as ! refl refl ((views-laws.lawful 𝓛).typed u (v₂ ∷ []) is₂).0 $
    returns ! (look_at ! 0 refl) $ free_all ! refl $ move ! (2 ∷ []) $
    rewrite ! 0 (λ (p : GName). ‵ (lent p r.1.ghost_name)) (sym named₀) refl $
    rewrite ! 0 (λ (p : GName). ‵ (lent u.0.items.ghost_name p)) (sym named₁) refl $
    use0 𝓛 (raw (fact 𝓤 (IsShort u.1.now))) (fact_i 𝓤 _ (emp 𝓤) (subst IsShort (sym shown₁) short)) $
    use0 𝓛 (raw (fact 𝓤 (IsLeft u.1.now))) (fact_i 𝓤 _ (emp 𝓤) (shown₁ ∙ left)) $ join ! $
    use0 𝓛 (raw (fact 𝓤 (IsTaken u.0.items.now))) (fact_i 𝓤 _ (emp 𝓤) (shown₀ ∙ taken)) $ join ! $
    move ! (1 ∷ 0 ∷ []) $ join ! $ nothing ! $ nothing ! $ fjoin ! $ keep ! (3 ∷ 0 ∷ 2 ∷ 1 ∷ []) $
    by ! (leaves 𝓛 En stays c y v₂ u (tt, tt) (tt, tt))))))))))))))))))))))
