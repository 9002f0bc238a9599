-- The chunk is lent of all items, which the chunks follow; with none they rest, and the chunks with them.
use Rattle.hybrid_array.proofs.Steps.{Array, subst, MutBor, use2, mut_ref_to, Goes-spent_ref, mut_vals, mut_Tells, through, vptr, mut_slice_laws, mut_slice_field, mut_slice_shared, of_field, row_shared, refl, ◌≡◌, flft, NamedLft, ℕ, ◌^◌, ◌<◌, List, [], ◌∷◌, length, proved, leaves, ftrue, id⊢, emp, ◌⊑◌, fact, fact_i, tables, no, Is, shows, param, bounded, param_laws, RattleType, plain, MutSlice, nothing, heard, peeks, calls_at, Lasts, lasts, triple_of, framed, Stays, stay_dropped, walk_of, inst_fn, a_type, dcons, dnil, named, alloc_all, pass_all, free_all, look_at, get, sets, lands_as, ‵, raw, ◌⊛◌, some, later, ◌$◌, ◌∵◌, !, qed, by, move, keep, use0, use1, split, split3, join, fjoin, pick, await, rewrite, let_go, stop, addr, and_then, no_more, returns, enter}
use mir.Val.{Val}
use types.Kit.{done}
use contract.Lifetimes.{Lfts}
use denote.Builtin.{usize}
use denote.RattleType.{owns}
use denote.Signature.{types_at}
use types.Kit.{done, fsplit}
use Rattle.hybrid_array.specs.contracts.view_mut.ArrayMut as view
use Rattle.hybrid_array.proofs.view_mut.ArrayMut.TheLaws.{the_row_laws as view-laws-of}
use denote.Exit.{yes}
use denote.Plain.{uint_vals, uint_Tells}
use denote.Triple.Walked.{Goes-dropped}
use mir.Val.{vint}
use mir.Syntax.{w64}
use Rattle.std.proofs.Common.{◌/◌, ◌*◌}
use Rattle.std.specs.contracts.option.Option as option
use Rattle.std.proofs.option.Option.TheLaws.{the_row_laws as option-laws-of}
use Rattle.hybrid_array.specs.Chunks.{chunk_at}
use seplogic.Ra.Ura.{Ura}
use base.Logic.{ent, sep, wand, all, all_e, apply∗}
use base.Fml.{fres}
use contract.Lifetimes.{Shares}
use types.Logic.{Logic, sem}
use denote.Follow.{follows_by, followed}
use Rattle.std.specs.Prelude.{Option, Some, None, IsSome, IfSome, ◌↔◌}
use Rattle.hybrid_array.specs.declared.ArraySize.{Ghosts}
use Rattle.hybrid_array.specs.declared.chunks_mut.ChunksMut.{ChunksMut}
use Rattle.hybrid_array.specs.Chunked.{LendsChunk, LendsChunks, RestsWithNone, with_items}
use Rattle.hybrid_array.specs.Lending.{LendsPart, with_part}
use Rattle.std.specs.Borrow.{name_if_some}
use mathlib.Core.Option as maybe
use types.Tokens.{res_dup}
use types.Kit.{each, assume}
use Rattle.hybrid_array.proofs.Steps.{GName}
use Rattle.hybrid_array.specs.contracts.chunks_mut.ChunksMut as chunks
use Rattle.hybrid_array.specs.contracts.chunks_mut.ChunksMut.as_flattened_mut as all
use Rattle.hybrid_array.proofs.chunks_mut.ChunksMut.as_flattened_mut.Met as all-met
use Rattle.hybrid_array.specs.contracts.chunks_mut.chunk_if_any as chunk
use Rattle.hybrid_array.proofs.chunks_mut.chunk_if_any.Met as chunk-met
use Rattle.hybrid_array.specs.contracts.chunks_mut.ChunksMut.get_mut as f
use Rattle.hybrid_array.specs.contracts.chunks_mut.ChunksMut.get_mut.Key.{name as #self}
use Rattle.hybrid_array.proofs.chunks_mut.ChunksMut.get_mut.Statement.{statement}
use Rattle.hybrid_array.proofs.chunks_mut.ChunksMut.get_mut.Code as code

module _ {M : Type 1} {𝓤 : Ura M} (𝓛 : Logic 𝓤) (T U : RattleType) (g : Ghosts U.Denot) (s : MutBor (ChunksMut T.Denot U.Denot)) (i : ℕ) where
  open 𝓛 use {A}

  abbrev Row : RattleType
  Row = chunks.the_row (record { mir = named 1; lft = [] }) T U g

  abbrev at : ℕ
  at = i * g.USIZE

  -- what leads the items leads the chunks
  all_lead : (r : MutBor (List T.Denot)) (m : maybe.Option GName) → r.now ≡ s.now.items.now
      → ent 𝓤 (sep 𝓤 (sem 𝓛 (LendsChunks T U g s r.ghost_name)) (sem 𝓛 (LendsPart T r at g.USIZE m))) (sem 𝓛 (LendsChunk T U g s i m))
  unfolding follows_by
  all_lead r maybe.none e =
      qed 𝓛 (‵ (LendsChunks T U g s r.ghost_name) ∷ ‵ (fres r.ghost_name ((Array T 0).coded.code r.now)) ∷ []) ∵
      use2 𝓛 (‵ (fres s.ghost_name (Row.coded.code (with_items T U g s r.now)))) (followed 𝓛 Row (Array T 0) (with_items T U g s) s.ghost_name r.ghost_name r.now) $
      rewrite ! 0 (λ (zs : List T.Denot). ‵ (fres s.ghost_name (Row.coded.code (with_items T U g s zs)))) e refl $ done !
  all_lead r (maybe.some name) e =
      let Turns = λ (ws : List T.Denot). wand 𝓤 (A.res name ((Array T 0).coded.code ws)) (A.res r.ghost_name ((Array T 0).coded.code (with_part r.now at g.USIZE ws))) in
      let End = λ (zs ws : List T.Denot). fres s.ghost_name (Row.coded.code (with_items T U g s (with_part zs at g.USIZE ws))) in
      qed 𝓛 (‵ (LendsChunks T U g s r.ghost_name) ∷ raw (all 𝓤 Turns) ∷ []) ∵
      each ! (λ (ws : List T.Denot). wand 𝓤 (A.res name ((Array T 0).coded.code ws)) (sem 𝓛 (End s.now.items.now ws))) (λ ws.
      assume ! (‵ (fres name ((Array T 0).coded.code ws))) $ move ! (2 ∷ []) $ use1 𝓛 (raw (Turns ws)) (all_e 𝓤 Turns ws) $ move ! (1 ∷ 0 ∷ []) $
      use2 𝓛 (‵ (fres r.ghost_name ((Array T 0).coded.code (with_part r.now at g.USIZE ws))))
      (apply∗ 𝓤 (A.res name ((Array T 0).coded.code ws)) (A.res r.ghost_name ((Array T 0).coded.code (with_part r.now at g.USIZE ws)))) $
      move ! (1 ∷ 0 ∷ []) $ use2 𝓛 (‵ (End r.now ws)) (followed 𝓛 Row (Array T 0) (with_items T U g s) s.ghost_name r.ghost_name (with_part r.now at g.USIZE ws)) $
      rewrite ! 0 (λ (zs : List T.Denot). ‵ (End zs ws)) e refl $ done !)

  -- with no answer the chunks rest, which is said twice
  rest_too : {X : Type 0} (name : X → GName) (u : Option X)
      → ent 𝓤 (sem 𝓛 (LendsChunk T U g s i (name_if_some name u))) (sep 𝓤 (sem 𝓛 (RestsWithNone T U g s u)) (sem 𝓛 (LendsChunk T U g s i (name_if_some name u))))
  unfolding follows_by
  rest_too name (Some x) = qed 𝓛 (‵ (LendsChunk T U g s i (maybe.some (name x))) ∷ []) ∵ nothing ! $ done !
  rest_too name None = qed 𝓛 (‵ (fres s.ghost_name (Row.coded.code s.now)) ∷ []) ∵ res_dup ! $ done !

pub get_mut_spec : {M : Type 1} → statement M
get_mut_spec 𝓤 𝓛 𝓜 𝓡 wired T U LT LU g d met =
    let H = 𝓛.H in
    let 𝓣 = tables 𝓤 H 𝓜 𝓡 𝓡.env in
    let R : RattleType = param 0 T in
    let En = f.ended T U g d in
    let c = f.clauses T U g d 𝓛 𝓜.mem 𝓡.returns in
    let inst = bounded (a_type ∷ a_type ∷ []) (T, (U, tt)) (dcons d dnil) in
    let fn = inst_fn inst code.function in
    let self = plain {n = 4} (λ κs. chunks.the_row (record { mir = named 1; lft = κs.1.0 }) R (param 1 U) g) in
    let number = plain {n = 4} (λ _. usize) in
    let stays : Stays En.signature.params En.kept = (stay_dropped (mut_ref_to (0 ∷ []) tt self) no, (stay_dropped number yes, tt)) in
    proved 𝓛 En stays c 𝓜 𝓡 (Goes-spent_ref 𝓛 4 (0 ∷ []) tt self, (Goes-dropped 𝓛 4 number yes (λ κs x w. refl), tt)) (#self inst) fn
    (code.unfolded 𝓤 H 𝓜 𝓡 wired (T, (U, tt)) d)
    (λ κs. (mut_vals, (uint_vals w64, tt))) (λ κs. (mut_Tells (named 0) κs.0 (self.row κs), (uint_Tells w64, tt))) (λ κs qs bounds a gh are.
    let xs : List T.Denot = a.0.now.items.now in
    let i : ℕ = a.1.0 in
    let vss : List Val × (List Val × Unit {0}) = (mut_vals a.0, (vint w64 i ∷ [], tt)) in
    let y : (walk_of 𝓛 En stays c).Ghost = ((κs, qs, bounds, a, vss), gh) in
    let Post = (walk_of 𝓛 En stays c).post y in
    let lft : NamedLft = record { mir = named 0; lft = κs.0 } in
    let Slice : RattleType = MutSlice (named 0) κs.0 R in
    let shared = mut_slice_shared lft R tt (row_shared R (param_laws 0 T LT)) in
    let slice-laws = of_field (mut_slice_field lft R tt) (mut_slice_laws lft R tt) refl shared in
    let View : RattleType = view.the_row lft R (param 1 U) g in
    let view-laws = view-laws-of lft R (param 1 U) g (param_laws 0 T LT) (param_laws 1 U LU) in
    let Views : RattleType = option.the_row View in
    let views-laws = option-laws-of View view-laws in
    let Outlives-T : Type 0 = κs.1.1.0 ⊑ T.lives in
    let Outlives-U : Type 0 = κs.1.1.1.0 ⊑ U.lives in
    let Below : List T.Denot → Type 0 = λ zs. i < length zs / g.USIZE in
    let IsChunk : List T.Denot → View.Denot → Type 0 = λ zs w. w.items.now ≡ chunk_at g.USIZE zs i in
    let name : View.Denot → GName = λ w. w.items.ghost_name in
    let l0 = flft κs.0 qs.0 in
    let lA = flft κs.1.0 qs.1.0 in
    let lT = flft κs.1.1.0 qs.1.1.0 in
    let lU = flft κs.1.1.1.0 qs.1.1.1.0 in
    let G₁ = triple_of 𝓛 (all.signature T U g d) (all.spec T U g d 𝓛 𝓜.mem 𝓡.returns) in
    let y₁ : G₁.Ghost = ((κs, qs, bounds, (a.0, tt), (mut_vals a.0, tt)), tt) in
    let met₁ = all-met.met 𝓤 𝓛 𝓜 𝓡 (code.calls-hybrid_array::chunks_mut::ChunksMut::as_flattened_mut 𝓡.env wired) T U LT LU g d met in
    let κs₂ : Lfts 3 = (κs.0, (κs.1.1.0, (κs.1.1.1.0, tt))) in
    let qs₂ : Shares 3 = (qs.0, (qs.1.1.0, (qs.1.1.1.0, tt))) in
    let G₂ = triple_of 𝓛 (chunk.signature T U g d) (chunk.spec T U g d 𝓛 𝓜.mem 𝓡.returns) in
    let met₂ = chunk-met.met 𝓤 𝓛 𝓜 𝓡 (code.calls-hybrid_array::chunks_mut::chunk_if_any 𝓡.env wired) T U LT LU g d met in
    let small : i < 2 ^ 64 = are.1.0.1 in
    qed 𝓛 (((‵ l0 ⊛ ‵ lA ⊛ ‵ lT ⊛ ‵ lU ⊛ ‵ ftrue) ⊛ ‵ (owns (types_at En.signature.params κs) a vss)) ∷
    (raw (fact 𝓤 Outlives-T) ⊛ raw (fact 𝓤 Outlives-U) ⊛ ‵ ftrue) ∷ []) ∵
    move ! (1 ∷ []) $ split3 ! $ heard ! Outlives-T (λ lt. heard ! Outlives-U (λ lu. let_go ! $
    split ! $ move ! (1 ∷ []) $ fsplit ! $
    -- [the chunks; the number; the tokens]
    enter ! 𝓣.C 𝓣.Λ fn (vptr a.0.ref_ptr.0 a.0.ref_ptr.1 ∷ vint w64 i ∷ []) Post $
    alloc_all ! (λ l. pass_all ! refl ((tt, tt), ((tt, record { fits = small }), tt)) $
    sets ! (addr ! (through ! refl (stop !))) refl (tt, tt) $
    nothing ! $ move ! (1 ∷ 0 ∷ []) $ fjoin ! $ move ! (2 ∷ 0 ∷ []) $ join ! $ nothing ! $
    use0 𝓛 (raw (fact 𝓤 Outlives-U)) (fact_i 𝓤 _ (emp 𝓤) lu) $ join ! $
    use0 𝓛 (raw (fact 𝓤 Outlives-T)) (fact_i 𝓤 _ (emp 𝓤) lt) $ join ! $
    move ! (1 ∷ 0 ∷ []) $ join ! $ use1 𝓛 (raw (G₁.pre y₁)) (id⊢ 𝓤 (G₁.pre y₁)) $
    calls_at ! (framed 𝓤 H 𝓜 𝓣) G₁ met₁ y₁ (and_then ! (get ! refl) (no_more !)) (λ v₁.
    use1 𝓛 (later (some (λ (r : MutBor (List T.Denot)). ((‵ l0 ⊛ ‵ lA ⊛ ‵ lT ⊛ ‵ lU ⊛ ‵ ftrue) ⊛ ‵ (Slice.own_val r (v₁ ∷ []))) ⊛
    some (λ (ws : Lasts (all.ended T U g d) κs (a.0, tt)). ‵ (lasts (all.ended T U g d) κs (a.0, tt) ws) ⊛
    ‵ (LendsChunks R (param 1 U) g a.0 r.ghost_name) ⊛ raw (fact 𝓤 (r.now ≡ xs)))))) (id⊢ 𝓤 (G₁.post y₁ v₁)) $
    await ! tt $ pick ! (λ r. split ! $ split ! $ move ! (2 ∷ []) $ pick ! (λ ws. split ! $ let_go ! $ split ! $
    move ! (1 ∷ []) $ heard ! (r.now ≡ xs) (λ same.
    -- [what the chunks follow; the tokens; the items; the number]
    move ! (2 ∷ []) $ peeks ! Slice (Is Slice) (shows 𝓛 Slice) r (v₁ ∷ []) (λ is₁.
    lands_as ! refl refl ((slice-laws.lawful 𝓛).typed r (v₁ ∷ []) is₁).0 $
    move ! (2 ∷ []) $ split3 ! $ move ! (0 ∷ 2 ∷ []) $ join ! $
    move ! (2 ∷ 4 ∷ []) $ fjoin ! $ move ! (1 ∷ 0 ∷ []) $ join ! $ nothing ! $
    use0 𝓛 (raw (fact 𝓤 Outlives-U)) (fact_i 𝓤 _ (emp 𝓤) lu) $ join ! $
    use0 𝓛 (raw (fact 𝓤 Outlives-T)) (fact_i 𝓤 _ (emp 𝓤) lt) $ join ! $
    let y₂ : G₂.Ghost = ((κs₂, qs₂, (bounds.1.0, tt), (r, (i, tt)), (v₁ ∷ [], (vint w64 i ∷ [], tt))), tt) in
    move ! (1 ∷ 0 ∷ []) $ join ! $ use1 𝓛 (raw (G₂.pre y₂)) (id⊢ 𝓤 (G₂.pre y₂)) $
    calls_at ! (framed 𝓤 H 𝓜 𝓣) G₂ met₂ y₂ (and_then ! (get ! refl) (and_then ! (get ! refl) (no_more !))) (λ v₂.
    use1 𝓛 (later (some (λ (u : Views.Denot). ((‵ l0 ⊛ ‵ lT ⊛ ‵ lU ⊛ ‵ ftrue) ⊛ ‵ (Views.own_val u (v₂ ∷ []))) ⊛
    some (λ (ws : Lasts (chunk.ended T U g d) κs₂ (r, (i, tt))). ‵ (lasts (chunk.ended T U g d) κs₂ (r, (i, tt)) ws) ⊛
    ‵ (LendsPart R r (i * g.USIZE) g.USIZE (name_if_some name u)) ⊛ raw (fact 𝓤 (IsSome u ↔ Below r.now)) ⊛ raw (fact 𝓤 (IfSome u (IsChunk r.now))))))) (id⊢ 𝓤 (G₂.post y₂ v₂)) $
    await ! tt $ pick ! (λ u. split ! $ split ! $ move ! (2 ∷ []) $ pick ! (λ ws₂. split ! $ let_go ! $ split3 ! $
    move ! (1 ∷ 2 ∷ []) $ heard ! (IsSome u ↔ Below r.now) (λ is-some. heard ! (IfSome u (IsChunk r.now)) (λ is-chunk.
    -- [what the items follow; the tokens; the view; another token; what the chunks follow]
    move ! (4 ∷ 0 ∷ []) $ use2 𝓛 (‵ (LendsChunk R (param 1 U) g a.0 i (name_if_some name u))) (all_lead 𝓛 R (param 1 U) g a.0 i r (name_if_some name u) same) $
    use1 𝓛 (‵ (RestsWithNone R (param 1 U) g a.0 u) ⊛ ‵ (LendsChunk R (param 1 U) g a.0 i (name_if_some name u))) (rest_too 𝓛 R (param 1 U) g a.0 i name u) $
    move ! (2 ∷ []) $ peeks ! Views (Is Views) (shows 𝓛 Views) u (v₂ ∷ []) (λ is₂.
    lands_as ! refl refl ((views-laws.lawful 𝓛).typed u (v₂ ∷ []) is₂).0 $
    returns ! (look_at ! 0 refl) $ free_all ! refl $
    move ! (2 ∷ []) $ split ! $ move ! (4 ∷ 1 ∷ []) $ join ! $ move ! (1 ∷ 0 ∷ []) $ join ! $
    use0 𝓛 (raw (fact 𝓤 (IfSome u (IsChunk xs)))) (fact_i 𝓤 _ (emp 𝓤) (subst (λ (zs : List T.Denot). IfSome u (IsChunk zs)) same is-chunk)) $
    use0 𝓛 (raw (fact 𝓤 (IsSome u ↔ Below xs))) (fact_i 𝓤 _ (emp 𝓤) (subst (λ (zs : List T.Denot). IsSome u ↔ Below zs) same is-some)) $ join ! $
    move ! (3 ∷ []) $ split ! $ move ! (1 ∷ 2 ∷ []) $ join ! $ move ! (1 ∷ 0 ∷ []) $ join ! $
    nothing ! $ nothing ! $ fjoin ! $ nothing ! $ fjoin ! $ keep ! (2 ∷ 0 ∷ 3 ∷ 1 ∷ []) $
    by ! (leaves 𝓛 En stays c y v₂ u (tt, (tt, tt)) (tt, (tt, tt))))))))))))))))))
