-- A loan of two parts out of a loan.
use mathlib.Core.List.{List, [], ◌∷◌, ◌++◌}
use mathlib.Core.Option.{none, some}
use mathlib.Core.Path.{◌≡◌, refl, sym, subst}
use Prim.Native.Nat.{ℕ}
use seplogic.Ra.Ura.{Ura}
use mir.Syntax.{Lifetime}
use mir.Val.{Val, of_list, vnil}
use lib.Dec.{T as True}
use denote.Shadow.{makes_shadow}
use Rattle.std.specs.contracts.option.Option as option
use base.Logic.{ent, sep, wand, emp}
use base.Fml.{Fml, GName, Lft, fres}
use base.Stored.{coded_list}
use borrow.Follows.Kept.{follows_itself}
use types.Logic.{Logic, sem}
use types.Kit.{‵, ◌⊛◌, ◌$◌, ◌∵◌, !, qed, by, move, join, drop as let_go, each, assume, use1, use2, fsplit, fjoin, fpack, feq_i, rewrite, done}
use types.Follow.{followed₂}
use types.Match.{live}
use denote.Array.{Array}
use denote.Enum.Declared.{shape}
use denote.Enum.Enum.{form_of, in_a_row}
use denote.Enum.Row.{tagged_with}
use denote.Follow.{both_by, follows_by, follows, follows_both, followed}
use denote.FollowSlice.{heres_id}
use denote.Memory.{mem}
use denote.RattleType.{RattleType, Valss, owns}
use denote.Ref.{MutBor}
use denote.Slice.{MutSlice, heres}
use denote.Steps.{nothing}
use Rattle.std.specs.Borrow.{name_if_some}
use Rattle.std.specs.Prelude.{Ok, Err, Option, Some, None, IsSome, IfSome, take, drop}
use Rattle.std.specs.contracts.result.Result as result
use Rattle.hybrid_array.specs.Lending.{LendsAllIf, LendsPart, with_part}

module _ {M : Type 1} {𝓤 : Ura M} (𝓛 : Logic 𝓤) (R S T U : RattleType) (F : S.Denot → R.Denot) (G : T.Denot → U.Denot → S.Denot) (γ γ₁ γ₂ γ₃ : GName) where
  open 𝓛 use {A}

  -- the whole follows what it lent, which follows both of its parts
  pub then_both : ent 𝓤 (sep 𝓤 (sem 𝓛 (follows R S γ γ₁ F)) (sem 𝓛 (follows_both S T U γ₁ γ₂ γ₃ G))) (sem 𝓛 (follows_both R T U γ γ₂ γ₃ (λ x y. F (G x y))))
  unfolding both_by
  then_both = qed 𝓛 (‵ (follows R S γ γ₁ F) ∷ ‵ (follows_both S T U γ₁ γ₂ γ₃ G) ∷ []) ∵
      each ! (λ (w : T.Denot × U.Denot). wand 𝓤 (sep 𝓤 (A.res γ₂ (T.coded.code w.0)) (A.res γ₃ (U.coded.code w.1))) (A.res γ (R.coded.code (F (G w.0 w.1))))) (λ w.
      assume ! (‵ (fres γ₂ (T.coded.code w.0)) ⊛ ‵ (fres γ₃ (U.coded.code w.1))) $ move ! (0 ∷ 2 ∷ []) $
      use2 𝓛 (‵ (fres γ₁ (S.coded.code (G w.0 w.1)))) (followed₂ 𝓛 (mem S) (mem T) (mem U) G γ₁ γ₂ γ₃ w.0 w.1) $
      move ! (1 ∷ 0 ∷ []) $ by ! (followed 𝓛 R S F γ γ₁ (G w.0 w.1)))

module _ {M : Type 1} {𝓤 : Ura M} (𝓛 : Logic 𝓤) (R : RattleType) where
  open 𝓛 use {A}

  -- a slice that is given up rests as it is
  pub rests : (ℓ : Lifetime) (κ : Lft) (r : MutBor (List R.Denot)) (vs : List Val) → ent 𝓤 (sem 𝓛 ((MutSlice ℓ κ R).own_val r vs)) (sem 𝓛 (LendsAllIf R r none))
  unfolding follows_by
  rests ℓ κ r vs = qed 𝓛 (‵ ((MutSlice ℓ κ R).own_val r vs) ∷ []) ∵ fsplit ! $ let_go ! $ fsplit ! $ move ! (1 ∷ []) $ let_go ! $
      use1 𝓛 (‵ (fres r.ghost_name ((coded_list R.coded).code (heres R r.now)))) (𝓛.names.obs-res r.ghost_name ((coded_list R.coded).code (heres R r.now))) $
      rewrite ! 0 (λ (zs : List R.Denot). ‵ (fres r.ghost_name ((coded_list R.coded).code zs))) (heres_id R r.now) refl $ done !

  -- a slice follows its own reference
  pub passed_on : (r : MutBor (List R.Denot)) → ent 𝓤 (emp 𝓤) (sem 𝓛 (LendsAllIf R r (some r.ghost_name)))
  unfolding follows_by
  passed_on r = follows_itself 𝓛 (Array R 0) r.ghost_name

module _ {M : Type 1} {𝓤 : Ura M} (𝓛 : Logic 𝓤) (R R' : RattleType) where
  -- a result is made of its value
  pub ok_of : (x : R.Denot) (v : Val) → ent 𝓤 (sem 𝓛 (R.own_val x (v ∷ []))) (sem 𝓛 ((result.the_row R R').own_val (Ok x) (live 0 (of_list (v ∷ [])) ∷ [])))
  ok_of x v =
      qed 𝓛 (‵ (R.own_val x (v ∷ [])) ∷ []) ∵ nothing ! $ move ! (1 ∷ 0 ∷ []) $ fjoin ! $ feq_i ! (List Val) (v ∷ []) (v ∷ []) refl $ fjoin ! $
      fpack ! (Valss (R ∷ [])) (in_a_row (R ∷ []) (owns (R ∷ []) (x, tt)) (v ∷ [])) (v ∷ [], tt) $
      feq_i ! (List Val) (live 0 (of_list (v ∷ [])) ∷ []) (live 0 (of_list (v ∷ [])) ∷ []) refl $ fjoin ! $
      fpack ! (List Val) (tagged_with (form_of (shape (result.the_type R R'))) (form_of (shape (result.the_type R R'))).payload ((result.the_type R R').to (Ok x)) (live 0 (of_list (v ∷ [])) ∷ [])) (v ∷ []) $ done !

  -- and of its error
  pub err_of : (x : R'.Denot) (v : Val) → ent 𝓤 (sem 𝓛 (R'.own_val x (v ∷ []))) (sem 𝓛 ((result.the_row R R').own_val (Err x) (live 1 (of_list (v ∷ [])) ∷ [])))
  err_of x v =
      qed 𝓛 (‵ (R'.own_val x (v ∷ [])) ∷ []) ∵ nothing ! $ move ! (1 ∷ 0 ∷ []) $ fjoin ! $ feq_i ! (List Val) (v ∷ []) (v ∷ []) refl $ fjoin ! $
      fpack ! (Valss (R' ∷ [])) (in_a_row (R' ∷ []) (owns (R' ∷ []) (x, tt)) (v ∷ [])) (v ∷ [], tt) $
      feq_i ! (List Val) (live 1 (of_list (v ∷ [])) ∷ []) (live 1 (of_list (v ∷ [])) ∷ []) refl $ fjoin ! $
      fpack ! (List Val) (tagged_with (form_of (shape (result.the_type R R'))) (form_of (shape (result.the_type R R'))).payload ((result.the_type R R').to (Err x)) (live 1 (of_list (v ∷ [])) ∷ [])) (v ∷ []) $ done !

module _ {M : Type 1} {𝓤 : Ura M} (𝓛 : Logic 𝓤) (R : RattleType) where
  -- no answer is made of nothing
  pub none_of : ent 𝓤 (emp 𝓤) (sem 𝓛 ((option.the_row R).own_val None (live 0 vnil ∷ [])))
  none_of = makes_shadow 𝓛 ((option.the_row R).own_val None (live 0 vnil ∷ [])) (λ us. (tt, (λ vss. (tt, tt)))) ([], (refl, (tt, (refl, tt))))

module _ {M : Type 1} {𝓤 : Ura M} (𝓛 : Logic 𝓤) (R : RattleType) (s b t c a : MutBor (List R.Denot)) (at n : ℕ) {X : Type 0} (name : X → GName) where
  open 𝓛 use {A}

  abbrev Items : RattleType
  Items = Array R 0

  abbrev Joins : GName → GName → GName → Fml
  Joins γ γ₁ γ₂ = follows_both Items Items Items γ γ₁ γ₂ ◌++◌

  -- of s that is cut into b and t, and t into c and a, c is lent, and the others rest
  pub middle_leads : (u : Option X) → b.now ≡ take at s.now → a.now ≡ drop n (drop at s.now) → IsSome u → IfSome u (λ x. name x ≡ c.ghost_name)
      → ent 𝓤 (sep 𝓤 (sem 𝓛 (Joins s.ghost_name b.ghost_name t.ghost_name)) (sep 𝓤 (sem 𝓛 (LendsAllIf R b none)) (sep 𝓤 (sem 𝓛 (Joins t.ghost_name c.ghost_name a.ghost_name)) (sem 𝓛 (LendsAllIf R a none)))))
      (sem 𝓛 (LendsPart R s at n (name_if_some name u)))
  unfolding follows_by both_by
  middle_leads None eb ea p named = absurd (subst True (sym p) tt)
  middle_leads (Some x) eb ea p named =
      let Is = λ (γ : GName) (zs : List R.Denot). fres γ (Items.coded.code zs) in
      let after : List R.Denot = drop n (drop at s.now) in
      qed 𝓛 (‵ (Joins s.ghost_name b.ghost_name t.ghost_name) ∷ ‵ (Is b.ghost_name b.now) ∷ ‵ (Joins t.ghost_name c.ghost_name a.ghost_name) ∷ ‵ (Is a.ghost_name a.now) ∷ []) ∵
      rewrite ! 1 (λ (zs : List R.Denot). ‵ (Is b.ghost_name zs)) eb refl $ rewrite ! 3 (λ (zs : List R.Denot). ‵ (Is a.ghost_name zs)) ea refl $
      each ! (λ (ws : List R.Denot). wand 𝓤 (A.res (name x) (Items.coded.code ws)) (A.res s.ghost_name (Items.coded.code (with_part s.now at n ws)))) (λ ws.
      assume ! (‵ (Is (name x) ws)) $ rewrite ! 0 (λ (γ : GName). ‵ (Is γ ws)) named refl $
      -- [c; s is joined; b; t is joined; a]
      move ! (0 ∷ 4 ∷ []) $ join ! $ move ! (0 ∷ 3 ∷ []) $
      use2 𝓛 (‵ (Is t.ghost_name (ws ++ after))) (followed₂ 𝓛 (mem Items) (mem Items) (mem Items) ◌++◌ t.ghost_name c.ghost_name a.ghost_name ws after) $
      move ! (2 ∷ 0 ∷ []) $ join ! $
      by ! (followed₂ 𝓛 (mem Items) (mem Items) (mem Items) ◌++◌ s.ghost_name b.ghost_name t.ghost_name (take at s.now) (ws ++ after)))
