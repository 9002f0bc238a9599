-- The words of the walks by hand.
pub use Rattle.std.proofs.Common.{◌≡◌, ℕ, ◌+◌, ◌^◌, ◌<◌, List, [], ◌∷◌, ◌++◌, length, take, drop, refl, sym, ap, ◌∙◌, subst, MutBor}
pub use Rattle.std.proofs.raw_atomic.Walks.{proved, leaves}
pub use base.Fml.{flft, GName, fsep, ftrue}
pub use base.Logic.{id⊢, emp}
pub use contract.BorrowLft.{◌⊑◌}
pub use contract.Monad.{fact, fact_i}
pub use contract.Running.{tables}
pub use denote.Array.{Array}
pub use denote.Exit.{no}
pub use denote.Follow.{follows_both}
pub use denote.Laws.{Is, shows}
pub use denote.Param.{param, bounded}
pub use denote.Param.Laws.{Laws, param_laws, of_field, row_shared}
pub use denote.Param.Shared.{mut_slice_shared}
pub use denote.Ref.{NamedLft, mut_vals, mut_Tells}
pub use denote.RattleType.{RattleType}
pub use denote.Signature.{plain, mut_slice_of, mut_ref_to}
pub use denote.Slice.{MutSlice, slice_val, mut_slice_vals, mut_slice_Tells}
pub use denote.Steps.{nothing, heard, peeks}
pub use denote.Struct.Field.{mut_slice_field}
pub use denote.Struct.Laws.{mut_slice_laws}
pub use denote.Struct.Tuple.{Tuple, tuple_laws}
pub use denote.Triple.Call.{calls_at}
pub use denote.Triple.Clauses.{Lasts, lasts}
pub use denote.Triple.Entry.{Res, alive, on_entry}
pub use denote.Triple.Spec.{triple_of}
pub use denote.Triple.Table.{framed}
pub use denote.Triple.Walked.{Stays, stay_dropped, walk_of, Goes-spent_slice, Goes-spent_ref}
pub use mir.MapTy.{inst_fn}
pub use mir.Val.{vptr}
pub use mir.Syntax.{a_type, dcons, dnil, named}
pub use types.ByLocal.{through, alloc_all, pass_all, free_all, look_at, look_in_at, get, get_in, sets, lands_as}
pub use types.Kit.{use2, ‵, raw, ◌⊛◌, some, later, ◌$◌, ◌∵◌, !, qed, by, move, keep, use0, use1, split, split3, join, fjoin, pick, await, rewrite}
pub use types.Kit.{drop as let_go}
pub use types.Part.{agg, sub, whole}
pub use types.Run.{stop, fld, hop, from, addr, and_then, no_more, returns, enter}
