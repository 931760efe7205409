-- What the proofs by hand, of calls that take boxes apart, import of the logic, in one place.
pub use base.Fml.{Fml, flft, fsep, ftrue}
pub use base.Fraction.{full_share}
pub use base.Logic.{SProp, emp, ent, fst∗, id⊢, never}
pub use base.Shift.{Keyless}
pub use contract.BorrowLft.{◌⊑◌}
pub use contract.Monad.{Fun, fact}
pub use contract.Running.{Running, tables}
unfoldable pub use contract.Running.{tables_of}
pub use denote.Exit.{Exit, hidden, leaves, no, unchanged, under, yes}
pub use denote.Memory.{lone}
pub use denote.Param.{bounded, layout}
pub use denote.Param.Laws.{Laws}
pub use denote.Param.Send.{AllSend, IsSend, Quiet, owning_send, part_keyless, sendable, struct_send}
pub use denote.RattleType.{Denots, RattleType, Valss}
pub use denote.RawPtr.{Ptr, RawPtr, block_ptr, in_a_block, lies_at, null_ptr, ptr_val}
pub use denote.Signature.{Slot, plain}
pub use denote.Steps.{heard, nothing, only}
pub use denote.Struct.Field.{Field, RawPtr-field, rows}
pub use denote.Struct.Owning.{Owning, fields, shape, to}
pub use denote.Struct.Struct.{Struct, exits_of, within}
pub use denote.Struct.Tuple.{Tuple}
pub use denote.Struct.Values.{intos}
pub use denote.Triple.Call.{calls_at, calls_at_last}
pub use denote.Triple.Clauses.{Clauses, Ended, closing}
pub use denote.Triple.Spec.{triple_of}
pub use denote.Triple.Statement.{Contract, Triple}
pub use denote.Triple.Table.{entered}
pub use denote.Triple.Walked.{Goes-dropped, Silent, Stays, ends_at, says, stay_dropped, walk_Meets, walk_of}
pub use lib.Dec.{T, lit<}
pub use mathlib.Core.Bool.{true≢false}
pub use mathlib.Core.List.{List, [], ◌++◌, ◌∷◌}
pub use mathlib.Core.Path.{ap, refl, subst, sym, ◌∙◌, ◌≡◌}
pub use mir.MapTy.{inst_fn}
pub use mir.Syntax.{Args, Body, Callee, Dict, Fn, Local, Ty, a_type, aggregate, assign, copy, dcons, dnil, field, impl, int, local, place, return, rv_opd, seq, tcons, tnil, ty_ptr, ty_struct, value_local, w64}
pub use mir.Val.{Val, WT, has_ty, of_list, vint, vptr, vstruct}
pub use prog.Memory.{Memory}
pub use prog.Model.{Model}
pub use prog.Routine.{Routine}
pub use prog.Wp.{Closed, Tables, WpFn}
pub use seplogic.Ra.Ura.{Ura}
pub use sound.WpLaws.{WpFn-mono, fm_of}
pub use types.ByLocal.{alloc_all, env, free_all, get, get_in, lands_as, lands_last, look_at, pass_all, sets}
pub use types.Kit.{qed, !, Item, at_ret, await, by, done, drop, feq_i, feq_l, fjoin, fpack, fpick, fsplit, join, later, move, pick, raw, rewrite, some, split, split3, suffices, use1, ‵, ◌$◌, ◌∵◌, ◌⊛◌}
pub use types.Logic.{Logic, sem}
pub use types.Part.{agg, sub, whole}
pub use types.Run.{and_then, blocks, enter, exec, first, fld, lit, no_more, of_opd, returns, stop}
