-- `of_found` makes a value of no bytes, with the list that its premise says.
use Rattle.std.proofs.Common.{ℕ, List, [], ◌∷◌, refl}
use mir.Syntax.{a_type, dcons, dnil, named}
use mir.Val.{Val, vptr, vstruct, vcons, vnil}
use mir.MapTy.{inst_fn}
use base.Logic.{SProp}
use base.Fml.{Fml}
use types.Kit.{‵, raw, ◌⊛◌, ◌$◌, ◌∵◌, !, qed, move, keep, split, join, fjoin, use0, suffices, done}
use types.Run.{no_more, and_then, returns, enter}
use types.ByLocal.{alloc_all, pass_all, free_all, look_at, get, sets}
use types.Part.{agg}
use contract.Monad.{fact}
use contract.Running.{tables}
use denote.Exit.{yes}
use denote.RattleType.{RattleType, owns}
use denote.Signature.{types_at, type_at, plain}
use denote.Builtin.{RefOf}
use denote.Steps.{nothing, heard}
use denote.Param.{param, bounded}
use denote.Ref.{shr_vals, shr_Tells}
use denote.Shadow.{makes_shadow}
use denote.Triple.Entry.{alive}
use denote.Triple.Walked.{says, Stays, stay_dropped, walk_of, ends_at, Goes-dropped}
use Rattle.std.proofs.raw_atomic.Walks.{proved}
use Rattle.raft_base.specs.declared.pipe_log.LogQueue.TheVariants.{Append, Rewrite}
use Rattle.raft_files.specs.Asks.{Found, NumberedBytes, ask}
use Rattle.raft_files.specs.contracts.asked.Asked.of_found.{ended, clauses}
use Rattle.raft_files.specs.contracts.asked.Asked.of_found.Key.{name as #self}
use Rattle.raft_files.proofs.asked.Asked.of_found.Statement.{statement}
use Rattle.raft_files.proofs.asked.Asked.of_found.Code as code

pub of_found_spec : {M : Type 1} → statement M
of_found_spec 𝓤 𝓛 𝓜 𝓡 wired X _ found d _ =
    let H = 𝓛.H in let 𝓣 = tables 𝓤 H 𝓜 𝓡 𝓡.env in let R : RattleType = param 0 X in let En = ended X found d in let c = clauses X found d 𝓛 𝓜.mem 𝓡.returns in
    let inst = bounded (a_type ∷ []) (X, tt) (dcons d dnil) in let fn = inst_fn inst code.function in let self = RefOf (0 ∷ []) tt (plain (λ _. R)) (λ _. tt) in
    let hs : Stays En.signature.params En.kept = (stay_dropped self yes, tt) in
    proved 𝓛 En hs c 𝓜 𝓡 (Goes-dropped 𝓛 2 self yes (λ κs x f. refl), tt) (#self inst) fn (code.unfolded 𝓤 H 𝓜 𝓡 wired (X, tt) d)
    (λ κs. (shr_vals, tt)) (λ κs. (shr_Tells (named 0) κs.0 R, tt)) (λ κs qs bounds a g are.
    let b : ℕ = a.0.ref_ptr.0 in let o : ℕ = a.0.ref_ptr.1 in
    let Said : Type 0 = (append : List NumberedBytes) × (rewrite : List NumberedBytes) × found.are_found a.0.now append rewrite in
    let y : (walk_of 𝓛 En hs c).Ghost = ((κs, qs, bounds, a, (vptr b o ∷ [], tt)), g) in let Post : Val → SProp 𝓤 = (walk_of 𝓛 En hs c).post y in
    let v : Val = vstruct (vcons (vstruct vnil) vnil) in
    qed 𝓛 ((raw (alive 𝓛 En.signature κs qs) ⊛ ‵ (owns (types_at En.signature.params κs) a y.0.4)) ∷ raw (fact 𝓤 _) ∷ raw (fact 𝓤 Said) ∷ []) ∵
    move ! (2 ∷ []) $ heard ! Said (λ said.
    let r : denote.Triple.Entry.Res En.signature κs = record { marker = record {}; asks = ask Rewrite (Found said.1) ∷ ask Append (Found said.0) ∷ [] } in
    let O : Fml = (type_at En.signature.result κs).own_val r (v ∷ []) in
    split ! $ keep ! (0 ∷ []) $
    enter ! 𝓣.C 𝓣.Λ fn (vptr b o ∷ []) Post $ alloc_all ! (λ l. pass_all ! refl ((tt, tt), tt) $
    sets ! (agg ! (no_more !)) refl (tt, tt) $ sets ! (agg ! (and_then ! (get ! refl) (no_more !))) refl (tt, (tt, tt)) $
    returns ! (look_at ! 0 refl) $ free_all ! refl $
    use0 𝓛 (‵ O) (makes_shadow 𝓛 O ((λ vss. (tt, ((λ uss. (tt, tt)), tt))), tt) (((vstruct vnil ∷ [], tt), (refl, ((tt, (refl, tt)), tt))), tt)) $
    suffices ! _ (ends_at 𝓛 En hs c y v r (tt, tt) (tt, tt)) $ says ! (said.0, said.1, said.2, refl) $
    nothing ! $ nothing ! $ fjoin ! $ join ! $ move ! (1 ∷ 0 ∷ []) $ join ! $ done !)))
