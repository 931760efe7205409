use Rattle.raft_shared.proofs.Common.{each-append, ◌∷◌, [], ◌++◌, map, sym, subst, AllByRecursion, Yields-more, map-append, err_from_is_err_and, item_of, MayBeWritten, writing_shown}
use Rattle.raft_shared.proofs.shared_accessor.SharedAccessor.write_items.Goals as goal

pub loop-item-preserved : goal.loop-item-preserved
loop-item-preserved g c =
    let at = c.loop-item in
    let x = c.in-Some.item in
    subst (AllByRecursion (MayBeWritten (writing_shown c.args.how))) (sym (map-append item_of at.yielded (x ∷ [])))
    (each-append (MayBeWritten (writing_shown c.args.how)) (map item_of at.yielded) (item_of x ∷ []) at.invariant (c.in_ok-write_item.ensures.ok, tt))

pub returns-in_err-write_item-clause-refused : goal.returns-in_err-write_item-clause-refused
returns-in_err-write_item-clause-refused g c =
    let at = c.loop-item in
    let x = c.in-Some.item in
    let it = c.into_iter-item-iterator in
    let p = err_from_is_err_and c.from_residual.result c.from_residual.ensures.1 in
    rw (p.1, p.2) (
      it.result,
      at.yielded ++ x ∷ [],
      c.next.new.self,
      it.ensures.into_iter_gives,
      Yields-more g.I.IntoIter.Iterator.next_gives it.result at.yielded at.item-iterator x c.next.new.self at.yielded_by c.in-Some.ensures.steps,
      record { front = map item_of at.yielded; last = item_of x; split = map-append item_of at.yielded (x ∷ []); written = at.invariant; fault = c.in_err-write_item.ensures.fault },
    )
