use Rattle.raft_accessor.proofs.Common.{◌∷◌, [], ◌++◌, map, sym, subst, Yields-more, map-append, err_from_is_err_and, item_of, writing_shown, AreWritten}
use Rattle.raft_accessor.proofs.AccessorLemmas.{written_append, refused_last}
use Rattle.raft_accessor.proofs.accessor.MemTableAccessor.write_items.Goals as goal

pub loop-item-preserved : goal.loop-item-preserved
loop-item-preserved g c =
    let at = c.loop-item in
    let x = c.in-Some.item in
    let w = writing_shown c.args.how in
    subst (λ xs. AreWritten w xs c.args.self.now c.write_item.new.self) (sym (map-append item_of at.yielded (x ∷ [])))
    (written_append w (map item_of at.yielded) (item_of x ∷ []) c.args.self.now at.self c.write_item.new.self at.invariant c.in_ok-write_item.ensures.ok)

pub returns-in_err-write_item-clause-refused : goal.returns-in_err-write_item-clause-refused
returns-in_err-write_item-clause-refused g c =
    let at = c.loop-item in
    let x = c.in-Some.item in
    let it = c.into_iter-item-iterator in
    let refused = c.in_err-write_item.ensures in
    let p = err_from_is_err_and c.from_residual.result c.from_residual.ensures.1 in
    rw (p.1, p.2) (
      it.result,
      at.yielded ++ x ∷ [],
      c.next.new.self,
      it.ensures.into_iter_gives,
      Yields-more g.I.IntoIter.Iterator.next_gives it.result at.yielded at.item-iterator x c.next.new.self at.yielded_by c.in-Some.ensures.steps,
      refused_last (writing_shown c.args.how) (map item_of at.yielded) (item_of x) (map item_of (at.yielded ++ x ∷ [])) c.args.self.now at.self
          c.write_item.new.self _ (map-append item_of at.yielded (x ∷ [])) at.invariant refused.err refused.cleaned refused.counts_err refused.fault,
    )
