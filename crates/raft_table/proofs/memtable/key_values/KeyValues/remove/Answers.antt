use Rattle.raft_table.proofs.Facts.{◌≡◌, ◌+◌, ◌-◌, Some, None, arith, sym, subst, ◌∙◌, LogQueue, keys_shown, pair_count, file_weight, file_at, Rewrite, shown-remove, sound-changed, file-shown, counted-shown, pair_count-remove}
use Rattle.raft_table.specs.declared.memtable.key_values.KeyValues.TheInside.{Inside}
use Rattle.std.specs.FinMap as finite
use Rattle.raft_table.proofs.memtable.key_values.KeyValues.remove.Goals as goal

pub returns-in_err-removed-clause-after : goal.returns-in_err-removed-clause-after
returns-in_err-removed-clause-after c =
    shown-remove c.self.inside (record c.self.inside { pairs = c.remove.new.self }) c.args.self.now c.args.key.now c.self.invariant c.self.view_is c.remove.ensures.ordered c.remove.ensures.entries

pub returns-in_err-removed-clause-removed : goal.returns-in_err-removed-clause-removed
returns-in_err-removed-clause-removed c =
    c.from_residual.ensures ∙ sym (file-shown c.self.inside c.args.self.now c.args.key.now None c.self.invariant c.self.view_is (sym (c.in_err-removed.was) ∙ c.remove.ensures.value))

pub overflow_sub-self : goal.overflow_sub-self
overflow_sub-self c =
    let removed = sym (file-shown c.self.inside c.args.self.now c.args.key.now (Some c.in_ok-removed.removed) c.self.invariant c.self.view_is (sym (c.in_ok-removed.was) ∙ c.remove.ensures.value)) in
    omega (arith, counted-shown c.self.inside c.args.self.now c.args.key.now _ c.self.invariant c.self.view_is removed)

abbrev after : goal.After-drop-removed → Inside
after c = record c.self.inside { pairs = c.remove.new.self; rewritten = c.self.inside.rewritten - c.one_if_rewritten.result }

removed : (c : goal.After-drop-removed) → Some c.in_ok-removed.removed.file ≡ file_at c.args.self.now c.args.key.now
removed c = sym (file-shown c.self.inside c.args.self.now c.args.key.now (Some c.in_ok-removed.removed) c.self.invariant c.self.view_is (sym (c.in_ok-removed.was) ∙ c.remove.ensures.value))

gone : (c : goal.After-drop-removed) → keys_shown (after c) ≡ finite.remove c.args.self.now c.args.key.now
gone c = shown-remove c.self.inside (after c) c.args.self.now c.args.key.now c.self.invariant c.self.view_is c.remove.ensures.ordered c.remove.ensures.entries

counts : (c : goal.After-drop-removed) (q : LogQueue) → pair_count q (finite.remove c.args.self.now c.args.key.now) + file_weight q (Some c.in_ok-removed.removed.file) ≡ pair_count q c.args.self.now
counts c q = subst (λ f. pair_count q (finite.remove c.args.self.now c.args.key.now) + file_weight q f ≡ pair_count q c.args.self.now) (sym (removed c)) (pair_count-remove q c.args.self.now c.args.key.now)

pub invariant_of-self-2 : goal.invariant_of-self-2
invariant_of-self-2 c =
    let fits = counted-shown c.self.inside c.args.self.now c.args.key.now (Some c.in_ok-removed.removed.file) c.self.invariant c.self.view_is (removed c) in
    sound-changed c.self.inside (after c) c.args.self.now _ (file_weight Rewrite (Some c.in_ok-removed.removed.file)) 0 c.self.invariant
    c.self.view_is c.remove.ensures.ordered (gone c) (omega (arith, fits)) (omega (arith, counts c Rewrite))

pub returns : goal.returns
returns c = record { after = gone c; removed = removed c; counts = λ q. rw (gone c) (counts c q) }
