use Rattle.raft_table.proofs.Facts.{◌≡◌, ◌+◌, ◌-◌, Some, None, arith, sym, ap, subst, ◌∙◌, refl, LogQueue, keys_shown, pair_count, file_weight, file_at, with_moved, option_map, option_copied_mut, IsOrdered, lookup, Rewrite, has, key_cmp}
use Rattle.raft_table.proofs.Facts.{shown-set_file, shown-unmoved, sound-changed, rewritten-le-len, file-shown, counted-shown, pair_count-with_moved}
use Rattle.raft_table.specs.declared.memtable.key_values.KeyValues.TheInside.{Inside}
use Rattle.raft_table.proofs.memtable.key_values.KeyValues.set_file.Goals as goal

pub prove-unreachable-requires : goal.prove-unreachable-requires
prove-unreachable-requires c = omega (arith, rewritten-le-len c.self.inside c.self.invariant)

pub returns-in_err-pair-clause-after : goal.returns-in_err-pair-clause-after
returns-in_err-pair-clause-after c =
    shown-unmoved c.self.inside (record c.self.inside { pairs = c.get_mut.follows.lender-at-none }) c.args.self.now c.args.key.now c.args.file c.self.invariant c.self.view_is
    (sym c.get_mut.ensures.value ∙ ap option_copied_mut c.in_err-pair.was) (ap (λ m. m.entries) c.get_mut.follows.holds-at-none)

pub returns-in_err-pair-clause-moved : goal.returns-in_err-pair-clause-moved
returns-in_err-pair-clause-moved c =
    c.from_residual.ensures ∙ sym (file-shown c.self.inside c.args.self.now c.args.key.now None c.self.invariant c.self.view_is (sym (ap option_copied_mut c.in_err-pair.was) ∙ c.get_mut.ensures.value))

pub overflow_sub-self : goal.overflow_sub-self
overflow_sub-self c =
    let left = sym (file-shown c.self.inside c.args.self.now c.args.key.now (Some c.in_ok-pair.pair.now) c.self.invariant c.self.view_is (sym (ap option_copied_mut c.in_ok-pair.was) ∙ c.get_mut.ensures.value)) in
    omega (arith, counted-shown c.self.inside c.args.self.now c.args.key.now _ c.self.invariant c.self.view_is left)

abbrev after : goal.After-self-3-1 → Inside
after c = record c.self.inside { pairs = c.get_mut.follows.lender (record { value = c.in_ok-pair.pair.now.value; file = c.args.file }); rewritten = c.self.inside.rewritten - c.one_if_rewritten.result + c.one_if_rewritten-2.result }

found : (c : goal.After-self-3-1) → Some c.in_ok-pair.pair.now ≡ lookup (has c.args.key.now) c.self.inside.pairs.entries
found c = sym (ap option_copied_mut c.in_ok-pair.was) ∙ c.get_mut.ensures.value

left : (c : goal.After-self-3-1) → Some c.in_ok-pair.pair.now.file ≡ file_at c.args.self.now c.args.key.now
left c = sym (file-shown c.self.inside c.args.self.now c.args.key.now (Some c.in_ok-pair.pair.now) c.self.invariant c.self.view_is (found c))

ordered : (c : goal.After-self-3-1) → IsOrdered key_cmp (after c).pairs
ordered c = (c.get_mut.follows.holds (record { value = c.in_ok-pair.pair.now.value; file = c.args.file })).4

moved : (c : goal.After-self-3-1) → keys_shown (after c) ≡ with_moved c.args.self.now c.args.key.now c.args.file
moved c =
    shown-set_file c.self.inside (after c) c.args.self.now c.args.key.now c.in_ok-pair.pair.now (record { value = c.in_ok-pair.pair.now.value; file = c.args.file }) c.self.invariant c.self.view_is
    (ordered c) (sym (found c)) (c.get_mut.follows.holds (record { value = c.in_ok-pair.pair.now.value; file = c.args.file })).0 refl

counts : (c : goal.After-self-3-1) (q : LogQueue) → pair_count q (with_moved c.args.self.now c.args.key.now c.args.file) + file_weight q (Some c.in_ok-pair.pair.now.file) ≡ pair_count q c.args.self.now + file_weight q (Some c.args.file)
counts c q =
    subst (λ f. pair_count q (with_moved c.args.self.now c.args.key.now c.args.file) + file_weight q f ≡ pair_count q c.args.self.now + file_weight q (option_map (λ _. c.args.file) f)) (sym (left c))
    (pair_count-with_moved q c.args.self.now c.args.key.now c.args.file)

pub invariant_of-self-2 : goal.invariant_of-self-2
invariant_of-self-2 c =
    let fits = counted-shown c.self.inside c.args.self.now c.args.key.now (Some c.in_ok-pair.pair.now.file) c.self.invariant c.self.view_is (left c) in
    sound-changed c.self.inside (after c) c.args.self.now _ (file_weight Rewrite (Some c.in_ok-pair.pair.now.file))
    (file_weight Rewrite (Some c.args.file)) c.self.invariant c.self.view_is (ordered c) (moved c) (omega (arith, fits)) (counts c Rewrite)

pub returns : goal.returns
returns c = record { after = moved c; moved = left c; counts = λ q. rw (moved c) (counts c q) }
