use Rattle.raft_table.proofs.Facts.{◌≡◌, ◌+◌, ◌-◌, Some, arith, sym, ◌∙◌, LogQueue, keys_shown, pair_count, file_weight, file_at, Rewrite, shown-insert, sound-changed, rewritten-le-len, file-shown, counted-shown}
use Rattle.raft_table.proofs.Facts.{pair_count-insert}
use Rattle.raft_table.specs.declared.memtable.key_values.KeyValues.TheInside.{Inside}
use Rattle.std.specs.FinMap as finite
use Rattle.raft_table.proofs.memtable.key_values.KeyValues.insert.Goals as goal

pub prove-unreachable-requires : goal.prove-unreachable-requires
prove-unreachable-requires c = omega (arith, rewritten-le-len c.self.inside c.self.invariant)

pub overflow_sub-self : goal.overflow_sub-self
overflow_sub-self c =
    let replaced = c.file_of_pair-replaced.ensures ∙ sym (file-shown c.self.inside c.args.self.now c.args.key.items _ c.self.invariant c.self.view_is c.in_ok-insert.ensures.old) in
    omega (arith, counted-shown c.self.inside c.args.self.now c.args.key.items _ c.self.invariant c.self.view_is replaced)

abbrev after : goal.After-self-1 → Inside
after c = record c.self.inside { pairs = c.insert.new.self; rewritten = c.self.inside.rewritten - c.one_if_rewritten.result + c.one_if_rewritten-2.result }

replaced : (c : goal.After-self-1) → c.file_of_pair-replaced.result ≡ file_at c.args.self.now c.args.key.items
replaced c = c.file_of_pair-replaced.ensures ∙ sym (file-shown c.self.inside c.args.self.now c.args.key.items _ c.self.invariant c.self.view_is c.in_ok-insert.ensures.old)

put : (c : goal.After-self-1) → keys_shown (after c) ≡ finite.insert c.args.self.now c.args.key.items (record { value = c.args.value.items; file = c.args.file })
put c = shown-insert c.self.inside (after c) c.args.self.now c.args.key (record { value = c.args.value; file = c.args.file }) c.self.invariant c.self.view_is c.insert.ensures.ordered c.in_ok-insert.ensures.entries

counts : (c : goal.After-self-1) (q : LogQueue) →
    pair_count q (finite.insert c.args.self.now c.args.key.items (record { value = c.args.value.items; file = c.args.file })) + file_weight q
    c.file_of_pair-replaced.result ≡ pair_count q c.args.self.now + file_weight q (Some c.args.file)
counts c q = rw (replaced c) (pair_count-insert q c.args.self.now c.args.key.items c.args.value.items c.args.file)

pub invariant_of-self-2 : goal.invariant_of-self-2
invariant_of-self-2 c =
    let fits = counted-shown c.self.inside c.args.self.now c.args.key.items c.file_of_pair-replaced.result c.self.invariant c.self.view_is (replaced c) in
    sound-changed c.self.inside (after c) c.args.self.now _ _ _ c.self.invariant c.self.view_is c.insert.ensures.ordered (put c) (omega (arith, fits)) (counts c Rewrite)

pub returns : goal.returns
returns c = record { ok = put c; replaced = replaced c; counts = λ q. rw (put c) (counts c q); err = tt }
