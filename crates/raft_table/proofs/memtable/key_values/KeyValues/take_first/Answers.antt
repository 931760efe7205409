use Rattle.raft_table.proofs.Facts.{◌≡◌, ◌∷◌, ◌-◌, arith, ap, ◌∙◌, refl, rules, pair_count, keys_shown, stored_of, Rewrite, len-shown, sound-changed, first-shown, pair_count-first}
use Rattle.raft_table.proofs.KeyValueReads.{none_left}
use Rattle.raft_table.specs.declared.memtable.key_values.KeyValues.TheInside.{Inside}
use Rattle.std.specs.FinMap as finite
use Rattle.raft_table.proofs.memtable.key_values.KeyValues.take_first.Goals as goal

pub returns-in_err-key-clause-none : goal.returns-in_err-key-clause-none
returns-in_err-key-clause-none c =
    let none : c.args.self.now ≡ finite.empty = finite.empty_of_len c.args.self.now
    (omega (
      arith,
      len-shown c.self.inside c.args.self.now c.self.invariant c.self.view_is,
      c.pop_first.ensures.len,
      none_left _ c.in_err-key.ensures.variant,
    )) in
    search rules

pub overflow_sub-self : goal.overflow_sub-self
overflow_sub-self c =
    let first = first-shown c.self.inside (record c.self.inside { pairs = c.pop_first.new.self; rewritten = 0 }) c.args.self.now c.in_ok-key.key
    c.in_ok-key.pair c.self.invariant c.self.view_is c.pop_first.ensures.ordered c.in_ok-key.ensures.removal in
    omega (arith, c.one_if_rewritten.ensures, pair_count-first Rewrite c.args.self.now _ _ _ first, c.self.invariant.counted, ap (pair_count Rewrite) c.self.view_is)

abbrev after : goal.After-self-1 → Inside
after c = record c.self.inside { pairs = c.pop_first.new.self; rewritten = c.self.inside.rewritten - c.one_if_rewritten.result }

first : (c : goal.After-self-1) → finite.entries c.args.self.now ≡ (c.in_ok-key.key.items, stored_of c.in_ok-key.pair) ∷ finite.entries (keys_shown (after c))
first c = first-shown c.self.inside (after c) c.args.self.now c.in_ok-key.key c.in_ok-key.pair c.self.invariant c.self.view_is c.pop_first.ensures.ordered c.in_ok-key.ensures.removal

pub invariant_of-self-2 : goal.invariant_of-self-2
invariant_of-self-2 c =
    let counts = pair_count-first Rewrite c.args.self.now (keys_shown (after c)) _ _ (first c) in
    let before = c.self.invariant.counted ∙ ap (pair_count Rewrite) c.self.view_is in
    sound-changed c.self.inside (after c) c.args.self.now (keys_shown (after c)) c.one_if_rewritten.result 0 c.self.invariant c.self.view_is
    c.pop_first.ensures.ordered refl (omega (arith, c.one_if_rewritten.ensures, counts, before)) (omega (arith, c.one_if_rewritten.ensures, counts))

pub returns-clause-first : goal.returns-clause-first
returns-clause-first c = first c
