use Rattle.raft_ffi.proofs.Common.{nil_from_length, ◌≡◌, ◌∙◌, ℕ, [], Option, Some, None, ap, refl, sym, slice_cmp, nat_cmp, moving_pairs, Keys, Stored, pairs_shown, table_of}
use Rattle.std.specs.FinMap as finite
use Rattle.raft_ffi.proofs.pair_calls.copy_moving_pairs.Goals as goal

none_moves : (gate : Option ℕ) (keys : Keys) → finite.entries keys ≡ [] → [] ≡ moving_pairs gate keys
none_moves None keys none = rw none refl
none_moves (Some gate) keys none = rw none refl

pub returns-in-None-clause-ok : goal.returns-in-None-clause-ok
returns-in-None-clause-ok c =
    let none : finite.entries (table_of c.args.region None).keys ≡ [] = nil_from_length _ (sym (finite.len-entries finite.empty) ∙ finite.len-empty (slice_cmp nat_cmp) Stored) in
    ap pairs_shown c.new.ensures.items ∙ none_moves c.args.gate _ none ∙ ap (λ t. moving_pairs c.args.gate (table_of c.args.region t).keys) c.in-None.ensures.value
