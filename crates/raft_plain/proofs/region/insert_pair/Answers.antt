use Rattle.raft_plain.proofs.Common.{◌∙◌, keys_shown}
use Rattle.std.specs.FinMap as finite
use Rattle.raft_plain.proofs.PairLemmas.{key_put}
use Rattle.raft_plain.proofs.region.insert_pair.Goals as goal

pub returns : goal.returns
returns c =
    let key = c.in_ok-key.ensures.items ∙ c.as_slice.ensures.value in
    let value = c.in_ok-value.ensures.items ∙ c.as_slice-2.ensures.value in
    key_put c.args.keys.entries c.insert.new.self.entries c.in_ok-key.key _ c.insert.ensures.was_ordered c.insert.ensures.ordered c.in_ok-insert.ensures.entries
    ∙ (λ i. finite.insert (keys_shown c.args.keys) (key i) (record { value = value i; file = c.args.file }))
