use Rattle.raft_recover.proofs.Common.{◌∙◌, ℕ, List, length, drop, ap, sym, subst, length-map, HasHeader, item_of, batch_header}
use Rattle.raft_recover.proofs.ScanLemmas.{header_room, batch_is_found}
use Rattle.raft_recover.proofs.scan.batch_finding.Goals as goal

pub unreachable-requires : goal.unreachable-requires
unreachable-requires c =
    let none = rw c.in_default.is at c.read_batch_header.ensures.none in
    subst (λ (xs : List ℕ). (offset len : ℕ) → HasHeader xs offset len → ⊥) (c.split_at.ensures.back ∙ ap (drop c.args.at) c.bytes.ensures) none _ _
    (batch_header c.args.part.now c.args.at c.args.batch.now c.args.next c.requires)

pub block_state-requires-clause-header : goal.block_state-requires-clause-header
block_state-requires-clause-header c =
    let left = c.split_at.ensures.back ∙ ap (drop c.args.at) c.bytes.ensures in
    let header = subst (λ (xs : List ℕ). HasHeader xs c.in-Some.items_at c.in-Some.len) left c.in-Some.ensures.some in
    (header_room c.args.part.now c.args.at c.in-Some.items_at c.in-Some.len c.args.batch.now c.args.next header c.requires).0

pub block_state-requires-clause-inside : goal.block_state-requires-clause-inside
block_state-requires-clause-inside c =
    let left = c.split_at.ensures.back ∙ ap (drop c.args.at) c.bytes.ensures in
    let header = subst (λ (xs : List ℕ). HasHeader xs c.in-Some.items_at c.in-Some.len) left c.in-Some.ensures.some in
    (header_room c.args.part.now c.args.at c.in-Some.items_at c.in-Some.len c.args.batch.now c.args.next header c.requires).1

pub returns : goal.returns
returns c =
    let left = c.split_at.ensures.back ∙ ap (drop c.args.at) c.bytes.ensures in
    let header = subst (λ (xs : List ℕ). HasHeader xs c.in-Some.items_at c.in-Some.len) left c.in-Some.ensures.some in
    batch_is_found c.args.part.now c.args.at c.in-Some.items_at c.in-Some.len _ c.block_state.result c.args.batch.now c.args.next header c.requires
    (ap length c.as_slice.ensures.value ∙ sym (length-map _ item_of) ∙ ap length c.iter.ensures) c.block_state.ensures
