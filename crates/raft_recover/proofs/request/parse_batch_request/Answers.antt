use Rattle.raft_recover.proofs.Common.{◌≡◌, ◌∷◌, [], map, string_bytes, ap, IfSome_then}
use Rattle.raft_recover.proofs.RequestLemmas.{four_items, none_then, same_text, asks_batch, asks_no_batch}
use Rattle.raft_recover.proofs.request.parse_batch_request.Goals as goal

four_words : (c : goal.After-parse_file_context) → map string_bytes c.args.words.now ≡ c.as_str.result.now ∷ c.as_str-2.result.now ∷ c.as_str-3.result.now ∷ c.as_str-4.result.now ∷ []
four_words c =
    let items = four_items c.args.words.now c.command-item.result c.queue-item.result c.seq-item.result c.version-item.result c.in-len4.len_at_least c.in-len4.len_below c.command-item.is c.queue-item.is c.seq-item.is c.version-item.is in
    rw (c.as_str.ensures.value, c.as_str-2.ensures.value, c.as_str-3.ensures.value, c.as_str-4.ensures.value) (ap (map string_bytes) items)

pub returns-clause-asked : goal.returns-clause-asked
returns-clause-asked c =
    IfSome_then c.parse_file_context.result c.parse_file_context.ensures.named
    (λ context named. asks_batch _ c.as_str.result.now c.as_str-2.result.now c.as_str-3.result.now c.as_str-4.result.now context (four_words c)
    (same_text _ _ c.if-ne.ensures) named)

pub returns-clause-refused : goal.returns-clause-refused
returns-clause-refused c =
    none_then c.parse_file_context.result c.parse_file_context.ensures.refused (asks_no_batch _ c.as_str.result.now c.as_str-2.result.now c.as_str-3.result.now c.as_str-4.result.now (four_words c))
