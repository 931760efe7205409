use Rattle.raft_engine.proofs.Common.{List, ap, ◌∙◌, FileId}
use Rattle.raft_engine.proofs.FoundQueueLemmas.{first_whole}
use Rattle.raft_engine.proofs.found_queue.add_first_segment.Goals as goal

pub returns-clause-ok : goal.returns-clause-ok
returns-clause-ok c =
    first_whole c.args.queue c.args.version c.args.segments.now.items c.push.new.self.items c.in_ok-vec.field-0 c.in_ok-first.first c.in_ok-push.ensures.items c.in_ok-vec.ensures.items
    (c.in_ok-first.ensures.ok ∙ ap (λ (id : FileId). record { id = id; version = c.args.version; offset = 0; bytes = c.new-bytes.result.items }) c.new-id.ensures
    ∙ ap (λ (bytes : List _). record { id = record { queue = c.args.queue; seq = 1 }; version = c.args.version; offset = 0; bytes = bytes }) c.new-bytes.ensures.items)
