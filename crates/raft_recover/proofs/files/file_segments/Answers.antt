use Rattle.raft_recover.proofs.Common.{◌≡◌, ℕ, List, Vec, map, ap, ◌∙◌, subst, arith, length-map, Global, FileId, whole_file, file_shown}
use Rattle.raft_recover.proofs.FileLemmas.{AreBegun, file_one_more, same_read, segments_are_of, as_many, all_begun}
use Rattle.raft_recover.proofs.files.file_segments.Goals as goal

pub loop-seq-preserved : goal.loop-seq-preserved
loop-seq-preserved c =
    let file : ℕ × Vec ℕ Global = (c.in-Some.seq, c.in-Some.bytes) in
    let left = c.next.new.self.rest.items in
    let files = map file_shown c.args.files.items in
    let segments = c.loop-seq.segments.items in
    let part = c.in_ok-whole.whole in
    let is : part ≡ whole_file c.args.queue c.args.version (file_shown file) =
    c.in_ok-whole.ensures.ok ∙ ap (λ (id : FileId). record { id = id; version = c.args.version; offset = 0; bytes = c.in-Some.bytes.items }) c.new.ensures in
    let before = subst (λ (l : List (ℕ × Vec ℕ Global)). AreBegun c.args.queue c.args.version files (map file_shown l) segments) c.in-Some.ensures.steps.0 c.loop-seq.invariant in
    file_one_more c.args.queue c.args.version files (map file_shown left) (file_shown file) segments c.push.new.self.items c.in_ok-vec.field-0 part before is c.in_ok-vec.ensures.items c.in_ok-push.ensures.items

pub returns-clause-whole : goal.returns-clause-whole
returns-clause-whole c =
    all_begun c.args.queue c.args.version (map file_shown c.args.files.items) c.loop-seq.seq-iterator.rest.items c.loop-seq.segments.items
    (omega (arith, c.in-None.ensures.steps.0, c.loop-seq.seq-iterator.rest.ok.0)) c.loop-seq.invariant

pub returns-clause-same : goal.returns-clause-same
returns-clause-same c = same_read c.args.queue c.args.version _ c.loop-seq.segments.items (returns-clause-whole c)

pub returns-clause-of_queue : goal.returns-clause-of_queue
returns-clause-of_queue c = segments_are_of c.args.queue c.args.version _ c.loop-seq.segments.items (returns-clause-whole c)

pub returns-clause-count : goal.returns-clause-count
returns-clause-count c = as_many c.args.queue c.args.version _ c.loop-seq.segments.items (returns-clause-whole c) ∙ length-map c.args.files.items file_shown
