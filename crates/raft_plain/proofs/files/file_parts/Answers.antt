use Rattle.raft_plain.proofs.Common.{◌≡◌, ℕ, List, Vec, map, ap, ◌∙◌, subst, arith, Global, FileId, whole_file, file_shown}
use Rattle.raft_plain.proofs.FileLemmas.{AreBegun, all_begun, file_one_more}
use Rattle.raft_plain.proofs.files.file_parts.Goals as goal

pub loop-seq-preserved : goal.loop-seq-preserved
loop-seq-preserved c =
    let file : ℕ × Vec ℕ Global = (c.in-Some.seq, c.in-Some.bytes) in
    let files = map file_shown c.args.files.items in
    let part = c.in_ok-new.field-0 in
    let is : part ≡ whole_file c.args.queue c.args.version (file_shown file) =
    c.in_ok-new.ensures.ok ∙ ap (λ (id : FileId). record { id = id; version = c.args.version; offset = 0; bytes = c.in-Some.bytes.items }) c.new.ensures in
    let before = subst (λ (l : List (ℕ × Vec ℕ Global)). AreBegun c.args.queue c.args.version files (map file_shown l) c.loop-seq.parts.items) c.in-Some.ensures.steps.0 c.loop-seq.invariant in
    file_one_more c.args.queue c.args.version files (map file_shown c.next.new.self.rest.items) (file_shown file) c.loop-seq.parts.items c.push.new.self.items part before is c.in_ok-push.ensures.items

pub returns-clause-ok : goal.returns-clause-ok
returns-clause-ok c =
    all_begun c.args.queue c.args.version (map file_shown c.args.files.items) c.loop-seq.seq-iterator.rest.items c.loop-seq.parts.items
    (omega (arith, c.in-None.ensures.steps.0, c.loop-seq.seq-iterator.rest.ok.0)) c.loop-seq.invariant
