use Rattle.raft_recover.proofs.Common.{◌≡◌, ℕ, List, Vec, Bool, true, ◌&&◌, map, string_bytes, sym, ap, ◌∙◌, subst, arith, Global, FileId, Part, whole_file, IsScanned}
use Rattle.raft_recover.specs.AskedRequests.{file_shown}
use Rattle.raft_recover.proofs.ScanRequestLemmas.{AreBegun, none_scanned, file_scanned, all_files_scanned}
use Rattle.raft_recover.proofs.scan_program.append_scans.Goals.{In_ok-undamaged}
use Rattle.raft_recover.proofs.scan_program.append_scans.Goals.at as at
use Rattle.raft_recover.proofs.scan_program.append_scans.Goals as goal

pub loop-seq-init : goal.loop-seq-init
loop-seq-init c =
    let left_is : c.into_iter-seq-iterator.result.rest.items ≡ c.args.files.items = search in
    subst (λ (l : List (ℕ × Vec ℕ Global)). AreBegun c.args.scan.now.past_damage c.args.scan.now.queue c.args.scan.now.version (map file_shown c.args.files.items) (map file_shown l)
    (string_bytes c.args.text.now) (string_bytes c.args.text.now) true) (sym left_is)
    (none_scanned c.args.scan.now.past_damage c.args.scan.now.queue c.args.scan.now.version (map file_shown c.args.files.items) (string_bytes c.args.text.now))

-- with one file more the scans go on
goes_on : (c : In_ok-undamaged) (all : Bool) → all ≡ (c.loop-seq.all_undamaged && c.in_ok-undamaged.undamaged)
    → AreBegun c.args.scan.now.past_damage c.args.scan.now.queue c.args.scan.now.version (map file_shown c.args.files.items) (map file_shown c.next.new.self.rest.items)
    (string_bytes c.args.text.now) (string_bytes c.append_scan.new.text) all
goes_on c =
    let file : ℕ × Vec ℕ Global = (c.in-Some.seq, c.in-Some.bytes) in
    let is : c.in_ok-part.part ≡ whole_file c.args.scan.now.queue c.args.scan.now.version (file_shown file) =
    c.in_ok-part.ensures.ok ∙ ap (λ (id : FileId). record { id = id; version = c.args.scan.now.version; offset = 0; bytes = c.in-Some.bytes.items }) c.new.ensures in
    let before = subst (λ (l : List (ℕ × Vec ℕ Global)). AreBegun c.args.scan.now.past_damage c.args.scan.now.queue c.args.scan.now.version (map file_shown c.args.files.items)
    (map file_shown l) (string_bytes c.args.text.now) (string_bytes c.loop-seq.text) c.loop-seq.all_undamaged) c.in-Some.ensures.steps.0
    c.loop-seq.invariant in
    let found = c.in_ok-undamaged.ensures.ok in
    let scanned = subst (λ (p : Part). IsScanned c.args.scan.now.past_damage p c.in_ok-undamaged.undamaged found.0) is found.2 in
    λ all is_all. subst (λ (b : Bool). AreBegun c.args.scan.now.past_damage c.args.scan.now.queue c.args.scan.now.version (map file_shown c.args.files.items)
    (map file_shown c.next.new.self.rest.items) (string_bytes c.args.text.now) (string_bytes c.append_scan.new.text) b) (sym is_all)
    (file_scanned c.args.scan.now.past_damage c.args.scan.now.queue c.args.scan.now.version (map file_shown c.args.files.items) (map file_shown c.next.new.self.rest.items)
    (file_shown file) (string_bytes c.args.text.now) (string_bytes c.loop-seq.text) _ found.0 c.loop-seq.all_undamaged c.in_ok-undamaged.undamaged
    before found.1 scanned)

pub loop-seq-preserved : goal.loop-seq-preserved
loop-seq-preserved c = goes_on (at.loop-seq-preserved c).In_ok-undamaged c.are_both_true-all_undamaged.result c.are_both_true-all_undamaged.ensures

pub loop-seq-preserved-in_ok-undamaged : goal.loop-seq-preserved-in_ok-undamaged
loop-seq-preserved-in_ok-undamaged c =
    goes_on (at.loop-seq-preserved-in_ok-undamaged c).In_ok-undamaged c.are_both_true-all_undamaged.result c.are_both_true-all_undamaged.ensures

pub returns-clause-ok : goal.returns-clause-ok
returns-clause-ok c =
    all_files_scanned c.args.scan.now.past_damage c.args.scan.now.queue c.args.scan.now.version c.args.files.items c.loop-seq.seq-iterator.rest.items (string_bytes c.args.text.now) (string_bytes c.loop-seq.text) c.loop-seq.all_undamaged
    (omega (arith, c.in-None.ensures.steps.0, c.loop-seq.seq-iterator.rest.ok.0)) c.loop-seq.invariant
