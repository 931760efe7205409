use Rattle.raft_contexts.proofs.Common.{◌≡◌, Some, Mark, fresh}
use Rattle.std.specs.FinSet as finset
use Rattle.raft_contexts.proofs.region_marks.small_mark.find_only_run.Goals as goal

pub returns-in-None-None-eq0 : goal.returns-in-None-None-eq0
returns-in-None-None-eq0 c =
    let m : Mark = c.args.mark.now in
    let none : m.deleted ≡ finset.empty = finset.empty_of_len m.deleted (cc) in
    let same : ◌≡◌ {A = Mark} (record {
      cleaned = m.cleaned;
      reach = m.reach;
      reach_floor = m.reach_floor;
      reach_cut = m.reach_cut;
      barred = m.barred;
      floor = m.floor;
      cut = m.cut;
      deleted = m.deleted;
    }) (record fresh { reach = Some c.in-Some-Some.reach; cut = Some c.in-Some-Some.reach }) = cc in
    same
