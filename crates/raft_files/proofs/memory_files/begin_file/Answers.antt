use Rattle.raft_files.proofs.Common.{◌≡◌, ◌-◌, ◌<◌, ◌≤◌, length, arith, sym, subst, None, Some, slice_get}
use Rattle.raft_files.proofs.LastLemmas.{above, next_above, next_of_none}
use Rattle.raft_files.proofs.memory_files.begin_file.Goals as goal
use Rattle.raft_files.proofs.memory_files.begin_file.Goals.{in-Some+else-last-seq, in_default}

pub returns-then-last-seq-clause-fault : goal.returns-then-last-seq-clause-fault
returns-then-last-seq-clause-fault c = λ next.
    let is : slice_get c.args.files.now.items (length c.args.files.now.items - 1) ≡ Some c.in-Some.last.now = subst (λ xs. slice_get xs (length xs - 1) ≡ Some c.in-Some.last.now) c.deref.ensures.value (sym c.in-Some.ensures.value) in
    let lt : c.in-Some.last.now.0 < c.args.seq = above c.args.files.now.items c.in-Some.last.now c.args.seq is next in
    let le : c.args.seq ≤ c.in-Some.last.now.0 = c.if-last-seq.true in
    absurd (omega (arith, lt, le))

pub returns-clause-accepted : goal.returns-clause-accepted
returns-clause-accepted c = elim c.match-last.branch [
  | in-Some+else-last-seq w ↦
      let is : slice_get c.args.files.now.items (length c.args.files.now.items - 1) ≡ Some w.in-Some.last.now = subst (λ xs. slice_get xs (length xs - 1) ≡ Some w.in-Some.last.now) c.deref.ensures.value (sym w.in-Some.ensures.value) in
      next_above c.args.files.now.items w.in-Some.last.now c.args.seq is (omega (arith, w.if-last-seq.false))
  | in_default w ↦
      next_of_none c.args.files.now.items c.args.seq (subst (λ xs. slice_get xs (length xs - 1) ≡ None) c.deref.ensures.value (sym (rw w.in_default.is at c.last.ensures.value)))
]
