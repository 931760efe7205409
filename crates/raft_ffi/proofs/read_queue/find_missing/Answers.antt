use Rattle.std.proofs.Common.{◌∙◌, ap, inl, inr}
use Rattle.std.proofs.lemmas.List.{nil_from_length}
use Rattle.std.proofs.lemmas.Result.{err_from_is_err_and}
use Rattle.raft_base.specs.declared.pipe_log.FileId.{FileId}
use Rattle.raft_opening.proofs.SizedLemmas.{sized_fault}
use Rattle.raft_ffi.proofs.ReadLemmas.{first_left, front_read, is_last, last_read, torn_left, whole_left}
use Rattle.raft_ffi.proofs.read_queue.find_missing.Goals as goal

pub returns-in_default-clause-ok : goal.returns-in_default-clause-ok
returns-in_default-clause-ok c = λ files read are up consecutive.
    let none = rw c.in_default.is at c.split_last.ensures.cases in
    first_left c.args.mode c.args.queue c.args.version c.args.rest.now files read up c.args.sizes.now are (nil_from_length c.args.sizes.now none) consecutive

pub returns-in_err-tail_of_rest-clause-fault : goal.returns-in_err-tail_of_rest-clause-fault
returns-in_err-tail_of_rest-clause-fault c = λ files read are up.
    let split = (rw c.in-Some.is at c.split_last.ensures.cases).0 in
    let file = c.new-file.ensures ∙ ap (λ (id : FileId). record { id = id; version = c.args.version }) c.new.ensures in
    let last = last_read c.args.mode c.args.queue c.args.version c.args.rest.now files read up c.args.sizes.now _ _ are split _ file in
    let front = front_read c.args.mode c.args.queue c.args.version c.args.rest.now files read up c.args.sizes.now _ _ are split _ file in
    let part = is_last c.args.mode c.args.queue c.args.version c.args.rest.now files read up c.args.sizes.now _ _ are split _ file in
    let p = err_from_is_err_and c.from_residual.result c.from_residual.ensures.1 in
    rw (p.1, p.2)
    (λ other. elim (c.in_err-tail_of_rest.ensures.fault last.front front other) [
      | inl f ↦ inl (sized_fault c.args.mode c.args.queue c.args.version files _ part _ f)
      | inr on ↦ inr on
    ])

pub returns-in-None-clause-ok : goal.returns-in-None-clause-ok
returns-in-None-clause-ok c = λ files read are up consecutive.
    let split = (rw c.in-Some.is at c.split_last.ensures.cases).0 in
    let file = c.new-file.ensures ∙ ap (λ (id : FileId). record { id = id; version = c.args.version }) c.new.ensures in
    let last = last_read c.args.mode c.args.queue c.args.version c.args.rest.now files read up c.args.sizes.now _ _ are split _ file in
    let front = front_read c.args.mode c.args.queue c.args.version c.args.rest.now files read up c.args.sizes.now _ _ are split _ file in
    whole_left c.args.mode c.args.queue c.args.version c.args.rest.now files read up c.args.sizes.now _ _ are split _ file consecutive _ c.in-None.is (c.in_ok-tail_of_rest.ensures.ok last.front front)

pub returns-in-Some-2-clause-ok : goal.returns-in-Some-2-clause-ok
returns-in-Some-2-clause-ok c = λ files read are up consecutive.
    let split = (rw c.in-Some.is at c.split_last.ensures.cases).0 in
    let file = c.new-file.ensures ∙ ap (λ (id : FileId). record { id = id; version = c.args.version }) c.new.ensures in
    let last = last_read c.args.mode c.args.queue c.args.version c.args.rest.now files read up c.args.sizes.now _ _ are split _ file in
    let front = front_read c.args.mode c.args.queue c.args.version c.args.rest.now files read up c.args.sizes.now _ _ are split _ file in
    torn_left c.args.mode c.args.queue c.args.version c.args.rest.now files read up c.args.sizes.now _ _ are split _ file consecutive _ c.in-Some-2.tail c.in-Some-2.is (c.in_ok-tail_of_rest.ensures.ok last.front front)
