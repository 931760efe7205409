use Rattle.raft_opening.proofs.Common.{◌∙◌, ap, inl, inr, refl, nil_from_length, err_from_is_err_and, FileId, Cut, Nothing, first_missing}
use Rattle.raft_opening.proofs.SizedLemmas.{last_long, last_only, last_part, no_file, sized_fault, sized_missing, the_last}
use Rattle.raft_opening.proofs.sized_files.find_missing.Goals as goal

pub returns-in_default-clause-ok : goal.returns-in_default-clause-ok
returns-in_default-clause-ok g c = λ files sized consecutive.
    let none = rw c.in_default.is at c.split_last.ensures.cases in
    first_missing c.args.queue c.args.version files c.args.mode consecutive (no_file (g.S.ReadFiles.gives c.args.source.now) c.args.queue c.args.version c.args.sizes.now files sized (nil_from_length c.args.sizes.now none))

pub returns-in_err-find_tail-clause-fault : goal.returns-in_err-find_tail-clause-fault
returns-in_err-find_tail-clause-fault g c = λ files sized.
    let split = (rw c.in-Some.is at c.split_last.ensures.cases).0 in
    let file = c.new-file.ensures ∙ ap (λ (id : FileId). record { id = id; version = c.args.version }) c.new.ensures in
    let gives = g.S.ReadFiles.gives c.args.source.now in
    let l = the_last gives c.args.queue c.args.version c.args.sizes.now files sized _ _ split in
    let part = last_part gives c.args.queue c.args.version c.args.sizes.now files sized _ _ split _ file in
    let long = last_long gives c.args.queue c.args.version c.args.sizes.now files sized _ _ split in
    let only = last_only gives c.args.queue c.args.version c.args.sizes.now files sized _ _ split _ file in
    let p = err_from_is_err_and c.from_residual.result c.from_residual.ensures.1 in
    rw (p.1, p.2)
    (λ other. elim (c.in_err-find_tail.ensures.fault l.file.1 long only other) [
      | inl f ↦ inl (sized_fault c.args.mode c.args.queue c.args.version files _ part _ f)
      | inr f ↦ inr f
    ])

pub returns-in-None-clause-ok : goal.returns-in-None-clause-ok
returns-in-None-clause-ok g c = λ files sized consecutive.
    let split = (rw c.in-Some.is at c.split_last.ensures.cases).0 in
    let file = c.new-file.ensures ∙ ap (λ (id : FileId). record { id = id; version = c.args.version }) c.new.ensures in
    let gives = g.S.ReadFiles.gives c.args.source.now in
    let l = the_last gives c.args.queue c.args.version c.args.sizes.now files sized _ _ split in
    let part = last_part gives c.args.queue c.args.version c.args.sizes.now files sized _ _ split _ file in
    let long = last_long gives c.args.queue c.args.version c.args.sizes.now files sized _ _ split in
    let only = last_only gives c.args.queue c.args.version c.args.sizes.now files sized _ _ split _ file in
    sized_missing c.args.mode c.args.queue c.args.version files _ part consecutive _ (c.in_ok-find_tail.ensures.ok l.file.1 long only) Nothing (inl (c.in-None.is, refl))

pub returns-in-Some-2-clause-ok : goal.returns-in-Some-2-clause-ok
returns-in-Some-2-clause-ok g c = λ files sized consecutive.
    let split = (rw c.in-Some.is at c.split_last.ensures.cases).0 in
    let file = c.new-file.ensures ∙ ap (λ (id : FileId). record { id = id; version = c.args.version }) c.new.ensures in
    let gives = g.S.ReadFiles.gives c.args.source.now in
    let l = the_last gives c.args.queue c.args.version c.args.sizes.now files sized _ _ split in
    let part = last_part gives c.args.queue c.args.version c.args.sizes.now files sized _ _ split _ file in
    let long = last_long gives c.args.queue c.args.version c.args.sizes.now files sized _ _ split in
    let only = last_only gives c.args.queue c.args.version c.args.sizes.now files sized _ _ split _ file in
    sized_missing c.args.mode c.args.queue c.args.version files _ part consecutive _ (c.in_ok-find_tail.ensures.ok l.file.1 long only) (Cut c.in-Some-2.tail) (inr (c.in-Some-2.tail, c.in-Some-2.is, refl))
