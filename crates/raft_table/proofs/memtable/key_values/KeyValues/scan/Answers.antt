use Rattle.raft_table.proofs.Facts.{filter, map, reverse, refl, sym, ap, subst, ◌∙◌, option_copied, option_map, CalledAtTwo, VisitsUntilFalse, is_between, Entry, scanned-backwards, scanned-shown}
use Rattle.raft_table.proofs.KeyValueReads.{bytes_of}
use Rattle.raft_table.proofs.memtable.key_values.KeyValues.scan.Goals as goal

pub returns-then-not-is_forward : goal.returns-then-not-is_forward
returns-then-not-is_forward g c =
    (c.args.f, rw (scanned-backwards c.args.self.now (option_copied c.args.start) (option_copied c.args.end) c.args.reverse (sym c.is_forward.ensures ∙ c.if-not-is_forward.true)) refl)

pub returns-then-reverse : goal.returns-then-reverse
returns-then-reverse g c =
    let first = option_map (λ k. k.items) c.copy_or_keep_bound-first.result.0 in
    let past = option_map (λ k. k.items) c.copy_or_keep_bound-past.result.0 in
    let same = scanned-shown c.self.inside c.args.self.now (option_copied c.args.start) first (option_copied c.copy_or_keep_bound-first.result.1)
    (option_copied c.args.end) past (option_copied c.copy_or_keep_bound-past.result.1) c.self.invariant c.self.view_is c.copy_or_keep_bound-first.ensures
    c.copy_or_keep_bound-past.ensures in
    let all = ap (λ ps. reverse (map bytes_of (filter (λ (e : Entry). is_between (option_copied c.copy_or_keep_bound-first.result.1) (option_copied c.copy_or_keep_bound-past.result.1) e.0.items) ps))) c.pairs_in_range-pairs.ensures ∙ ap reverse same in
    (c.visit_backward.ensures.0, rw c.if-reverse.true (subst (λ ps. VisitsUntilFalse (CalledAtTwo g.F.FnMut) c.args.f ps c.visit_backward.ensures.0) all c.visit_backward.ensures.1))

pub returns : goal.returns
returns g c =
    let first = option_map (λ k. k.items) c.copy_or_keep_bound-first.result.0 in
    let past = option_map (λ k. k.items) c.copy_or_keep_bound-past.result.0 in
    let same = scanned-shown c.self.inside c.args.self.now (option_copied c.args.start) first (option_copied c.copy_or_keep_bound-first.result.1)
    (option_copied c.args.end) past (option_copied c.copy_or_keep_bound-past.result.1) c.self.invariant c.self.view_is c.copy_or_keep_bound-first.ensures
    c.copy_or_keep_bound-past.ensures in
    let all = ap (λ ps. map bytes_of (filter (λ (e : Entry). is_between (option_copied c.copy_or_keep_bound-first.result.1) (option_copied c.copy_or_keep_bound-past.result.1) e.0.items) ps)) c.pairs_in_range-pairs.ensures ∙ same in
    (c.visit_forward.ensures.0, rw c.if-reverse.false (subst (λ ps. VisitsUntilFalse (CalledAtTwo g.F.FnMut) c.args.f ps c.visit_forward.ensures.0) all c.visit_forward.ensures.1))
