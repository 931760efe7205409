use Rattle.raft_recover.proofs.Common.{append-nil, ◌++◌, ◌<◌, ◌∷◌, [], List, length, take, sym, ap, ◌∙◌, append_assoc, subst, arith, take_all, Part, AreDivided, IsCutInto, item_taken}
use Rattle.raft_recover.proofs.ShareLemmas.{divided_more}
use Rattle.raft_recover.proofs.shares.append_cut_parts.Goals as goal

pub loop-part-init : goal.loop-part-init
loop-part-init c = λ these begun. subst (λ (l : List Part). AreDivided l c.args.to.now.items) (sym (append-nil these)) begun

pub loop-part-preserved : goal.loop-part-preserved
loop-part-preserved c = λ these begun.
    let part = c.part-item.result in
    let cut = c.in_ok-cut_part.ensures in
    let inside : c.loop-part.part-index < length c.deref-part-items.result.now = let t = c.loop-part-test.true in omega arith in
    let taken = item_taken c.deref-part-items.ensures.value inside c.part-item.is in
    let one : IsCutInto c.in_ok-clone.field-0 c.in_ok-cut_part.field-0.items = record { same = cut.same; bytes = cut.bytes; file = cut.file; some = cut.some } in
    divided_more (these ++ take c.loop-part.part-index c.args.from.now.items) _ c.loop-part.to.items c.append.new.self.items c.in_ok-cut_part.field-0.items part
    (c.loop-part.invariant these begun) (subst (λ (p : Part). IsCutInto p c.in_ok-cut_part.field-0.items) c.in_ok-clone.ensures.ok one)
    (ap (λ (l : List Part). these ++ l) taken ∙ sym (append_assoc these (take c.loop-part.part-index c.args.from.now.items) (part ∷ []))) c.in_ok-append.ensures.items

pub returns-clause-cut : goal.returns-clause-cut
returns-clause-cut c = λ these begun.
    let all = take_all c.loop-part.part-index c.args.from.now.items (let e = ap length c.deref-part-items.ensures.value in let t = c.loop-part-test.false in omega arith) in
    subst (λ (l : List Part). AreDivided (these ++ l) c.loop-part.to.items) all (c.loop-part.invariant these begun)
