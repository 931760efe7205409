use Rattle.raft_recover.proofs.Common.{List, Vec, take, refl, sym, ap, ◌∙◌, subst, arith, Global, take_all, Part, parts_within, AreDivided, item_taken}
use Rattle.raft_recover.proofs.ShareLemmas.{within_push}
use Rattle.raft_recover.proofs.shares.cut_long_parts.Goals as goal

pub loop-segment-preserved : goal.loop-segment-preserved
loop-segment-preserved c =
    let front = take c.loop-segment.segment-index c.args.segments.now in
    let taken = item_taken {xs = c.args.segments.now} {ys = c.args.segments.now} {i = c.loop-segment.segment-index} {x = c.segment-item.result} refl (let t = c.loop-segment-test.true in omega arith) c.segment-item.is in
    subst (λ (l : List Part). AreDivided l c.append_cut_parts.new.to.items) (sym (ap parts_within taken ∙ within_push front c.segment-item.result))
    (c.in_ok-append_cut_parts.ensures.cut (parts_within front) c.loop-segment.invariant)

pub returns-clause-cut : goal.returns-clause-cut
returns-clause-cut c =
    let all = take_all c.loop-segment.segment-index c.args.segments.now (let t = c.loop-segment-test.false in omega arith) in
    subst (λ (l : List (Vec Part Global)). AreDivided (parts_within l) c.loop-segment.parts.items) all c.loop-segment.invariant
