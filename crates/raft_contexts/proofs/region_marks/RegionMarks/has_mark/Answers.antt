use Rattle.raft_contexts.proofs.Common.{slice_index_or, sym, ap, ◌∙◌, arith, is_some, get-together}
use Rattle.std.specs.FinMap as finite
use Rattle.raft_contexts.proofs.RegionMarksLemmas.{full, none_without}
use Rattle.raft_contexts.proofs.region_marks.RegionMarks.has_mark.Goals as goal

pub returns-then-is_empty : goal.returns-then-is_empty
returns-then-is_empty c = ap is_some (sym (none_without c.self.inside c.args.self.now c.args.id c.self.inside.slots.len c.self.view_is (λ e. omega (arith, e, c.self.inside.slots.ok.0)) c.if-is_empty.ensures))

pub index-requires : goal.index-requires
index-requires c = omega (arith, c.slot_of.ensures.bound, full c.self.inside.slots.items c.self.inside.slots.len c.self.invariant.all (λ e. omega (arith, e, c.self.inside.slots.ok.0)) c.if-is_empty.ensures, c.self.inside.slots.ok.0)

pub returns : goal.returns
returns c =
    let all = full c.self.inside.slots.items c.self.inside.slots.len c.self.invariant.all (λ e. omega (arith, e, c.self.inside.slots.ok.0)) c.if-is_empty.ensures in
    c.has_mark.ensures ∙ ap is_some (ap (λ m. finite.get m c.args.id) c.index.ensures ∙ ap (λ i. finite.get (slice_index_or c.self.inside.slots.items i c.index.result.now) c.args.id) c.slot_of.ensures.value
    ∙ sym (get-together c.self.inside.slots.items c.args.id c.index.result.now c.self.invariant.slots (omega (arith, all, c.slot_of.ensures.bound, c.slot_of.ensures.value)))
    ∙ ap (λ m. finite.get m c.args.id) c.self.view_is)
