use Rattle.raft_contexts.proofs.Common.{length, refl, ap, arith, with_item, joined_at}
use Rattle.raft_contexts.proofs.RegionMarksLemmas.{all_slots, kept-same, kept-in, ok-in, one_joined}
use Rattle.raft_contexts.proofs.region_marks.RegionMarks.join.Goals as goal

pub index_mut-requires : goal.index_mut-requires
index_mut-requires c = omega (arith, c.slot_of.ensures.bound, ap length c.in_ok-fill_missing_slots.ensures.ok, all_slots c.self.inside.slots.items c.self.invariant.all)

pub invariant_of-self : goal.invariant_of-self
invariant_of-self c = kept-same c.self.inside (record c.self.inside { slots = c.fill_missing_slots.new.slots }) c.self.invariant c.in_err-fill_missing_slots.ensures.err

pub invariant_of-self-2 : goal.invariant_of-self-2
invariant_of-self-2 c =
    kept-in c.self.inside (record c.self.inside { slots = with_item c.fill_missing_slots.new.slots c.slot_of.result c.join.new.self }) c.fill_missing_slots.new.slots.items c.slot_of.result c.index_mut.result.now c.join.new.self c.self.invariant
    record { made = c.in_ok-fill_missing_slots.ensures.ok; bound = c.slot_of.ensures.bound; lent = c.index_mut.ensures.value; set = refl } c.args.id c.slot_of.ensures.value (one_joined _ _ c.args.id c.join.ensures.others)

pub returns : goal.returns
returns c =
    record {
      ok = ok-in c.self.inside (record c.self.inside { slots = with_item c.fill_missing_slots.new.slots c.slot_of.result c.join.new.self }) c.fill_missing_slots.new.slots.items c.slot_of.result c.index_mut.result.now c.join.new.self c.self.invariant
          record { made = c.in_ok-fill_missing_slots.ensures.ok; bound = c.slot_of.ensures.bound; lent = c.index_mut.ensures.value; set = refl } c.args.id
          c.slot_of.ensures.value c.args.self.now c.self.view_is c.join.result (λ m. joined_at c.args.queue c.args.end_at_reach m c.args.newer)
          c.join.ensures.ok;
    }
