-- What was read of the append queue, taken in over what was read of the rewrite queue, and what both queues give.
use Rattle.raft_contexts.proofs.Common.{entries-empty, ◌≡◌, ◌+◌, ℕ, List, [], ◌∷◌, length, refl, sym, ap, subst, ◌∙◌, inl, inr, arith, flat_map, nat_cmp, Error, Event, batches, IsReadingOfBoth, Context, IsExactFor, cleaned_in, AreOverlaid}
use Rattle.raft_contexts.proofs.Common.{kept_of, all_records, total, Tables, WaitingGroup, held_steps, waiting_steps, exact_reading, overlay_by_steps, total-none, Counts, Mark, kept_shown, Kept, AreOfBothQueues, IsOverlaidWith}
use Rattle.raft_contexts.proofs.Common.{IsOfBothExactly, IsMergeAppendFault, RecoverContext, reading_on, HasReadExactly, ContextStage, AreTooMany, Append, Rewrite}
use Rattle.std.specs.FinMap as finite
use Rattle.std.specs.FinSet as finset
use Rattle.raft_base.specs.declared.errors.Error.TheVariants as errors
use Rattle.raft_history.specs.Kept as numbers

-- ---- why it is refused

pub too_many : (c d : Context) (e : Error) → AreOfBothQueues c d → AreTooMany (all_records c.regions.tables + all_records d.regions.tables) e → IsMergeAppendFault (reading_on c) (reading_on d) e
too_many c d errors.Full queues h = (queues, h)
too_many c d errors.Memory queues h = tt
too_many c d _ queues h = absurd h

-- what was refused of states that read on is why the contexts are refused
pub append_fault : (s t : ContextStage) (c d : Context) (k l : Counts) (e : Error) → IsMergeAppendFault (reading_on c) (reading_on d) e →
    IsMergeAppendFault (record { stage = s; context = c; counts = k }) (record { stage = t; context = d; counts = l }) e
append_fault s t c d k l (errors.InvalidArgument text) h = h
append_fault s t c d k l errors.Full h = h
append_fault s t c d k l errors.Failed (inl h) = absurd (h refl)
append_fault s t c d k l errors.Failed (inr h) = absurd (h refl)
append_fault s t c d k l errors.Memory h = tt
append_fault s t c d k l _ h = absurd h

-- ---- what both queues give

none_cleaned : (h : List Event) → cleaned_in Rewrite h ≡ []
none_cleaned [] = refl
none_cleaned (e ∷ h) = none_cleaned h

pub reading_of_both : (c d : Context) (h g : List Event) (tables : Tables) → IsExactFor c h → IsExactFor d g → AreOfBothQueues c d → AreOverlaid d.regions c.regions.tables tables → IsReadingOfBoth h g tables d.cleaned
reading_of_both c d h g tables x y q o = record {
  rewritten = c.regions.tables;
  appended = d.regions.tables;
  rewrite_read = record { tables_read = exact_reading Rewrite c.regions (batches h) (x.regions Rewrite q.rewrite_suits); regions_cleaned = sym (none_cleaned h) };
  append_read = record { tables_read = exact_reading Append d.regions (batches g) (y.regions Append q.append_suits); regions_cleaned = (y.stands.stands Append q.append_suits).cleaned };
  overlaid = λ r. o r ∙ overlay_by_steps r d.regions (batches g) (finite.get c.regions.tables r) (y.regions Append q.append_suits);
}

pub of_both : (c d new : RecoverContext) (h g : List Event) → IsOverlaidWith d c new → HasReadExactly c h → HasReadExactly d g → IsOfBothExactly new h g
of_both c d new h g m a b = record {
  stage = m.after;
  reading = subst (λ l. IsReadingOfBoth h g new.context.regions.tables l) (sym (ap (λ (x : Context). x.cleaned) m.overlaid)) (reading_of_both c.context d.context h g new.context.regions.tables a.exact b.exact m.queues m.tables);
  no_marks = ap (λ (x : Context). x.regions.marks) m.overlaid;
  no_groups = ap (λ (x : Context). x.groups) m.overlaid;
}

pub nothing_kept : (c : RecoverContext) (h g : List Event) (k : Kept) → kept_shown k ≡ kept_of c.context → IsOfBothExactly c h g → (k.marks ≡ 0) × (k.deleted_keys ≡ 0) × (k.waiting_items ≡ 0)
nothing_kept c h g k e b = (
  omega (arith, ap (λ (n : numbers.Kept). n.marks) e, ap finite.len b.no_marks, ap finite.len b.no_groups, finite.len-empty nat_cmp Mark, finite.len-empty nat_cmp WaitingGroup),
  ap (λ (n : numbers.Kept). n.deleted_keys) e ∙ ap (total (λ (m : Mark). finset.len m.deleted)) b.no_marks ∙ total-none (λ (m : Mark). finset.len m.deleted),
  ap (λ (n : numbers.Kept). n.waiting_items) e ∙ ap waiting_steps b.no_groups ∙ ap (λ (es : List (ℕ × WaitingGroup)). length (flat_map (λ e. held_steps e.1) es)) (entries-empty finite.empty refl),
)
