-- What a recovery context shows of its fields, at each stage.
use Rattle.raft_contexts.proofs.Common.{◌≡◌, ◌∙◌, ◌+◌, ℕ, Some, sym, ap, subst, refl, Error, LogQueue, Event, taken_in, merged_with, AreMerged, AreOverlaid, kept_of, total, Mark, ContextStage, Reading, Overlaid, AreOfBothQueues}
use Rattle.raft_contexts.proofs.Common.{overlaid_with, IsOverlaidWith, IsMergeAppendFault, context_in, shown_with, ReadState, RecoverContext, reading_on, MayFollow, IsBatchTaken, IsBatchFault, AreNeighbors, IsMergedWith, IsNeighborFault}
use Rattle.std.specs.FinMap as finite
use Rattle.std.specs.FinSet as finset
use Rattle.raft_history.specs.Kept as numbers
use Rattle.raft_contexts.specs.declared.recover_context.MemTableRecoverContext.TheInside.{Inside}
use Rattle.raft_contexts.specs.RecoverContextView.{marks_at, recover_context_shown}
use Rattle.raft_contexts.proofs.ReadOverlayLemmas.{append_fault}
use Rattle.raft_contexts.proofs.RecoverContextLemmas.{batch_fault, neighbor_fault}

-- a context at a stage shows the region marks of that stage
shown_at : (t : ContextStage) (a : Inside) (s : RecoverContext) → recover_context_shown a ≡ s → a.stage ≡ t → record { stage = t; context = shown_with (marks_at t a.state) a.state; counts = a.state.regions.accessor.counts } ≡ s
shown_at t a s is e = ap (λ t. record { stage = t; context = shown_with (marks_at t a.state) a.state; counts = a.state.regions.accessor.counts }) (sym e) ∙ is

pub reading : (a : Inside) (s : RecoverContext) → recover_context_shown a ≡ s → a.stage ≡ Reading → record { stage = Reading; context = context_in a.state; counts = a.state.regions.accessor.counts } ≡ s
reading = shown_at Reading

pub batch_taken : (a : Inside) (old new : RecoverContext) (e : Event) → recover_context_shown a ≡ old → a.stage ≡ Reading → MayFollow (context_in a.state) e → taken_in (context_in a.state) e ≡ Some new.context →
    new.stage ≡ Reading → IsBatchTaken e old new
batch_taken a old new e is reads next taken after = subst (λ s. IsBatchTaken e s new) (reading a old is reads) record { before = refl; next = next; taken = taken; after = after }

pub neighbor_taken : (queue : LogQueue) (a b : Inside) (newer old new : RecoverContext) → recover_context_shown a ≡ old → a.stage ≡ Reading → recover_context_shown b ≡ newer → b.stage ≡ Reading →
    AreNeighbors queue (context_in a.state) (context_in b.state) → AreMerged queue (context_in a.state) (context_in b.state) new.context.regions →
    new.context ≡ merged_with (context_in a.state) (context_in b.state) new.context.regions → new.stage ≡ Reading → IsMergedWith queue newer old new
neighbor_taken queue a b newer old new is reads newer_is newer_reads n r m after =
    subst (λ s. IsMergedWith queue newer s new) (reading a old is reads)
    (subst (λ s. IsMergedWith queue s record { stage = Reading; context = context_in a.state; counts = a.state.regions.accessor.counts } new) (reading b newer newer_is newer_reads)
    record { older_before = refl; newer_before = refl; neighbors = n; regions = r; merged = m; after = after })

pub append_taken : (a b : Inside) (append old new : RecoverContext) → recover_context_shown a ≡ old → a.stage ≡ Reading → recover_context_shown b ≡ append → b.stage ≡ Reading → AreOfBothQueues (context_in a.state) (context_in b.state) →
    AreOverlaid (context_in b.state).regions (context_in a.state).regions.tables new.context.regions.tables → new.context ≡ overlaid_with (context_in a.state) (context_in b.state) new.context.regions.tables → new.stage ≡ Overlaid →
    IsOverlaidWith append old new
append_taken a b append old new is reads append_is append_reads q t o after =
    subst (λ s. IsOverlaidWith append s new) (reading a old is reads)
    (subst (λ s. IsOverlaidWith s record { stage = Reading; context = context_in a.state; counts = a.state.regions.accessor.counts } new) (reading b append append_is append_reads)
    record { rewrite_before = refl; append_before = refl; queues = q; tables = t; overlaid = o; after = after })

pub overlaid : (a : Inside) (s : RecoverContext) → recover_context_shown a ≡ s → a.stage ≡ Overlaid → record { stage = Overlaid; context = shown_with a.state.regions.marks a.state; counts = a.state.regions.accessor.counts } ≡ s
overlaid = shown_at Overlaid

-- ---- why a call is refused

pub batch_refused : (a : Inside) (old : RecoverContext) (e : Event) (x : Error) → recover_context_shown a ≡ old → a.stage ≡ Reading → IsBatchFault (reading_on (context_in a.state)) e x → IsBatchFault old e x
batch_refused a old e x is reads f = subst (λ s. IsBatchFault s e x) (reading a old is reads) (batch_fault Reading (context_in a.state) a.state.regions.accessor.counts e x f)

pub neighbor_refused : (queue : LogQueue) (a b : Inside) (old newer : RecoverContext) (x : Error) → recover_context_shown a ≡ old → a.stage ≡ Reading → recover_context_shown b ≡ newer → b.stage ≡ Reading →
    IsNeighborFault queue (reading_on (context_in a.state)) (reading_on (context_in b.state)) x → IsNeighborFault queue old newer x
neighbor_refused queue a b old newer x is reads newer_is newer_reads f =
    subst (λ s. IsNeighborFault queue s newer x) (reading a old is reads)
    (subst (λ s. IsNeighborFault queue record { stage = Reading; context = context_in a.state; counts = a.state.regions.accessor.counts } s x) (reading b newer newer_is newer_reads)
    (neighbor_fault queue Reading Reading (context_in a.state) (context_in b.state) a.state.regions.accessor.counts b.state.regions.accessor.counts x f))

pub append_refused : (a b : Inside) (old append : RecoverContext) (x : Error) → recover_context_shown a ≡ old → a.stage ≡ Reading → recover_context_shown b ≡ append → b.stage ≡ Reading →
    IsMergeAppendFault (reading_on (context_in a.state)) (reading_on (context_in b.state)) x → IsMergeAppendFault old append x
append_refused a b old append x is reads append_is append_reads f =
    subst (λ s. IsMergeAppendFault s append x) (reading a old is reads)
    (subst (λ s. IsMergeAppendFault record { stage = Reading; context = context_in a.state; counts = a.state.regions.accessor.counts } s x) (reading b append append_is append_reads)
    (append_fault Reading Reading (context_in a.state) (context_in b.state) a.state.regions.accessor.counts b.state.regions.accessor.counts x f))

-- what is kept, of region marks the kept ones alone
pub counted : (s : ReadState) (marks groups keys : ℕ) → marks ≡ finite.len s.regions.marks → groups ≡ finite.len s.groups → keys ≡ total (λ (m : Mark). finset.len m.deleted) s.regions.marks →
    ◌≡◌ {A = numbers.Kept} (record (kept_of (context_in s)) { marks = marks + groups; deleted_keys = keys }) (kept_of (shown_with s.regions.marks s))
counted s marks groups keys m g k = rw (m, g, k) refl
