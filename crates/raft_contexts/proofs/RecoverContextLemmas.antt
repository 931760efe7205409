-- Recovery contexts and the histories that they stand for.
use Rattle.raft_contexts.proofs.Common.{◌≡◌, ◌≢◌, ℕ, List, [], ◌∷◌, ◌++◌, Result, refl, sym, ap, subst, ◌∙◌, inl, inr, arith, Error, LogQueue, Counts, false≢true, Event, batches, Context, new_context, Suits, files_of, follows, StandsFor}
use Rattle.raft_contexts.proofs.Common.{IsExactFor, IsSmall, Sound, Apart, IsOfQueue, IsOneReading, Merges, exact_reading, regions_stand, regions_exact, regions_unsound, new_exact, follow_files, size-append, size-one, of_front, of_back}
use Rattle.raft_contexts.proofs.Common.{taken_stands, taken_exact, taken_none, next_sound, kept_of, kept_by, IsAtMost, Tables, kept_at_most, IsOfHistory, RecoverContext, HasRead, HasReadExactly, IsBatchTaken, reading_on, IsBatchFault}
use Rattle.raft_contexts.proofs.Common.{AreNeighbors, IsMergedWith, IsNeighborFault, ContextStage, IfErr, OnOk, on_ok_weaker, IfErr-weaker, Reading}
use Rattle.raft_base.specs.declared.errors.Error.TheVariants as errors
use Rattle.raft_contexts.proofs.LiveSteps.{live-le-all}
use Rattle.raft_contexts.proofs.ReadStateLemmas.{completed_records, next_of}

pub on_ok : {X E P Q : Type 0} (r : Result X E) → (P → Q) → OnOk r P → OnOk r Q
on_ok r f p = on_ok_weaker r f p

pub on_err : {X E : Type 0} {P Q : E → Type 0} (r : Result X E) → ((e : E) → P e → Q e) → IfErr r P → IfErr r Q
on_err r f p = IfErr-weaker r _ _ f p

pub new_read : IsOfHistory new_context
new_read = record { history = []; stands = new_exact.stands; alone = tt; steps = tt }

pub new_reads_as : (c : Context) (k : Counts) → c ≡ new_context → HasReadExactly (record { stage = Reading; context = c; counts = k }) []
new_reads_as c k e = record { stage = refl; exact = subst (λ c. IsExactFor c []) (sym e) new_exact }

pub replay_stands : (c d : RecoverContext) (h : List Event) (e : Event) → IsBatchTaken e c d → HasRead c h → HasRead d (h ++ e ∷ [])
replay_stands c d h e t r = record { stage = t.after; stands = taken_stands c.context d.context h e (next_of c.context e t.next) r.stands t.taken }

pub replay_exact : (c d : RecoverContext) (h : List Event) (e : Event) → IsBatchTaken e c d → HasReadExactly c h → HasReadExactly d (h ++ e ∷ [])
replay_exact c d h e t r = record { stage = t.after; exact = taken_exact c.context d.context h e (next_of c.context e t.next) r.exact t.taken }

pub replay_unsound : (c : RecoverContext) (h : List Event) (e : Event) → IsSmall (h ++ e ∷ []) → HasRead c h → (x : Error) → x ≢ errors.Memory → IsBatchFault c e x → Sound (h ++ e ∷ []) → ⊥
replay_unsound c h e small r (errors.Corruption text) k (inl unfit) sound = let n = next_sound c.context h e r.stands sound in unfit record { queue = n.suits; files = n.follows; items = n.in_file; markers = n.status }
replay_unsound c h e small r (errors.Corruption text) k (inr none) sound = taken_none c.context h e (next_sound c.context h e r.stands sound) r.stands none sound
replay_unsound c h e small r errors.Full k full sound = omega (arith, full.1, live-le-all e.file.queue c.context.regions.tables, completed_records c.context e, small.few, r.stands.few, size-append h (e ∷ []), size-one e)
replay_unsound c h e small r errors.Failed k stage sound = stage r.stage
replay_unsound c h e small r errors.Memory k f sound = k refl
replay_unsound c h e small r _ k f sound = f

-- what a context says of the batch that it reads on with
pub batch_fault : (s : ContextStage) (c : Context) (k : Counts) (e : Event) (x : Error) → IsBatchFault (reading_on c) e x → IsBatchFault (record { stage = s; context = c; counts = k }) e x
batch_fault s c k e (errors.Corruption text) f = f
batch_fault s c k e errors.Full f = f
batch_fault s c k e errors.Failed f = absurd (f refl)
batch_fault s c k e errors.Memory f = f
batch_fault s c k e _ f = absurd f

merges : (q : LogQueue) (c d : Context) (h g : List Event) → AreNeighbors q c d → StandsFor c h → StandsFor d g → Merges q c d h g
merges q c d h g n a b = record { older_suits = n.older; newer_suits = n.newer; older = a; newer = b }

pub merge_stands : (q : LogQueue) (c d new : RecoverContext) (h g : List Event) → IsMergedWith q d c new → HasRead c h → HasRead d g → HasRead new (h ++ g)
merge_stands q c d new h g m a b = record {
  stage = m.after;
  stands = subst (λ x. StandsFor x (h ++ g)) (sym m.merged) (regions_stand q c.context d.context h g new.context.regions (merges q c.context d.context h g m.neighbors a.stands b.stands) m.neighbors.files m.regions);
}

pub merge_exact : (q : LogQueue) (c d new : RecoverContext) (h g : List Event) → Apart (h ++ g) → IsMergedWith q d c new → HasReadExactly c h → HasReadExactly d g → HasReadExactly new (h ++ g)
merge_exact q c d new h g apart m a b = record {
  stage = m.after;
  exact = subst (λ x. IsExactFor x (h ++ g)) (sym m.merged)
      (regions_exact q c.context d.context h g new.context.regions (merges q c.context d.context h g m.neighbors a.exact.stands b.exact.stands)
      a.exact b.exact apart.each m.neighbors.files m.regions);
}

pub suits_of : (q : LogQueue) (h : List Event) → IsOfQueue q h → Suits q (files_of h)
suits_of q [] o = tt
suits_of q (e ∷ h) o = o.each.0

neighbors : (q : LogQueue) (c d : Context) (h g : List Event) → IsOfQueue q (h ++ g) → StandsFor c h → StandsFor d g → Sound (h ++ g) → AreNeighbors q c d
neighbors q c d h g o a b sound = record {
  older = subst (Suits q) (sym a.files) (suits_of q h (of_front q h g o));
  newer = subst (Suits q) (sym b.files) (suits_of q g (of_back q h g o));
  files = ap (λ x. follows x d.files) a.files ∙ ap (follows (files_of h)) b.files ∙ follow_files sound.queue h g sound.sound.files;
}

pub merge_unsound : (q : LogQueue) (c d : RecoverContext) (h g : List Event) → IsSmall (h ++ g) → IsOfQueue q (h ++ g) → HasRead c h → HasRead d g → (x : Error) → x ≢ errors.Memory → IsNeighborFault q c d x → Sound (h ++ g) → ⊥
merge_unsound q c d h g small o a b (errors.InvalidArgument text) k other sound = let n = neighbors q c.context d.context h g o a.stands b.stands sound in other (n.older, n.newer)
merge_unsound q c d h g small o a b (errors.Corruption text) k (both, inl files) sound = false≢true (sym files ∙ (neighbors q c.context d.context h g o a.stands b.stands sound).files)
merge_unsound q c d h g small o a b (errors.Corruption text) k (both, inr refused) sound = regions_unsound q c.context d.context h g
    (merges q c.context d.context h g (neighbors q c.context d.context h g o a.stands b.stands sound) a.stands b.stands) refused sound
merge_unsound q c d h g small o a b errors.Full k full sound = omega (arith, full.1, small.few, a.stands.few, b.stands.few, size-append h g)
merge_unsound q c d h g small o a b errors.Failed k (inl stage) sound = stage a.stage
merge_unsound q c d h g small o a b errors.Failed k (inr stage) sound = stage b.stage
merge_unsound q c d h g small o a b errors.Memory k f sound = k refl
merge_unsound q c d h g small o a b _ k f sound = f

-- what a context says of the neighbor that it reads on with
pub neighbor_fault : (q : LogQueue) (s t : ContextStage) (c d : Context) (k l : Counts) (x : Error) →
    IsNeighborFault q (reading_on c) (reading_on d) x → IsNeighborFault q (record { stage = s; context = c; counts = k })
    (record { stage = t; context = d; counts = l }) x
neighbor_fault q s t c d k l (errors.InvalidArgument text) f = f
neighbor_fault q s t c d k l (errors.Corruption text) f = f
neighbor_fault q s t c d k l errors.Full f = f
neighbor_fault q s t c d k l errors.Failed (inl f) = absurd (f refl)
neighbor_fault q s t c d k l errors.Failed (inr f) = absurd (f refl)
neighbor_fault q s t c d k l errors.Memory f = f
neighbor_fault q s t c d k l _ f = absurd f

pub one_reading : (q : LogQueue) (c : RecoverContext) (h : List Event) → HasReadExactly c h → Suits q c.context.files → IsOneReading q h c.context.regions.tables c.context.cleaned
one_reading q c h r u = record { tables_read = exact_reading q c.context.regions (batches h) (r.exact.regions q u); regions_cleaned = (r.exact.stands.stands q u).cleaned }

pub keeps_little : (q : LogQueue) (c : RecoverContext) (h : List Event) (tables : Tables) (cleaned : List ℕ) → HasReadExactly c h →
    Suits q c.context.files → IsOneReading q h tables cleaned → IsAtMost (kept_of c.context) (kept_by q h tables)
keeps_little q c h tables cleaned r u one = kept_at_most q c.context h tables cleaned r.exact u one
