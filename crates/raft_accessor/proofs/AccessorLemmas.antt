-- Calls of one slot, seen as calls of the accessor.
use Rattle.raft_accessor.proofs.Common.{on_ok_weaker, on_err_weaker, Memory, ◌≡◌, ◌⊎◌, ◌<◌, ◌++◌, ℕ, List, [], ◌∷◌, Option, Some, None, Result, Ok, Err, refl, sym, ap, subst, ◌∙◌, slice_index_or, slice_set, append_assoc, append-nil, IsTrue}
use Rattle.raft_accessor.proofs.Common.{option_and_then, is_some, OnOk, OnErr, IfErr, Error, Item, LogQueue, Tables, with_table, cleaned_by_steps, Counts, live, Step, table_of, after_step, IsUnmixed, counts_after_step, IsStepFault, Table}
use Rattle.raft_accessor.proofs.Common.{IsRecounted, Accessor, slot_of, table_in, live_in_all, IsTableChanged, IsWritten, together, accessor_shown, IsAccessorKept, IsItemWritten, IsMergedAt, IsTableMerged, IsStepTaken, BecomesOutcome}
use Rattle.raft_accessor.proofs.Common.{Writing, queue_of, after_content, counts_after_content, after_items, AreCountsAfterItems, listed_by, listed_by_items, IsFor, MixesQueues, NoneMixesQueues, IsWriteFault, AreWritten, AreItemsRefused}
use Rattle.raft_accessor.proofs.Common.{empty_table, with_item, IsCounted}
use Rattle.std.specs.FinMap as finite
use Rattle.raft_accessor.specs.declared.accessor.MemTableAccessor.TheInside.{Inside}
use Rattle.raft_accessor.proofs.LiveLemmas.{table-counted}
use Rattle.std.proofs.lemmas.List.Concat.{flat_map-append}
use Rattle.raft_history.proofs.EffectLemmas.{each-append}
use Rattle.raft_accessor.proofs.MapLemmas.{get_gone, with_own, with_same, some_is}
use Rattle.raft_accessor.proofs.SlotLemmas.{get-shown, IsChanged, shown-changed, kept-changed}

-- a region's table in its slot, which was lent, is counted
pub slot-counts : {a : Inside} {i : ℕ} {d : Tables} (id : ℕ) → IsAccessorKept a → i ≡ slot_of id → i < 128 → d ≡ slice_index_or a.slots.items i d → IsCounted (table_in d id) a.stats
slot-counts {a} {i} {d} id kept e lt lent =
    subst (λ t. IsCounted t a.stats) (ap (table_of id) (get-shown a (accessor_shown a) id i d kept refl e lt lent)) (table-counted (together a.slots.items) a.stats id kept.counted)

abbrev pub with_slot : Inside → ℕ → Tables → Counts → Inside
with_slot a i slot counts = record a { slots = with_item a.slots i slot; stats = counts }

-- a call of a region's slot changed that region alone, in what contracts see of the accessor
pub record AtSlot (a b : Inside) (r : Accessor) (id i : ℕ) (d slot : Tables) : Type 0 where
  pub kept : IsAccessorKept a
  pub is : accessor_shown a ≡ r
  pub at : i ≡ slot_of id
  pub bound : i < 128
  pub lent : d ≡ slice_index_or a.slots.items i d
  pub slots : b.slots.items ≡ slice_set a.slots.items i slot
  pub one : slot ≡ with_table d id (finite.get slot id)
  pub recounted : IsRecounted (table_in d id) (table_in slot id) a.stats b.stats

pub at-slot : {a b : Inside} {r : Accessor} {id i : ℕ} {d slot : Tables} → IsAccessorKept a → accessor_shown a ≡ r → i ≡ slot_of id → i < 128 → d ≡ slice_index_or a.slots.items i d →
    b.slots.items ≡ slice_set a.slots.items i slot → slot ≡ with_table d id (finite.get slot id) → IsRecounted (table_in d id) (table_in slot id) a.stats b.stats → AtSlot a b r id i d slot
at-slot kept is at bound lent slots one recounted = record { kept = kept; is = is; at = at; bound = bound; lent = lent; slots = slots; one = one; recounted = recounted }

-- a call that took the region's table away
pub at-gone : {a b : Inside} {r : Accessor} {id i : ℕ} {d slot : Tables} → IsAccessorKept a → accessor_shown a ≡ r → i ≡ slot_of id → i < 128 → d ≡ slice_index_or a.slots.items i d →
    b.slots.items ≡ slice_set a.slots.items i slot → slot ≡ finite.remove d id → IsRecounted (table_in d id) (empty_table id) a.stats b.stats → AtSlot a b r id i d slot
at-gone {a} {b} {r} {id} {i} {d} {slot} kept is at bound lent slots gone recounted =
    let none : finite.get slot id ≡ None = ap (λ m. finite.get m id) gone ∙ get_gone d id in
    at-slot kept is at bound lent slots (gone ∙ ap (with_table d id) (sym none)) (subst (λ o. IsRecounted (table_in d id) (table_of id o) a.stats b.stats) (sym none) recounted)

module _ {a b : Inside} {r : Accessor} {id i : ℕ} {d slot : Tables} (h : AtSlot a b r id i d slot) where
  changed : IsChanged a b id i d (finite.get slot id)
  changed = record { at = h.at; bound = h.bound; lent = h.lent; slots = h.slots ∙ ap (slice_set a.slots.items i) h.one; counts = h.recounted }

  pub kept-at : IsAccessorKept b
  kept-at = kept-changed a b id i d (finite.get slot id) h.kept changed

  was : finite.get r.tables id ≡ finite.get d id
  was = get-shown a r id i d h.kept h.is h.at h.bound h.lent

  pub tables-at : together b.slots.items ≡ with_table r.tables id (finite.get slot id)
  tables-at = shown-changed a b r id i d (finite.get slot id) h.kept h.is changed

  now : finite.get (together b.slots.items) id ≡ finite.get slot id
  now = ap (λ m. finite.get m id) tables-at ∙ with_own r.tables id (finite.get slot id)

  pub alone-at : together b.slots.items ≡ with_table r.tables id (finite.get (together b.slots.items) id)
  alone-at = tables-at ∙ ap (with_table r.tables id) (sym now)

  -- what is so of the region's table before and after, and of the counts before
  pub moved-at : (P : Option Table → Option Table → Counts → Type 0) → P (finite.get d id) (finite.get slot id) a.stats → P (finite.get r.tables id) (finite.get (together b.slots.items) id) r.counts
  moved-at P p =
      subst (λ o. P o (finite.get (together b.slots.items) id) r.counts) (sym was)
      (subst (λ o. P (finite.get d id) o r.counts) (sym now) (subst (P (finite.get d id) (finite.get slot id)) (ap (λ (x : Accessor). x.counts) h.is) p))

  pub unchanged-at : slot ≡ d → together b.slots.items ≡ r.tables
  unchanged-at e = tables-at ∙ ap (with_table r.tables id) (ap (λ m. finite.get m id) e ∙ sym was) ∙ with_same r.tables id

  -- a change of a table
  pub changed-at : {R : Type 0} (outcome : Table → Option Table) (IsFault : Table → Counts → Error → Type 0) (res : Result R Error) → BecomesOutcome (outcome (table_in d id)) (IsFault (table_in d id) a.stats) d id a.stats res slot b.stats
      → b.cleaned.items ≡ a.cleaned.items → IsTableChanged (outcome (table_in r.tables id)) (IsFault (table_in r.tables id) r.counts) id res r (accessor_shown b)
  changed-at outcome IsFault res t l = record {
    ok = moved-at (λ o p k. OnOk res (outcome (table_of id o) ≡ Some (table_of id p))) t.ok;
    others = on_ok_weaker res (λ e. alone-at ∙ ap (with_table r.tables id) e) (moved-at (λ o p k. OnOk res (p ≡ Some (table_of id p))) t.there);
    err = on_err_weaker res unchanged-at t.err;
    counts_err = moved-at (λ o p k. OnErr res (b.stats ≡ k)) t.counts_err;
    fault = moved-at (λ o p k. IfErr res (λ e. (e ≡ Memory) ⊎ IsFault (table_of id o) k e)) t.fault;
    cleaned = l ∙ ap (λ (x : Accessor). x.cleaned) h.is;
  }

  -- a step on a region's table
  pub step-at : (q : LogQueue) (s : Step) (res : Result Unit Error) → IsStepTaken q id s d a.stats a.cleaned.items res slot b.stats b.cleaned.items →
      IsStepTaken q id s r.tables r.counts r.cleaned res (together b.slots.items) b.stats b.cleaned.items
  step-at q s res t =
      let list : a.cleaned.items ≡ r.cleaned = ap (λ (x : Accessor). x.cleaned) h.is in
      record {
        ok = moved-at (λ o p k. OnOk res (after_step q (table_of id o) s ≡ Some p)) t.ok;
        accepted = moved-at (λ o p k. OnOk res (IsUnmixed q (table_of id o) s)) t.accepted;
        counts_ok = moved-at (λ o p k. OnOk res (b.stats ≡ counts_after_step q (table_of id o) s k)) t.counts_ok;
        cleaned = subst (λ l. OnOk res (b.cleaned.items ≡ l ++ cleaned_by_steps q (record { region = id; step = s } ∷ []))) list t.cleaned;
        err = on_err_weaker res unchanged-at t.err;
        counts_err = moved-at (λ o p k. OnErr res (b.stats ≡ k)) t.counts_err;
        cleaned_err = subst (λ l. OnErr res (b.cleaned.items ≡ l)) list t.cleaned_err;
        fault = moved-at (λ o p k. IfErr res (λ e. (e ≡ Memory) ⊎ IsStepFault q (table_of id o) k s e)) t.fault;
        one = alone-at;
        recounted = moved-at (λ o p k. IsRecounted (table_of id o) (table_of id p) k b.stats) h.recounted;
      }

  -- a merge of a table
  pub merged-at : {R : Type 0} {IsFault : Error → Type 0} (merge : Table → Table → Option Table) (newer : Table) (res : Result R Error) → IsTableMerged (merge (table_in d id) newer) IsFault d id a.stats res slot b.stats
      → OnOk res (IsMergedAt merge id (finite.get r.tables id) (Some newer) (finite.get (together b.slots.items) id))
  merged-at merge newer (Err x) t = tt
  merged-at merge newer (Ok x) t = moved-at (λ o p k. IsMergedAt merge id o (Some newer) p) (t.ok ∙ sym t.there, subst (λ o. IsTrue (is_some o)) (sym t.there) refl)

-- an item written to its region's table
pub written-at : {a b : Inside} {r : Accessor} {i : ℕ} {d slot : Tables} (item : Item) → AtSlot a b r item.raft_group_id i d slot → (w : Writing) (res : Result Unit Error) →
    IsItemWritten w item d a.stats a.cleaned.items res slot b.stats b.cleaned.items → IsWritten w item res r (accessor_shown b)
written-at {a} {b} {r} {i} {d} {slot} item h w res t =
    let id = item.raft_group_id in
    let list : a.cleaned.items ≡ r.cleaned = ap (λ (x : Accessor). x.cleaned) h.is in
    record {
      ok = elim res as (λ res. IsItemWritten w item d a.stats a.cleaned.items res slot b.stats b.cleaned.items → OnOk res (AreWritten w (item ∷ []) r (accessor_shown b))) [
        | Ok x ↦ λ t. record {
          asked = (t.asked, tt);
          accepted = (moved-at h (λ o p k. MixesQueues w (table_of id o) item.content → ⊥) t.accepted, λ u e. tt);
          tables = ap (option_and_then (λ o. Some (with_table r.tables id o))) (moved-at h (λ o p k. after_content w id o item.content ≡ Some p) t.ok) ∙ ap Some (sym (alone-at h));
          cleaned = t.cleaned ∙ ap (λ l. l ++ listed_by w item) list ∙ ap (λ l. r.cleaned ++ l) (sym (append-nil (listed_by w item)));
          counts = λ u e. moved-at h (λ o p k. b.stats ≡ counts_after_content w (table_of id o) item.content k) t.counts_ok;
        }
        | Err x ↦ λ t. tt
      ] t;
      err = on_err_weaker res (unchanged-at h) t.err;
      counts_err = moved-at h (λ o p k. OnErr res (b.stats ≡ k)) t.counts_err;
      cleaned = subst (λ l. OnErr res (b.cleaned.items ≡ l)) list t.cleaned_err;
      fault = subst (λ n. IfErr res (IsWriteFault w id (finite.get r.tables id) n item.content)) (h.kept.counted (queue_of w) ∙ ap (λ (x : Accessor). live_in_all (queue_of w) x.tables) h.is)
          (moved-at h (λ o p k. IfErr res (IsWriteFault w id o (live (queue_of w) a.stats) item.content)) t.fault);
    }

-- ---- items in order

after_items-append : (w : Writing) (m : Tables) (xs ys : List Item) → after_items w m (xs ++ ys) ≡ option_and_then (λ n. after_items w n ys) (after_items w m xs)
after_items-append w m [] ys = refl
after_items-append w m (x ∷ xs) ys =
    elim (after_content w x.raft_group_id (finite.get m x.raft_group_id) x.content)
    as (λ o. option_and_then (λ t. after_items w (with_table m x.raft_group_id t) (xs ++ ys)) o ≡ option_and_then (λ n. after_items w n ys)
    (option_and_then (λ t. after_items w (with_table m x.raft_group_id t) xs) o)) [
      | None ↦ refl
      | Some t ↦ after_items-append w (with_table m x.raft_group_id t) xs ys
    ]

none-append : (w : Writing) (xs ys : List Item) (m n : Tables) → NoneMixesQueues w m xs → after_items w m xs ≡ Some n → NoneMixesQueues w n ys → NoneMixesQueues w m (xs ++ ys)
none-append w [] ys m n g e h = subst (λ k. NoneMixesQueues w k ys) (sym (some_is e)) h
none-append w (x ∷ xs) ys m n g e h = (
  g.0,
  λ t is. none-append w xs ys (with_table m x.raft_group_id t) n (g.1 t is) (subst (λ o. option_and_then (λ t. after_items w (with_table m x.raft_group_id t) xs) o ≡ Some n) is e) h,
)

counted-append : (w : Writing) (xs ys : List Item) (m n : Tables) (i j k : Counts) → AreCountsAfterItems w m xs i j → after_items w m xs ≡ Some n → AreCountsAfterItems w n ys j k → AreCountsAfterItems w m (xs ++ ys) i k
counted-append w [] ys m n i j k g e h = subst (λ c. AreCountsAfterItems w m ys c k) g (subst (λ t. AreCountsAfterItems w t ys j k) (sym (some_is e)) h)
counted-append w (x ∷ xs) ys m n i j k g e h =
    λ t is. counted-append w xs ys (with_table m x.raft_group_id t) n (counts_after_content w (table_in m x.raft_group_id) x.content i) j k (g t is)
    (subst (λ o. option_and_then (λ t. after_items w (with_table m x.raft_group_id t) xs) o ≡ Some n) is e) h

pub written_append : (w : Writing) (xs ys : List Item) (a b c : Accessor) → AreWritten w xs a b → AreWritten w ys b c → AreWritten w (xs ++ ys) a c
written_append w xs ys a b c g h = record {
  asked = each-append (λ (item : Item). IsFor w item.content) xs ys g.asked h.asked;
  accepted = none-append w xs ys a.tables b.tables g.accepted g.tables h.accepted;
  tables = after_items-append w a.tables xs ys ∙ ap (option_and_then (λ n. after_items w n ys)) g.tables ∙ h.tables;
  cleaned = h.cleaned ∙ ap (λ l. l ++ listed_by_items w ys) g.cleaned ∙ append_assoc a.cleaned (listed_by_items w xs) (listed_by_items w ys) ∙ ap (λ l. a.cleaned ++ l) (sym (flat_map-append (listed_by w) xs ys));
  counts = counted-append w xs ys a.tables b.tables a.counts b.counts c.counts g.counts g.tables h.counts;
}

written_same : (w : Writing) (xs : List Item) (a b c : Accessor) → AreWritten w xs a b → c.tables ≡ b.tables → c.cleaned ≡ b.cleaned → c.counts ≡ b.counts → AreWritten w xs a c
written_same w xs a b c h e f k = record {
  asked = h.asked;
  accepted = h.accepted;
  tables = h.tables ∙ ap Some (sym e);
  cleaned = f ∙ h.cleaned;
  counts = subst (λ n. AreCountsAfterItems w a.tables xs a.counts n) (sym k) h.counts;
}

-- the last item is refused
pub refused_last : (w : Writing) (front : List Item) (item : Item) (all : List Item) (a b c : Accessor) (e : Error) → all ≡ front ++ item ∷ [] → AreWritten w front a b → c.tables ≡ b.tables → c.cleaned ≡ b.cleaned → c.counts ≡ b.counts
    → IsWriteFault w item.raft_group_id (finite.get b.tables item.raft_group_id) (live_in_all (queue_of w) b.tables) item.content e → AreItemsRefused w all a c e
refused_last w front item all a b c e split h t l k f = record {
  front = front;
  item = item;
  split = split;
  written = written_same w front a b c h t l k;
  fault = subst (λ m. IsWriteFault w item.raft_group_id (finite.get m item.raft_group_id) (live_in_all (queue_of w) m) item.content e) (sym t) f;
}
