-- Items that are written to the tables behind others.
use Rattle.raft_engine.proofs.Common.{◌≡◌, List, [], ◌∷◌, ◌++◌, Some, None, refl, sym, ap, ◌∙◌, subst, append_assoc, AllByRecursion, option_and_then, Item, Tables, with_table, Counts, table_of, Accessor, AreCountsAfterItems, AreWritten, IsFor, NoneMixesQueues, Writing}
use Rattle.raft_engine.proofs.Common.{after_content, after_items, counts_after_content, listed_by, listed_by_items}
use Rattle.std.specs.FinMap as finite

some_is : {A : Type 0} {x y : A} → Some x ≡ Some y → x ≡ y
some_is e = cc

after_both : (w : Writing) (m : Tables) (xs ys : List Item)
    → after_items w m (xs ++ ys) ≡ option_and_then (λ n. after_items w n ys) (after_items w m xs)
after_both w m [] ys = refl
after_both w m (x ∷ xs) ys =
    elim (after_content w x.raft_group_id (finite.get m x.raft_group_id) x.content) as
    (λ o. option_and_then (λ t. after_items w (with_table m x.raft_group_id t) (xs ++ ys)) o
    ≡ option_and_then (λ n. after_items w n ys) (option_and_then (λ t. after_items w (with_table m x.raft_group_id t) xs) o)) [
      | None ↦ refl
      | Some t ↦ after_both w (with_table m x.raft_group_id t) xs ys
    ]

listed_both : (w : Writing) (xs ys : List Item)
    → listed_by_items w (xs ++ ys) ≡ listed_by_items w xs ++ listed_by_items w ys
listed_both w [] ys = refl
listed_both w (x ∷ xs) ys = ap (λ l. listed_by w x ++ l) (listed_both w xs ys) ∙ sym (append_assoc (listed_by w x) (listed_by_items w xs) (listed_by_items w ys))

asked_both : (w : Writing) (xs ys : List Item) → AllByRecursion (λ (item : Item). IsFor w item.content) xs
    → AllByRecursion (λ (item : Item). IsFor w item.content) ys
    → AllByRecursion (λ (item : Item). IsFor w item.content) (xs ++ ys)
asked_both w [] ys g h = h
asked_both w (x ∷ xs) ys g h = (g.0, asked_both w xs ys g.1 h)

none_both : (w : Writing) (xs ys : List Item) (m n : Tables) → NoneMixesQueues w m xs → after_items w m xs ≡ Some n
    → NoneMixesQueues w n ys → NoneMixesQueues w m (xs ++ ys)
none_both w [] ys m n g e h = subst (λ k. NoneMixesQueues w k ys) (sym (some_is e)) h
none_both w (x ∷ xs) ys m n g e h = (
  g.0,
  λ t is. none_both w xs ys (with_table m x.raft_group_id t) n (g.1 t is) (subst (λ o. option_and_then (λ t. after_items w (with_table m x.raft_group_id t) xs) o ≡ Some n) is e) h,
)

counted_both : (w : Writing) (xs ys : List Item) (m n : Tables) (i j k : Counts) → AreCountsAfterItems w m xs i j
    → after_items w m xs ≡ Some n → AreCountsAfterItems w n ys j k → AreCountsAfterItems w m (xs ++ ys) i k
counted_both w [] ys m n i j k g e h = subst (λ c. AreCountsAfterItems w m ys c k) g (subst (λ t. AreCountsAfterItems w t ys j k) (sym (some_is e)) h)
counted_both w (x ∷ xs) ys m n i j k g e h =
    λ t is. counted_both w xs ys (with_table m x.raft_group_id t) n (counts_after_content w (table_of x.raft_group_id (finite.get m x.raft_group_id)) x.content i) j k (g t is)
    (subst (λ o. option_and_then (λ t. after_items w (with_table m x.raft_group_id t) xs) o ≡ Some n) is e) h

pub written_append : (w : Writing) (xs ys : List Item) (a b c : Accessor) → AreWritten w xs a b → AreWritten w ys b c
    → AreWritten w (xs ++ ys) a c
written_append w xs ys a b c g h = record {
  asked = asked_both w xs ys g.asked h.asked;
  accepted = none_both w xs ys a.tables b.tables g.accepted g.tables h.accepted;
  tables = after_both w a.tables xs ys ∙ ap (option_and_then (λ n. after_items w n ys)) g.tables ∙ h.tables;
  cleaned = h.cleaned ∙ ap (λ l. l ++ listed_by_items w ys) g.cleaned ∙ append_assoc a.cleaned (listed_by_items w xs) (listed_by_items w ys) ∙ ap (λ l. a.cleaned ++ l) (sym (listed_both w xs ys));
  counts = counted_both w xs ys a.tables b.tables a.counts b.counts c.counts g.counts g.tables h.counts;
}
