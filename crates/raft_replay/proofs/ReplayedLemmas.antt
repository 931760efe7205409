-- What a machine has replayed: nothing yet, more, and the same in other words.
use Rattle.raft_replay.proofs.Common.{List, [], ◌++◌, sym, subst, append_assoc, append-nil, Event, IsSmall, small_front, HasReplayed}

module _ {M : Type 0} (stands_for stands_exactly : M → List Event → Type 0) where
  pub none_replayed : (IsRead : List Event → Type 0) (m : M) → IsRead [] → HasReplayed IsRead stands_for stands_exactly m m
  none_replayed IsRead m none = record {
    history = [];
    held = none;
    stands = λ h small stood. subst (stands_for m) (sym (append-nil h)) stood;
    exact = λ h small stood. subst (stands_exactly m) (sym (append-nil h)) stood;
  }

  -- what stands after one history and then after another stands after both
  after_both : (Stood Stands Now : List Event → Type 0) (f g : List Event) → ((h : List Event) → IsSmall (h ++ f) → Stood h → Stands (h ++ f))
      → ((h : List Event) → IsSmall (h ++ g) → Stands h → Now (h ++ g)) → (h : List Event) → IsSmall (h ++ (f ++ g)) → Stood h → Now (h ++ (f ++ g))
  after_both Stood Stands Now f g first second h small stood =
      let few = subst IsSmall (sym (append_assoc h f g)) small in
      subst Now (append_assoc h f g) (second (h ++ f) few (first h (small_front (h ++ f) g few) stood))

  pub replayed_more : (First Next Both : List Event → Type 0) (old mid new : M) (r : HasReplayed First stands_for stands_exactly old mid) (s : HasReplayed Next stands_for stands_exactly mid new)
      → Both (r.history ++ s.history) → HasReplayed Both stands_for stands_exactly old new
  replayed_more First Next Both old mid new r s held = record {
    history = r.history ++ s.history;
    held = held;
    stands = after_both (stands_for old) (stands_for mid) (stands_for new) r.history s.history r.stands s.stands;
    exact = after_both (stands_exactly old) (stands_exactly mid) (stands_exactly new) r.history s.history r.exact s.exact;
  }

  pub replayed_as : (These Those : List Event → Type 0) (old new : M) → ((h : List Event) → These h → Those h)
      → HasReplayed These stands_for stands_exactly old new → HasReplayed Those stands_for stands_exactly old new
  replayed_as These Those old new same r = record { history = r.history; held = same r.history r.held; stands = r.stands; exact = r.exact }
