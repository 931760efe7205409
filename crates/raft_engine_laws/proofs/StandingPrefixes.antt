-- What may stand is a prefix of what was written, with all that was synced.
use Rattle.raft_engine_laws.proofs.Common.{◌≡◌, ◌⊎◌, List, [], ◌∷◌, ◌++◌, inl, inr, refl, sym, ap, ◌∙◌, append-nil, append_assoc, Event, Deed, Write, Sync, Delete, Crash, written, synced, MayStand}

-- ---- lists

abbrev first_or : Event → List Event → Event
first_or e [] = e
first_or e (x ∷ xs) = x

abbrev rest_of : List Event → List Event
rest_of [] = []
rest_of (x ∷ xs) = xs

head_none : (xs ys : List Event) → xs ++ ys ≡ [] → xs ≡ []
head_none [] ys e = refl
head_none (x ∷ xs) ys e = absurd cc

-- a prefix of a list and one element more is the whole, or a prefix of the list
last_or_prefix : (xs h lost : List Event) (e : Event) → xs ++ e ∷ [] ≡ h ++ lost → (h ≡ xs ++ e ∷ []) ⊎ ((l : List Event) × (xs ≡ h ++ l))
last_or_prefix xs [] lost e is = inr (xs, refl)
last_or_prefix [] (y ∷ h) lost e is = inl (ap (λ l. y ∷ l) (head_none h lost (sym (ap rest_of is))) ∙ ap (λ x. x ∷ []) (sym (ap (first_or e) is)))
last_or_prefix (x ∷ xs) (y ∷ h) lost e is = go (last_or_prefix xs h lost e (ap rest_of is))
  where
    go : (h ≡ xs ++ e ∷ []) ⊎ ((l : List Event) × (xs ≡ h ++ l)) → (y ∷ h ≡ x ∷ (xs ++ e ∷ [])) ⊎ ((l : List Event) × (x ∷ xs ≡ y ∷ (h ++ l)))
    go (inl k) = inl (ap (λ l. y ∷ l) k ∙ ap (λ z. z ∷ (xs ++ e ∷ [])) (sym (ap (first_or e) is)))
    go (inr p) = inr (p.0, ap (λ l. x ∷ l) p.1 ∙ ap (λ z. z ∷ (h ++ p.0)) (ap (first_or e) is))

-- nothing comes behind a whole list in a prefix of it
none_behind : (xs more lost : List Event) → xs ≡ (xs ++ more) ++ lost → xs ++ more ≡ xs
none_behind [] more lost e = head_none more lost (sym e)
none_behind (x ∷ xs) more lost e = ap (λ l. x ∷ l) (none_behind xs more lost (ap rest_of e))

-- ---- what may stand

pub prefix_may_stand : (deeds : List Deed) (more lost : List Event) → written deeds ≡ (synced deeds ++ more) ++ lost → MayStand deeds (synced deeds ++ more)
prefix_may_stand [] more lost e = head_none more lost (sym e)
prefix_may_stand (Write x ∷ deeds) more lost e = go (last_or_prefix (written deeds) (synced deeds ++ more) lost x e) (prefix_may_stand deeds more)
  where
    go : (synced deeds ++ more ≡ written deeds ++ x ∷ []) ⊎ ((l : List Event) × (written deeds ≡ (synced deeds ++ more) ++ l))
        → ((l : List Event) → written deeds ≡ (synced deeds ++ more) ++ l → MayStand deeds (synced deeds ++ more))
        → MayStand deeds (synced deeds ++ more) ⊎ (synced deeds ++ more ≡ written deeds ++ x ∷ [])
    go (inl k) rest = inr k
    go (inr p) rest = inl (rest p.0 p.1)
prefix_may_stand (Sync ∷ deeds) more lost e = none_behind (written deeds) more lost e
prefix_may_stand (Delete n ∷ deeds) more lost e = prefix_may_stand deeds more lost e
prefix_may_stand (Crash h n ∷ deeds) more lost e = none_behind h more lost e

-- a prefix with all that was synced
abbrev IsFront : List Deed → List Event → Type 0
IsFront deeds h = (more : List Event) × (lost : List Event) × (h ≡ synced deeds ++ more) × (written deeds ≡ h ++ lost)

all_front : (whole h : List Event) → h ≡ whole → (more : List Event) × (lost : List Event) × (h ≡ whole ++ more) × (whole ≡ h ++ lost)
all_front whole h e = ([], [], e ∙ sym (append-nil whole), sym (append-nil h ∙ e))

-- all that was synced is in front of what was written
synced_in_front : (deeds : List Deed) → (more : List Event) × (written deeds ≡ synced deeds ++ more)
synced_in_front [] = ([], refl)
synced_in_front (Write x ∷ deeds) =
    let p : (more : List Event) × (written deeds ≡ synced deeds ++ more) = synced_in_front deeds in
    (p.0 ++ x ∷ [], ap (λ l. l ++ x ∷ []) p.1 ∙ append_assoc (synced deeds) p.0 (x ∷ []))
synced_in_front (Sync ∷ deeds) = ([], sym (append-nil (written deeds)))
synced_in_front (Delete n ∷ deeds) = synced_in_front deeds
synced_in_front (Crash h n ∷ deeds) = ([], sym (append-nil h))

pub stands_as_prefix : (deeds : List Deed) (h : List Event) → MayStand deeds h → IsFront deeds h
stands_as_prefix [] h s = ([], [], s, sym (append-nil h ∙ s))
stands_as_prefix (Write x ∷ deeds) h (inl s) =
    let p : IsFront deeds h = stands_as_prefix deeds h s in
    (p.0, p.1 ++ x ∷ [], p.2, ap (λ l. l ++ x ∷ []) p.3 ∙ append_assoc h p.1 (x ∷ []))
stands_as_prefix (Write x ∷ deeds) h (inr s) =
    let p : (more : List Event) × (written deeds ≡ synced deeds ++ more) = synced_in_front deeds in
    (p.0 ++ x ∷ [], [], s ∙ ap (λ l. l ++ x ∷ []) p.1 ∙ append_assoc (synced deeds) p.0 (x ∷ []), sym (append-nil h ∙ s))
stands_as_prefix (Sync ∷ deeds) h s = all_front (written deeds) h s
stands_as_prefix (Delete n ∷ deeds) h s = stands_as_prefix deeds h s
stands_as_prefix (Crash k n ∷ deeds) h s = all_front k h s
