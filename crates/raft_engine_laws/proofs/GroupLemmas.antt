-- Atomic groups in the rewrite queue: a batch that begins or goes on with a group adds no step, and steps split at a boundary that stands in no whole group.
use Rattle.raft_engine_laws.proofs.Common.{◌≡◌, ◌≢◌, ℕ, List, [], ◌∷◌, ◌++◌, Option, Some, None, refl, ap, ◌∙◌, append-nil, AtomicGroupStatus, Begin, Middle, End, GroupMarker, BatchSteps, effects, steps_of, EachApart, RegionStep, GroupFront, Open, Ended, Begun, OpenStretch}
use Rattle.raft_engine_laws.proofs.Common.{whole_group, whole_group_by, one_marker, groups_in, known_of, whole_groups, steps_or, steps_by_batch, steps_of_wholes, steps_across, steps-one, IsBeforeEnd}

begun_none : (r : ℕ) (front : GroupFront) (s : Option OpenStretch) → steps_or r (whole_group_by front s Begun) ≡ []
begun_none r (Open is) s = refl
begun_none r (Ended is f) None = refl
begun_none r (Ended is f) (Some s) = refl
begun_none r Begun None = refl
begun_none r Begun (Some s) = refl

open_none : (r : ℕ) (js : List RegionStep) (front : GroupFront) (s : Option OpenStretch) → steps_or r (whole_group_by front s (Open js)) ≡ []
open_none r js (Open is) s = refl
open_none r js (Ended is f) None = refl
open_none r js (Ended is f) (Some s) = refl
open_none r js Begun None = refl
open_none r js Begun (Some s) = refl

-- files deleted at a boundary that no whole group stands across take their own steps away, and no others
pub steps_split : (r : ℕ) (h k : List BatchSteps) → EachApart (effects (h ++ k)) → whole_groups (groups_in h) (groups_in k) ≡ [] → steps_of r (h ++ k) ≡ steps_of r h ++ steps_of r k
unfolding steps_of_wholes
steps_split r h k apart none = steps_across r h k apart ∙ rw (none) refl

-- a batch that begins a group or goes on with one
pub held_adds : (r : ℕ) (h : List BatchSteps) (b : BatchSteps) → IsBeforeEnd b.marker → steps_of r (h ++ b ∷ []) ≡ steps_of r h
held_adds r h b held = steps-one r h b ∙ ap (λ l. steps_of r h ++ l) (go b.marker held) ∙ append-nil (steps_of r h)
  where
    by : (g : ℕ) (s : AtomicGroupStatus) → s ≢ End → steps_or r (whole_group (known_of (groups_in h) g) (one_marker s b.steps b.seq)) ≡ []
    by g Begin n = begun_none r (known_of (groups_in h) g).front (known_of (groups_in h) g).stretch
    by g Middle n = open_none r b.steps (known_of (groups_in h) g).front (known_of (groups_in h) g).stretch
    by g End n = absurd (n refl)

    go : (m : Option GroupMarker) → IsBeforeEnd m → steps_by_batch r (groups_in h) b m ≡ []
    go None n = absurd n
    go (Some m) n = by m.group m.status n
