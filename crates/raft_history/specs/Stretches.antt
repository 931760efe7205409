-- What an effect is, in the words of the group markers alone.
use Rattle.std.specs.Prelude.{◌≡◌, ◌⊎◌, ℕ, suc, ◌≤◌, List, [], ◌∷◌, ◌++◌, Some, None}
use Rattle.std.specs.List.{AllByRecursion}
use Rattle.raft_records.specs.declared.atomic_group.AtomicGroupStatus.{AtomicGroupStatus}
use Rattle.raft_records.specs.declared.atomic_group.AtomicGroupStatus.TheVariants.{Begin, Middle, End}
use Rattle.raft_history.specs.Batches.{BatchSteps}
use Rattle.raft_history.specs.Effects.{Effect, Numbered, numbered_from, markers_of}

-- x stands in the list
pub record IsIn {X : Type 0} (x : X) (xs : List X) : Type 0 where
  pub before : List X
  pub behind : List X
  pub split : xs ≡ before ++ x ∷ behind

-- a group marker of the group with that status
abbrev pub IsMarkerOf : ℕ → AtomicGroupStatus → Numbered → Type 0
IsMarkerOf g s p = p.batch.marker ≡ Some record { group = g; status = s }

-- among the group markers of the group, neighbors: a Begin, Middles, and an End
pub record IsStretch (h : List BatchSteps) (g : ℕ) (e : Effect) : Type 0 where
  pub before : List Numbered
  pub begin : Numbered
  pub middles : List Numbered
  pub behind : List Numbered
  pub neighbors : markers_of g (numbered_from 0 h) ≡ before ++ begin ∷ (middles ++ e.last ∷ behind)
  pub begins : IsMarkerOf g Begin begin
  pub goes_on : AllByRecursion (IsMarkerOf g Middle) middles
  pub ends : IsMarkerOf g End e.last
  pub earlier : e.earlier ≡ begin ∷ middles

-- a batch without a group marker
pub record IsAlone (h : List BatchSteps) (e : Effect) : Type 0 where
  pub stands : IsIn e.last (numbered_from 0 h)
  pub without_marker : e.last.batch.marker ≡ None
  pub none : e.earlier ≡ []

-- an effect of the history: a batch of it without a group marker, or a stretch of group markers of some group
abbrev pub IsEffect : List BatchSteps → Effect → Type 0
IsEffect h e = IsAlone h e ⊎ ((g : ℕ) × IsStretch h g e)

-- each effect's last batch stands after that of the effect before it, the first at this number or past it
abbrev pub RiseFrom : ℕ → List Effect → Type 0
RiseFrom n [] = Unit {0}
RiseFrom n (e ∷ es) = (n ≤ e.last.number) × RiseFrom (suc e.last.number) es

-- the list has each effect of the history once, and nothing else, in the order of their last batches
pub record AreEffects (h : List BatchSteps) (es : List Effect) : Type 0 where
  pub only : AllByRecursion (IsEffect h) es
  pub every : (e : Effect) → IsEffect h e → IsIn e es
  pub rise : RiseFrom 0 es
