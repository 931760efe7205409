-- The rule of the word from which seats draw. A view has the list of numbers of each seat that it stands for.
use Rattle.std.specs.Prelude.{◌≡◌, ℕ, ◌+◌, ◌^◌, ◌<◌, ◌≤◌, List, [], ◌∷◌, ◌++◌, Bool, true, false, if◌then◌else◌, nat_le, length, slice_index}
use Rattle.raft_tickets.specs.Draws.{AreBelow, Rises, HasEnded, once_below}
use Rattle.raft_tickets.specs.Weights.{weigh, occurrences}

-- how many lists there are
abbrev pub lists_in : List (List ℕ) → ℕ
lists_in ls = weigh (λ _. 1) ls

-- how often a number stands in lists
abbrev pub occurrences_in : ℕ → List (List ℕ) → ℕ
occurrences_in x ls = weigh (occurrences x) ls

-- how often a list passed the total, at most once: 1 where some number isn't below the total, else 0
abbrev pub times_passed : ℕ → List ℕ → ℕ
times_passed total [] = 0
times_passed total (x ∷ xs) = if nat_le total x then 1 else times_passed total xs

-- in how many of the lists some number isn't below the total
abbrev pub times_passed_in : ℕ → List (List ℕ) → ℕ
times_passed_in total ls = weigh (times_passed total) ls

-- The numbers of all views are those below the word, each once; no more than one of a list isn't below the total.
pub record IsDrawn (total seats : ℕ) (words : List ℕ) (views : List (List (List ℕ))) : Type 0 where
  pub one_word : length words ≡ 1
  pub few_numbers : total < 2 ^ 62
  pub few_seats : seats < 2 ^ 62
  pub all_seats : weigh lists_in views ≡ seats
  pub once : (x : ℕ) → weigh (occurrences_in x) views ≡ once_below x (slice_index words 0)
  pub reached : slice_index words 0 ≤ total + weigh (times_passed_in total) views

-- a view of one list has drawn the number n
abbrev pub HasDrawn : List (List ℕ) → ℕ → List (List ℕ) → Type 0
HasDrawn view n after = (drawn : List ℕ) → view ≡ drawn ∷ [] → (after ≡ (drawn ++ n ∷ []) ∷ []) × AreBelow n drawn

-- the one list of a view
abbrev pub only : List (List ℕ) → List ℕ
only [] = []
only (l ∷ ls) = l

-- a seat's list goes on until it has a number that isn't below the total
abbrev pub Continues : ℕ → Bool → List ℕ → Type 0
Continues total true drawn = HasEnded total drawn
Continues total false drawn = AreBelow total drawn

-- what a seat keeps
pub record IsDrawer (total : ℕ) (ended : Bool) (view : List (List ℕ)) : Type 0 where
  pub one : view ≡ only view ∷ []
  pub rises : Rises (only view)
  pub continues : Continues total ended (only view)
