-- A walk through a part, as far as it has come.
use Rattle.raft_listing.proofs.Common.{◌≡◌, ◌≢◌, ℕ, ◌<◌, ◌≤◌, List, [], ◌∷◌, length, drop, Option, Some, None, IfNone, IfSome, MatchOption, refl, sym, subst, arith, HasNoFront, signature_in, Error, IsNextFault, Part, IsReadable, AreVisited, EndsByHeader, EndsNowhere, HasWalked}
use Rattle.raft_listing.proofs.Common.{IsMet, IsVisited, IsWalkFrom, Met, damage}
use Rattle.raft_base.specs.declared.errors.Error.TheVariants as errors

-- what is met where no batch can be read
pub damage_met : (part : Part) (at : ℕ) (next : Option ℕ) (e : Error) → e ≢ errors.Memory → HasNoFront (λ bytes. IsReadable bytes (signature_in part.version part.id.seq)) (drop at part.bytes)
    → IsNextFault (signature_in part.version part.id.seq) (drop at part.bytes) e → IfSome next (EndsByHeader part at) → IfNone next (EndsNowhere part at) → IsMet part at (damage next e)
damage_met part at None e other none fault some nowhere = (other, none, fault, nowhere)
damage_met part at (Some next) e other none fault some nowhere = (other, none, fault, some)

module _ {V : Type 0} (Visits : V → Part → ℕ → Met → V → Type 0) (part : Part) (first : V) where
  -- what was met before a byte was shown: with what is met from there on it is a walk
  pub record IsWalking (now : V) (at : ℕ) : Type 0 where
    pub inside : at ≤ length part.bytes
    pub joins : (ms : List (ℕ × Met)) (last : V) → IsWalkFrom part at ms → AreVisited Visits part now ms last → HasWalked Visits part first last

  pub begun : IsWalking first 0
  begun = record { inside = omega arith; joins = λ ms last walk visited. record { met = ms; is_walk = walk; visited = visited } }

  -- one thing more is met, and the walk goes on behind it
  pub one_more : (now next : V) (at behind : ℕ) → IsWalking now at → at < length part.bytes → IsVisited Visits part at (Some behind) now next → behind ≤ length part.bytes → IsWalking next behind
  one_more now next at behind walking left v inside = record {
    inside = inside;
    joins = λ ms last walk visited.
        walking.joins ((at, v.met) ∷ ms) last
        (refl, left, v.is_met, subst (λ (o : Option ℕ). MatchOption o (ms ≡ []) (λ n. IsWalkFrom part n ms)) (sym v.goes_on) walk)
        (next, v.visited, visited);
  }

  -- one thing more is met, and the walk doesn't go on
  pub stopped : (now last : V) (at : ℕ) → IsWalking now at → at < length part.bytes → IsVisited Visits part at None now last → HasWalked Visits part first last
  stopped now last at walking left v =
      let none : List (ℕ × Met) = [] in
      walking.joins ((at, v.met) ∷ []) last
      (refl, left, v.is_met, subst (λ (o : Option ℕ). MatchOption o (none ≡ []) (λ n. IsWalkFrom part n none)) (sym v.goes_on) refl)
      (last, v.visited, refl)

  -- the end of the part
  pub ended : (now : V) (at : ℕ) → IsWalking now at → at ≡ length part.bytes → HasWalked Visits part first now
  ended now at walking end = walking.joins [] now end refl
