-- The first group marker of items.
use Rattle.raft_engine.proofs.Common.{◌≡◌, true, false, ℕ, ◌≤◌, List, [], ◌∷◌, Option, Some, None, refl, sym, ap, ◌∙◌, arith, false≢true, is_some, option_or, Error, Rewrite, IsGroupMarkerFault, IsGroupMarkerRead, first_marker, marker_of, Item, AtomicGroupStatus, marker_is}
use Rattle.raft_engine.proofs.Common.{marker_in, HaveStatus, marker_shown}

-- the first marker of all items is that of those that are left
pub record IsMarkerAhead (all rest : List Item) : Type 0 where
  pub same : marker_in Rewrite all ≡ marker_in Rewrite rest
  pub status : HaveStatus Rewrite all → HaveStatus Rewrite rest

pub all_ahead : (all : List Item) → IsMarkerAhead all all
all_ahead all = record { same = refl; status = λ h. h }

one_first : (item : Item) (rest : List Item) (o : Option (ℕ × AtomicGroupStatus)) → marker_of item ≡ o → marker_in Rewrite (item ∷ rest) ≡ marker_shown (option_or o (first_marker rest))
unfolding first_marker
one_first item rest o e = ap (λ (x : Option (ℕ × AtomicGroupStatus)). marker_shown (option_or x (first_marker rest))) e

pub passed : (all rest : List Item) (item : Item) → IsMarkerAhead all (item ∷ rest) → IsGroupMarkerRead item None → IsMarkerAhead all rest
passed all rest item a read = record { same = a.same ∙ one_first item rest None (marker_is item None read); status = λ h. (a.status h).1 }

pub found : (all rest : List Item) (item : Item) (m : ℕ × AtomicGroupStatus) → IsMarkerAhead all (item ∷ rest) → IsGroupMarkerRead item (Some m) → marker_shown (Some m) ≡ marker_in Rewrite all
found all rest item m a read = sym (a.same ∙ one_first item rest (Some m) (marker_is item (Some m) read))

-- by the test whether there is one
pub found_some : (all rest : List Item) (item : Item) (o : Option (ℕ × AtomicGroupStatus)) → IsMarkerAhead all (item ∷ rest) → IsGroupMarkerRead item o → is_some o ≡ true → marker_shown o ≡ marker_in Rewrite all
found_some all rest item None a read some = absurd (false≢true some)
found_some all rest item (Some m) a read some = found all rest item m a read

pub passed_none : (all rest : List Item) (item : Item) (o : Option (ℕ × AtomicGroupStatus)) → IsMarkerAhead all (item ∷ rest) → IsGroupMarkerRead item o → is_some o ≡ false → IsMarkerAhead all rest
passed_none all rest item None a read none = passed all rest item a read
passed_none all rest item (Some m) a read none = absurd (false≢true (sym none))

pub none_found : (all : List Item) → IsMarkerAhead all [] → marker_shown None ≡ marker_in Rewrite all
unfolding first_marker
none_found all a = sym a.same

pub unknown : (all rest : List Item) (item : Item) (e : Error) → IsMarkerAhead all (item ∷ rest) → IsGroupMarkerFault item e → ¬ (HaveStatus Rewrite all)
unknown all rest item e a fault h = let low : fault.byte ≤ 2 = (a.status h).0 fault.byte fault.marker in let high = fault.fault.0 in omega (arith, low, high)
