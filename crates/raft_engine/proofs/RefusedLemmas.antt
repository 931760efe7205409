-- What is refused isn't held.
use Rattle.raft_engine.proofs.Common.{◌≡◌, ℕ, zero, suc, ◌<◌, List, [], ◌∷◌, ◌++◌, length, drop, sym, ap, ◌∙◌, subst, append_assoc, arith, AreBatchesUpTo, Part, StandBetween, Item, batch_inside, Event, EachHolds, HoldsFrom, IsUnreadableAt, batch_none, batch_unique, NoneIsHeld}

-- ---- a part

-- batches that stand up to a byte before the end are held only with one that stands there
pub unheld : (part : Part) (at : ℕ) → AreBatchesUpTo part at → IsUnreadableAt part at → at < length part.bytes → (h : List Event) → ¬ (HoldsFrom part 0 h)
unheld part at s none before h held = go 0 s.0 h s.1 held
  where
    go : (i : ℕ) (bs : List (List Item)) (h : List Event) → StandBetween part i at bs → HoldsFrom part i h → ⊥
    go i [] [] e ends = absurd (omega (arith, e, ends, before))
    go i [] (x ∷ h) e held = batch_none part i x.items held.1.0 (subst (IsUnreadableAt part) (sym e) none) held.1.1
    go i (b ∷ bs) [] s ends = let n = batch_inside part i b s.0 s.1 in absurd (omega (arith, ends, n.0, n.1))
    go i (b ∷ bs) (x ∷ h) s held =
        let next : held.1.0 ≡ s.0 = (batch_unique part i x.items b held.1.0 s.0 held.1.1 s.1).1 in
        go s.0 bs h s.2 (subst (λ (n : ℕ). HoldsFrom part n h) next held.1.2)

-- ---- some, one after another

-- what one of them holds, among what all hold
pub record IsHeldAmong (Holds : List Event → Type 0) (h : List Event) : Type 0 where
  pub before : List Event
  pub first : List Event
  pub after : List Event
  pub held : Holds first
  pub split : h ≡ before ++ (first ++ after)

pub held_among : {A : Type 0} (Holds : A → List Event → Type 0) (xs : List A) (i : ℕ) (x : A) (rest : List A) (h : List Event) → drop i xs ≡ x ∷ rest → EachHolds Holds xs h → IsHeldAmong (Holds x) h
held_among Holds xs zero x rest h e held =
    let a = subst (λ (l : List _). EachHolds Holds l h) e held in
    record { before = []; first = a.first; after = a.rest; held = a.first_held; split = a.split }
held_among Holds [] (suc i) x rest h e held = absurd cc
held_among Holds (y ∷ xs) (suc i) x rest h e a =
    let more = held_among Holds xs i x rest a.rest e a.rest_held in record {
      before = a.first ++ more.before;
      first = more.first;
      after = more.after;
      held = more.held;
      split = a.split ∙ ap (λ (l : List Event). a.first ++ l) more.split ∙ sym (append_assoc a.first more.before (more.first ++ more.after));
    }

-- ---- what none holds

pub none_held : {A : Type 0} (Holds : A → List Event → Type 0) (xs : List A) (i : ℕ) (x : A) (rest : List A) → drop i xs ≡ x ∷ rest → NoneIsHeld (Holds x) → NoneIsHeld (EachHolds Holds xs)
none_held Holds xs i x rest e none h held = let m = held_among Holds xs i x rest h e held in none m.first m.held
