-- What may stand of a queue, and the batches in files from a number on.
use Rattle.raft_engine_laws.proofs.Common.{◌≡◌, ◌⊎◌, ℕ, ◌<◌, ◌≤◌, max, Bool, true, false, cond, List, [], ◌∷◌, ◌++◌, inl, inr, refl, sym, ap, subst, ◌∙◌, append-nil, append_assoc, arith, filter, nat_le, nat_tests, LogQueue, Event, FilesFrom, last_from, AreFilesBelow, Deed, Write}
use Rattle.raft_engine_laws.proofs.Common.{Sync, Delete, Crash, written, deleted, synced_deleted, IsSynced, MayStand, MayBeGone, in_files_from, IsLeft}

-- ---- numbers

pub test_le : (a b : ℕ) → a ≤ b → nat_le a b ≡ true
test_le a b e = grind (arith, nat_tests)

test_lt : (a b : ℕ) → nat_le b a ≡ false → a < b
test_lt a b e = grind (arith, nat_tests)

-- ---- files from a number on

abbrev pub keeps : ℕ → Event → Bool
keeps n e = nat_le n e.file.seq

pub from-append : (n : ℕ) (h k : List Event) → in_files_from n (h ++ k) ≡ in_files_from n h ++ in_files_from n k
unfolding in_files_from
from-append n [] k = refl
from-append n (e ∷ h) k = go (keeps n e) (from-append n h k)
  where
    go : (b : Bool) → filter (keeps n) (h ++ k) ≡ filter (keeps n) h ++ filter (keeps n) k → cond b (e ∷ filter (keeps n) (h ++ k)) (filter (keeps n) (h ++ k)) ≡ cond b (e ∷ filter (keeps n) h) (filter (keeps n) h) ++ filter (keeps n) k
    go true ih = ap (λ l. e ∷ l) ih
    go false ih = ih

from_one : (n : ℕ) (e : Event) → n ≤ e.file.seq → in_files_from n (e ∷ []) ≡ e ∷ []
unfolding in_files_from
from_one n e l = ap (λ b. cond b (e ∷ []) []) (test_le n e.file.seq l)

pub from_more : (n : ℕ) (h : List Event) (e : Event) → n ≤ e.file.seq → in_files_from n (h ++ e ∷ []) ≡ in_files_from n h ++ e ∷ []
from_more n h e l = from-append n h (e ∷ []) ∙ ap (λ l. in_files_from n h ++ l) (from_one n e l)

pub from_none : (n : ℕ) → in_files_from n [] ≡ []
unfolding in_files_from
from_none n = refl

-- the last of them is no later
pub last_low : (q : LogQueue) (n s t : ℕ) (h : List Event) → FilesFrom q t h → s ≤ t → last_from s (in_files_from n h) ≤ last_from t h
unfolding in_files_from
last_low q n s t [] f l = l
last_low q n s t (e ∷ h) f l = go (keeps n e) (last_low q n e.file.seq e.file.seq h f.2 (omega arith)) (last_low q n s e.file.seq h f.2 (let k : t ≤ e.file.seq = f.1 in omega (arith, k, l)))
  where
    go : (b : Bool) → last_from e.file.seq (filter (keeps n) h) ≤ last_from e.file.seq h → last_from s (filter (keeps n) h) ≤ last_from e.file.seq h →
        last_from s (cond b (e ∷ filter (keeps n) h) (filter (keeps n) h)) ≤ last_from e.file.seq h
    go true a b = a
    go false a b = b

-- all of later files
pub all_from : (q : LogQueue) (n t : ℕ) (h : List Event) → FilesFrom q t h → n ≤ t → in_files_from n h ≡ h
unfolding in_files_from
all_from q n t [] f l = refl
all_from q n t (e ∷ h) f l =
    let k : n ≤ e.file.seq = (let k : t ≤ e.file.seq = f.1 in omega (arith, k, l)) in
    ap (λ b. cond b (e ∷ filter (keeps n) h) (filter (keeps n) h)) (test_le n e.file.seq k) ∙ ap (λ l. e ∷ l) (all_from q n e.file.seq h f.2 k)

-- those from a number on are those below a greater one, and those from that on
pub record IsSplitAt (m n : ℕ) (h : List Event) : Type 0 where
  pub gone : List Event
  pub split : in_files_from m h ≡ gone ++ in_files_from n h
  pub below : AreFilesBelow n gone

pub split_at : (q : LogQueue) (m n t : ℕ) (h : List Event) → m ≤ n → FilesFrom q t h → IsSplitAt m n h
unfolding in_files_from
split_at q m n t [] l f = record { gone = []; split = refl; below = tt }
split_at q m n t (e ∷ h) l f = go (keeps n e) refl (split_at q m n e.file.seq h l f.2)
  where
    all : (i : ℕ) → i ≤ e.file.seq → in_files_from i (e ∷ h) ≡ e ∷ h
    all i k = all_from q i e.file.seq (e ∷ h) (f.0, omega arith, f.2) k

    lower : (b : Bool) → keeps m e ≡ b → keeps n e ≡ false → IsSplitAt m n h → IsSplitAt m n (e ∷ h)
    lower true i k p = record {
      gone = e ∷ p.gone;
      split = ap (λ b. cond b (e ∷ filter (keeps m) h) (filter (keeps m) h)) i ∙ ap (λ l. e ∷ l) p.split ∙ ap (λ b. (e ∷ p.gone) ++ cond b (e ∷ filter (keeps n) h) (filter (keeps n) h)) (sym k);
      below = (test_lt e.file.seq n k, p.below);
    }
    lower false i k p = record {
      gone = p.gone;
      split = ap (λ b. cond b (e ∷ filter (keeps m) h) (filter (keeps m) h)) i ∙ p.split ∙ ap (λ b. p.gone ++ cond b (e ∷ filter (keeps n) h) (filter (keeps n) h)) (sym k);
      below = p.below;
    }

    le_test : (a b : ℕ) → nat_le a b ≡ true → a ≤ b
    le_test a b e = grind (arith, nat_tests)

    go : (b : Bool) → keeps n e ≡ b → IsSplitAt m n h → IsSplitAt m n (e ∷ h)
    go true k p =
        let high : n ≤ e.file.seq = le_test n e.file.seq k in
        record { gone = []; split = all m (omega (arith, l, high)) ∙ sym (all n high); below = tt }
    go false k p = lower (keeps m e) refl k p

pub files_front : (q : LogQueue) (n : ℕ) (h k : List Event) → FilesFrom q n (h ++ k) → FilesFrom q n h
files_front q n [] k f = tt
files_front q n (e ∷ h) k f = (f.0, f.1, files_front q e.file.seq h k f.2)

-- ---- what may stand

pub whole_stands : (deeds : List Deed) → MayStand deeds (written deeds)
whole_stands [] = refl
whole_stands (Write e ∷ deeds) = inr refl
whole_stands (Sync ∷ deeds) = refl
whole_stands (Delete n ∷ deeds) = whole_stands deeds
whole_stands (Crash h n ∷ deeds) = refl

front_is : (h k : List Event) → k ≡ h → (rest : List Event) × (h ≡ k ++ rest)
front_is h k e = ([], sym (append-nil k ∙ e))

pub stands_in_front : (deeds : List Deed) (h : List Event) → MayStand deeds h → (rest : List Event) × (written deeds ≡ h ++ rest)
stands_in_front [] h s = front_is [] h s
stands_in_front (Write e ∷ deeds) h (inl s) =
    let p : (rest : List Event) × (written deeds ≡ h ++ rest) = stands_in_front deeds h s in
    (p.0 ++ e ∷ [], ap (λ l. l ++ e ∷ []) p.1 ∙ append_assoc h p.0 (e ∷ []))
stands_in_front (Write e ∷ deeds) h (inr s) = front_is (written deeds ++ e ∷ []) h s
stands_in_front (Sync ∷ deeds) h s = front_is (written deeds) h s
stands_in_front (Delete n ∷ deeds) h s = stands_in_front deeds h s
stands_in_front (Crash k n ∷ deeds) h s = front_is k h s

pub synced_stands : (deeds : List Deed) (h : List Event) → IsSynced deeds → MayStand deeds h → h ≡ written deeds
synced_stands [] h i s = s
synced_stands (Write e ∷ deeds) h i s = absurd i
synced_stands (Sync ∷ deeds) h i s = s
synced_stands (Delete n ∷ deeds) h i s = synced_stands deeds h i s
synced_stands (Crash k n ∷ deeds) h i s = s

pub synced_low : (deeds : List Deed) → synced_deleted deeds ≤ deleted deeds
synced_low [] = omega arith
synced_low (Write e ∷ deeds) = synced_low deeds
synced_low (Sync ∷ deeds) = omega arith
synced_low (Delete n ∷ deeds) = let k = synced_low deeds in omega (arith, k)
synced_low (Crash k n ∷ deeds) = omega arith

pub all_gone : (deeds : List Deed) → MayBeGone deeds (deleted deeds)
all_gone deeds = record { at_least = synced_low deeds; at_most = omega arith }

-- ---- one act less

pub gone_unwritten : (deeds : List Deed) (e : Event) (n : ℕ) → MayBeGone (Write e ∷ deeds) n → MayBeGone deeds n
gone_unwritten deeds e n g = record { at_least = g.at_least; at_most = g.at_most }

pub gone_unsynced : (deeds : List Deed) (n : ℕ) → MayBeGone (Sync ∷ deeds) n → MayBeGone deeds n
gone_unsynced deeds n g = record { at_least = (let a : deleted deeds ≤ n = g.at_least in let b = synced_low deeds in omega (arith, a, b)); at_most = g.at_most }

pub left_unsynced : (deeds : List Deed) (h k : List Event) → IsLeft (Sync ∷ deeds) h k → IsLeft deeds h k
left_unsynced deeds h k x = record { stands = subst (MayStand deeds) (sym x.stands) (whole_stands deeds); gone = x.gone; may_go = gone_unsynced deeds x.gone x.may_go; left = x.left }

-- what is left of a synced queue
pub record IsAllLeft (deeds : List Deed) (h k : List Event) : Type 0 where
  pub stands : h ≡ written deeds
  pub gone : ℕ
  pub may_go : MayBeGone deeds gone
  pub left : k ≡ in_files_from gone (written deeds)

pub synced_left : (deeds : List Deed) (h k : List Event) → IsSynced deeds → IsLeft deeds h k → IsAllLeft deeds h k
synced_left deeds h k i x = record { stands = synced_stands deeds h i x.stands; gone = x.gone; may_go = x.may_go; left = x.left ∙ ap (in_files_from x.gone) (synced_stands deeds h i x.stands) }

-- ---- a deletion more

-- it isn't done, or more than was gone is below its number
abbrev pub IsDeletedOrNot : List Deed → ℕ → ℕ → Type 0
IsDeletedOrNot deeds n m = MayBeGone deeds m ⊎ ((deleted deeds ≤ m) × (m ≤ n))

pub deleted_or_not : (deeds : List Deed) (n m : ℕ) → MayBeGone (Delete n ∷ deeds) m → IsDeletedOrNot deeds n m
deleted_or_not deeds n m g = go (nat_le m (deleted deeds)) refl
  where
    le_test : (a b : ℕ) → nat_le a b ≡ true → a ≤ b
    le_test a b e = grind (arith, nat_tests)

    go : (b : Bool) → nat_le m (deleted deeds) ≡ b → IsDeletedOrNot deeds n m
    go true k = inl (record { at_least = g.at_least; at_most = le_test m (deleted deeds) k })
    go false k = let low : deleted deeds < m = test_lt (deleted deeds) m k in let high : m ≤ max n (deleted deeds) = g.at_most in inr (omega (arith, low), omega (arith, low, high))
