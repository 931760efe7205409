-- Batches by the numbers of their files, and those that may stand.
use Rattle.raft_engine_prefixes.proofs.Common.{◌≡◌, ◌⊎◌, ℕ, suc, ◌<◌, ◌≤◌, Bool, true, false, cond, List, [], ◌∷◌, ◌++◌, length, drop, slice_index_or, inl, inr, refl, sym, ap, ◌∙◌, subst, arith, append-nil, length-append, nat_le, AllByRecursion, nat_tests, nil_from_length}
use Rattle.raft_engine_prefixes.proofs.Common.{filter-append, FileId, LogQueue, Version, Part, Event, last_from, NumberedBytes, bytes_before, HoldsFrom, FilesHold, whole_file, Deed, Write, Crash, written, synced, IsSynced, in_files_from, from_none, from_more, FilesHoldTorn}
use Rattle.raft_engine_prefixes.proofs.Common.{numbers, AreRisingFrom}
use Rattle.raft_engine_laws.specs.Crashes.{Sync, Delete, MayStand}
use Rattle.raft_engine_prefixes.proofs.FileLemmas.{files_fine}
use Rattle.raft_engine_prefixes.proofs.NumberLemmas.{rising_low, rising_last}

-- ---- batches in files from a number on

keeps_high : (n seq : ℕ) → n ≤ seq → nat_le n seq ≡ true
keeps_high n seq l = grind (arith, nat_tests)

keeps_no_low : (n seq : ℕ) → seq < n → nat_le n seq ≡ false
keeps_no_low n seq l = grind (arith, nat_tests)

kept_high : (n seq : ℕ) → nat_le n seq ≡ true → n ≤ seq
kept_high n seq e = grind (arith, nat_tests)

pub from_both : (n : ℕ) (g h : List Event) → in_files_from n (g ++ h) ≡ in_files_from n g ++ in_files_from n h
unfolding in_files_from
from_both n g h = filter-append (λ (e : Event). nat_le n e.file.seq) g h

-- the first batch is kept or not
abbrev IsFirstKept : ℕ → Event → List Event → Type 0
IsFirstKept n e h = in_files_from n (e ∷ h) ≡ cond (nat_le n e.file.seq) (e ∷ in_files_from n h) (in_files_from n h)

first_kept : (n : ℕ) (e : Event) (h : List Event) → IsFirstKept n e h
unfolding in_files_from
first_kept n e h = refl

high_kept : (n : ℕ) (e : Event) (h : List Event) → n ≤ e.file.seq → in_files_from n (e ∷ h) ≡ e ∷ in_files_from n h
high_kept n e h l = first_kept n e h ∙ ap (λ (b : Bool). cond b (e ∷ in_files_from n h) (in_files_from n h)) (keeps_high n e.file.seq l)

low_gone : (n : ℕ) (e : Event) (h : List Event) → e.file.seq < n → in_files_from n (e ∷ h) ≡ in_files_from n h
low_gone n e h l = first_kept n e h ∙ ap (λ (b : Bool). cond b (e ∷ in_files_from n h) (in_files_from n h)) (keeps_no_low n e.file.seq l)

-- from a greater number on
pub from_twice : (m n : ℕ) (h : List Event) → m ≤ n → in_files_from n (in_files_from m h) ≡ in_files_from n h
from_twice m n [] l = ap (in_files_from n) (from_none m)
from_twice m n (e ∷ h) l = go (nat_le m e.file.seq) refl (from_twice m n h l)
  where
    low : nat_le m e.file.seq ≡ false → e.file.seq < n
    low k = grind (arith, nat_tests)

    go : (b : Bool) → nat_le m e.file.seq ≡ b → in_files_from n (in_files_from m h) ≡ in_files_from n h → in_files_from n (in_files_from m (e ∷ h)) ≡ in_files_from n (e ∷ h)
    go true k ih =
        ap (in_files_from n) (high_kept m e h (kept_high m e.file.seq k)) ∙ first_kept n e (in_files_from m h)
        ∙ ap (λ (g : List Event). cond (nat_le n e.file.seq) (e ∷ g) g) ih ∙ sym (first_kept n e h)
    go false k ih =
        ap (in_files_from n) (first_kept m e h ∙ ap (λ (b : Bool). cond b (e ∷ in_files_from m h) (in_files_from m h)) k)
        ∙ ih ∙ sym (low_gone n e h (low k))

-- ---- batches that files hold

part_high : (n : ℕ) (part : Part) (at : ℕ) (h : List Event) → n ≤ part.id.seq → HoldsFrom part at h → in_files_from n h ≡ h
part_high n part at [] l held = from_none n
part_high n part at (e ∷ h) l held =
    let same : e.file.seq ≡ part.id.seq = ap (λ (file : _). file.seq) held.0 in
    high_kept n e h (omega (arith, same, l)) ∙ ap (λ (g : List Event). e ∷ g) (part_high n part held.1.0 h l held.1.2)

part_low : (n : ℕ) (part : Part) (at : ℕ) (h : List Event) → part.id.seq < n → HoldsFrom part at h → in_files_from n h ≡ []
part_low n part at [] l held = from_none n
part_low n part at (e ∷ h) l held =
    let same : e.file.seq ≡ part.id.seq = ap (λ (file : _). file.seq) held.0 in
    low_gone n e h (omega (arith, same, l)) ∙ part_low n part held.1.0 h l held.1.2

module _ (queue : LogQueue) (version : Version) where
  -- files below the number
  pub files_low : (n : ℕ) (files : List NumberedBytes) (h : List Event) → AllByRecursion (λ (m : ℕ). m < n) (numbers files) → FilesHold queue version files h → in_files_from n h ≡ []
  files_low n [] h l held = ap (in_files_from n) held ∙ from_none n
  files_low n (f ∷ files) h l held =
      ap (in_files_from n) held.split ∙ from_both n held.first held.rest
      ∙ ap (λ (g : List Event). g ++ in_files_from n held.rest) (part_low n (whole_file queue version f) 0 held.first l.0 held.first_held) ∙ files_low n files held.rest l.1 held.rest_held

  -- files from the number on
  pub files_high : (n : ℕ) (files : List NumberedBytes) (h : List Event) → AreRisingFrom n (numbers files) → FilesHoldTorn queue version files h → in_files_from n h ≡ h
  files_high n [] h r held = ap (in_files_from n) held ∙ from_none n ∙ sym held
  files_high n (f ∷ []) h r t = part_high n (bytes_before (whole_file queue version f) t.at) 0 h r.0 t.held
  files_high n (f ∷ g ∷ files) h r held =
      let low : n ≤ f.0 = r.0 in
      let rest = files_high n (g ∷ files) held.rest (rising_low n (suc f.0) (numbers (g ∷ files)) (omega (arith, low)) r.1) held.rest_held in
      ap (in_files_from n) held.split ∙ from_both n held.first held.rest
      ∙ ap (λ (k : List Event). k ++ in_files_from n held.rest) (part_high n (whole_file queue version f) 0 held.first r.0 held.first_held)
      ∙ ap (λ (k : List Event). held.first ++ k) rest ∙ sym held.split

-- ---- batches in files up to a number

-- each batch is in a file up to the number
abbrev pub AreUpTo : ℕ → List Event → Type 0
AreUpTo m h = AllByRecursion (λ (e : Event). e.file.seq ≤ m) h

pub last_low : (m i : ℕ) (h : List Event) → i ≤ m → AreUpTo m h → last_from i h ≤ m
last_low m i [] l a = l
last_low m i (e ∷ h) l a = last_low m e.file.seq h a.0 a.1

-- where those from a number on are, all are
pub low_all : (n m : ℕ) (h : List Event) → n ≤ m → AreUpTo m (in_files_from n h) → AreUpTo m h
low_all n m [] l a = tt
low_all n m (e ∷ h) l a = go (nat_le n e.file.seq) refl (low_all n m h l)
  where
    low : nat_le n e.file.seq ≡ false → e.file.seq ≤ m
    low k = grind (arith, nat_tests)

    go : (b : Bool) → nat_le n e.file.seq ≡ b → (AreUpTo m (in_files_from n h) → AreUpTo m h) → AreUpTo m (e ∷ h)
    go true k ih = let r = subst (AreUpTo m) (high_kept n e h (kept_high n e.file.seq k)) a in (r.0, ih r.1)
    go false k ih = (low k, ih (subst (AreUpTo m) (first_kept n e h ∙ ap (λ (b : Bool). cond b (e ∷ in_files_from n h) (in_files_from n h)) k) a))

none_higher : (n : ℕ) (closed : List NumberedBytes) (last : NumberedBytes) → AreRisingFrom n (numbers closed ++ last.0 ∷ [])
    → AllByRecursion (λ (file : NumberedBytes). file.0 ≤ last.0) (closed ++ last ∷ [])
none_higher n [] last r = (omega arith, tt)
none_higher n (f ∷ closed) last r = ((let k = rising_last (suc f.0) (numbers closed) last.0 r.1 in omega (arith, k)), none_higher (suc f.0) closed last r.1)

pub files_up_to : (queue : LogQueue) (version : Version) (n : ℕ) (closed : List NumberedBytes) (last : NumberedBytes) (h : List Event)
    → AreRisingFrom n (numbers closed ++ last.0 ∷ []) → FilesHold queue version (closed ++ last ∷ []) h → AreUpTo last.0 h
files_up_to queue version n closed last h r held = files_fine (λ (id : FileId). id.seq ≤ last.0) queue version (closed ++ last ∷ []) h held (none_higher n closed last r)

-- ---- what may stand

-- these batches stand, in files from a number on
pub record StandFrom (n : ℕ) (deeds : List Deed) (h : List Event) : Type 0 where
  pub standing : List Event
  pub stands : MayStand deeds standing
  pub is : in_files_from n standing ≡ h

-- the last is behind a prefix, or in it
behind_or_in : (h : List Event) (e : Event) (front lost : List Event) → h ++ e ∷ [] ≡ front ++ lost → (lost ≡ []) ⊎ ((less : List Event) × (h ≡ front ++ less))
behind_or_in h e [] lost is = inr (h, refl)
behind_or_in [] e (x ∷ front) lost is =
    inl (nil_from_length lost (let k = ap length is in let n = length-append front lost in omega (arith, k, n)))
behind_or_in (y ∷ h) e (x ∷ front) lost is =
    elim (behind_or_in h e front lost (ap (λ (l : List Event). drop 1 l) is)) [
      | inl none ↦ inl none
      | inr r ↦ inr (r.0, ap (λ (l : List Event). y ∷ l) r.1 ∙ ap (λ (x : Event). x ∷ front ++ r.0) (head_is is))
    ]
  where
    head_is : y ∷ h ++ e ∷ [] ≡ x ∷ front ++ lost → y ≡ x
    head_is k = ap (λ (l : List Event). slice_index_or l 0 y) k

-- a prefix with all of them at least is all of them
all_front : (h front more lost : List Event) → front ≡ h ++ more → h ≡ front ++ lost → h ≡ front
all_front h front more lost least split =
    let none : lost ≡ [] = nil_from_length lost (let a = ap length least ∙ length-append h more in let b = ap length split ∙ length-append front lost in omega (arith, a, b)) in
    split ∙ ap (λ (l : List Event). front ++ l) none ∙ append-nil front

-- a prefix with the synced batches at least may stand
pub prefix_stands : (n : ℕ) (deeds : List Deed) (front more lost : List Event) → front ≡ in_files_from n (synced deeds) ++ more → in_files_from n (written deeds) ≡ front ++ lost → StandFrom n deeds front
prefix_stands n [] front more lost least split = record { standing = []; stands = refl; is = all_front (in_files_from n []) front more lost least split }
prefix_stands n (Write e ∷ deeds) front more lost least split = go (λ less is. prefix_stands n deeds front more less least is) (nat_le n e.file.seq) refl
  where
    all : lost ≡ [] → StandFrom n (Write e ∷ deeds) front
    all none = record { standing = written deeds ++ e ∷ []; stands = inr refl; is = split ∙ ap (λ (l : List Event). front ++ l) none ∙ append-nil front }

    lost_too : StandFrom n deeds front → StandFrom n (Write e ∷ deeds) front
    lost_too r = record { standing = r.standing; stands = inl r.stands; is = r.is }

    go : ((less : List Event) → in_files_from n (written deeds) ≡ front ++ less → StandFrom n deeds front) → (b : Bool) → nat_le n e.file.seq ≡ b → StandFrom n (Write e ∷ deeds) front
    go before true k =
        elim (behind_or_in (in_files_from n (written deeds)) e front lost (sym (from_more n (written deeds) e (kept_high n e.file.seq k)) ∙ split)) [
          | inl none ↦ all none
          | inr r ↦ lost_too (before r.0 r.1)
        ]
    go before false k = lost_too (before lost
        (sym (append-nil (in_files_from n (written deeds)))
        ∙ ap (λ (l : List Event). in_files_from n (written deeds) ++ l) (sym (first_kept n e [] ∙ ap (λ (b : Bool). cond b (e ∷ in_files_from n []) (in_files_from n [])) k ∙ from_none n))
        ∙ sym (from_both n (written deeds) (e ∷ [])) ∙ split))
prefix_stands n (Sync ∷ deeds) front more lost least split = record { standing = written deeds; stands = refl; is = all_front (in_files_from n (written deeds)) front more lost least split }
prefix_stands n (Delete m ∷ deeds) front more lost least split = let r = prefix_stands n deeds front more lost least split in record { standing = r.standing; stands = r.stands; is = r.is }
prefix_stands n (Crash standing m ∷ deeds) front more lost least split = record { standing = standing; stands = refl; is = all_front (in_files_from n standing) front more lost least split }

-- where nothing was written since the last sync, all batches are synced
pub all_synced : (deeds : List Deed) → IsSynced deeds → synced deeds ≡ written deeds
all_synced [] i = refl
all_synced (Write e ∷ deeds) i = absurd i
all_synced (Sync ∷ deeds) i = refl
all_synced (Delete n ∷ deeds) i = all_synced deeds i
all_synced (Crash standing n ∷ deeds) i = refl
