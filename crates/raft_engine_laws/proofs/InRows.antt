-- Batches of which each group stands in a row: their effects are apart, and wherever deleted files end no group is cut.
use Rattle.raft_engine_laws.proofs.Common.{◌≡◌, ◌⊎◌, inl, inr, ℕ, Bool, true, false, cond, List, [], ◌∷◌, ◌++◌, Option, Some, None, refl, sym, ap, subst, ◌∙◌, append-nil, append_assoc, filter, nat_le, AllByRecursion, false≢true, none-some, AtomicGroupStatus, Begin, Middle, End}
use Rattle.raft_engine_laws.proofs.Common.{Event, GroupMarker, batch_of, effects_behind, Apart, some_is, HasNoMarker, LeavesOpen, IsBeforeEnd, IsMarked, IsWholeGroup, open_as, open_behind, open_by, left_open, MayStandAs, MayStandBy, StandBehind, AreGroupsInRows, Deed, written}
use Rattle.raft_engine_laws.proofs.Common.{in_files_from, AreInFileOf, FilesEndNoOlderGroup, IsLeft}
use Rattle.raft_engine_laws.proofs.GroupFiles.{no_files_end, more_files_end}
use Rattle.raft_engine_laws.proofs.GroupFronts.{ends_none-alone, ends_none-group, ends_none-open}
use Rattle.raft_engine_laws.proofs.GroupRows.{alone_apart, open_apart, group_apart}
use Rattle.raft_engine_laws.proofs.CrashLemmas.{keeps, stands_in_front}

-- ---- more, and fewer

pub rows_prefix : (left : Option (ℕ × ℕ)) (h k : List Event) → StandBehind left (h ++ k) → StandBehind left h
rows_prefix left [] k a = tt
rows_prefix left (e ∷ h) k a = (a.0, rows_prefix (left_open e) h k a.1)

pub rows_back : (left : Option (ℕ × ℕ)) (h k : List Event) → StandBehind left (h ++ k) → StandBehind (open_behind left h) k
rows_back left [] k a = a
rows_back left (e ∷ h) k a = rows_back (left_open e) h k a.1

pub rows_both : (left : Option (ℕ × ℕ)) (h k : List Event) → StandBehind left h → StandBehind (open_behind left h) k → StandBehind left (h ++ k)
rows_both left [] k a b = b
rows_both left (e ∷ h) k a b = (a.0, rows_both (left_open e) h k a.1 b)

pub open_more : (left : Option (ℕ × ℕ)) (h k : List Event) → open_behind left (h ++ k) ≡ open_behind (open_behind left h) k
open_more left [] k = refl
open_more left (e ∷ h) k = open_more (left_open e) h k

-- a batch more that may stand anywhere
pub rows_more : (left : Option (ℕ × ℕ)) (h : List Event) (e : Event) → StandBehind left h → ((o : Option (ℕ × ℕ)) → MayStandBy (batch_of e).marker e.file.seq o) → StandBehind left (h ++ e ∷ [])
rows_more left h e a free = rows_both left h (e ∷ []) a (free (open_behind left h), tt)

pub rows_alone : (h : List Event) (e : Event) → HasNoMarker e → AreGroupsInRows h → AreGroupsInRows (h ++ e ∷ [])
rows_alone h e plain a = rows_more None h e a (λ o. subst (λ (m : Option GroupMarker). MayStandBy m e.file.seq o) (sym plain) tt)

pub rows_begun : (h : List Event) (g : ℕ) (e : Event) → IsMarked g Begin e → AreGroupsInRows h → AreGroupsInRows (h ++ e ∷ [])
rows_begun h g e begins a = rows_more None h e a (λ o. subst (λ (m : Option GroupMarker). MayStandBy m e.file.seq o) (sym begins) tt)

-- a group that a batch begins or goes on with is open behind it
opens : (g : ℕ) (s : AtomicGroupStatus) (e : Event) (seq : ℕ) → IsMarked g s e → e.file.seq ≡ seq → left_open e ≡ open_as s g seq
opens g s e seq marked file = ap (λ (m : Option GroupMarker). open_by m e.file.seq) marked ∙ ap (open_as s g) file

row_open : (g seq : ℕ) (left : Option (ℕ × ℕ)) (middles : List Event) → left ≡ Some (g, seq) → AllByRecursion (IsMarked g Middle) middles → AreInFileOf seq middles → open_behind left middles ≡ Some (g, seq)
row_open g seq left [] is marked in_file = is
row_open g seq left (e ∷ middles) is marked in_file = row_open g seq (left_open e) middles (opens g Middle e seq marked.0 in_file.0) marked.1 in_file.1

pub rows_gone_on : (h : List Event) (g : ℕ) (begin : Event) (middles : List Event) (e : Event) → AreGroupsInRows (h ++ begin ∷ middles) → IsMarked g Begin begin → AllByRecursion (IsMarked g Middle) middles
    → AreInFileOf e.file.seq (begin ∷ middles) → IsMarked g Middle e ⊎ IsMarked g End e → AreGroupsInRows ((h ++ begin ∷ middles) ++ e ∷ [])
rows_gone_on h g begin middles e a begins goes_on in_file how =
    rows_both None (h ++ begin ∷ middles) (e ∷ []) a
    (subst (MayStandBy (batch_of e).marker e.file.seq) (sym (open_more None h (begin ∷ middles) ∙ row_open g e.file.seq (left_open begin) middles (opens g Begin begin e.file.seq begins in_file.0) goes_on in_file.1)) (may how), tt)
  where
    may : IsMarked g Middle e ⊎ IsMarked g End e → MayStandBy (batch_of e).marker e.file.seq (Some (g, e.file.seq))
    may (inl m) = subst (λ (o : Option GroupMarker). MayStandBy o e.file.seq (Some (g, e.file.seq))) (sym m) refl
    may (inr m) = subst (λ (o : Option GroupMarker). MayStandBy o e.file.seq (Some (g, e.file.seq))) (sym m) refl

-- ---- files from a number on

-- what one leaves open in a file from the number on, the other does
abbrev AreOpenFrom : ℕ → Option (ℕ × ℕ) → Option (ℕ × ℕ) → Type 0
AreOpenFrom n o p = (group seq : ℕ) → nat_le n seq ≡ true → o ≡ Some (group, seq) → p ≡ Some (group, seq)

open_seq : (m : Option GroupMarker) (seq group other : ℕ) → open_by m seq ≡ Some (group, other) → seq ≡ other
open_seq None seq group other e = absurd (none-some _ e)
open_seq (Some m) seq group other e = go m.status e
  where
    go : (s : AtomicGroupStatus) → open_as s m.group seq ≡ Some (group, other) → seq ≡ other
    go Begin e = ap (λ (p : ℕ × ℕ). p.1) (some_is e)
    go Middle e = ap (λ (p : ℕ × ℕ). p.1) (some_is e)
    go End e = absurd (none-some _ e)

stands_from : (m : Option GroupMarker) (n seq : ℕ) (o p : Option (ℕ × ℕ)) → nat_le n seq ≡ true → AreOpenFrom n o p → MayStandBy m seq o → MayStandBy m seq p
stands_from None n seq o p kept same a = tt
stands_from (Some m) n seq o p kept same a = go m.status a
  where
    go : (s : AtomicGroupStatus) → MayStandAs s m.group seq o → MayStandAs s m.group seq p
    go Begin a = tt
    go Middle a = same m.group seq kept a
    go End a = same m.group seq kept a

pub rows_from : (n : ℕ) (o p : Option (ℕ × ℕ)) (h : List Event) → AreOpenFrom n o p → StandBehind o h → StandBehind p (in_files_from n h)
unfolding in_files_from
rows_from n o p [] same a = tt
rows_from n o p (e ∷ h) same a = go (λ q k. rows_from n (left_open e) q h k a.1) (keeps n e) refl
  where
    gone : keeps n e ≡ false → AreOpenFrom n (left_open e) p
    gone k group seq kept is = absurd (false≢true (sym k ∙ ap (nat_le n) (open_seq (batch_of e).marker e.file.seq group seq is) ∙ kept))

    go : ((q : Option (ℕ × ℕ)) → AreOpenFrom n (left_open e) q → StandBehind q (filter (keeps n) h)) → (b : Bool) → keeps n e ≡ b → StandBehind p (cond b (e ∷ filter (keeps n) h) (filter (keeps n) h))
    go rest true k = (stands_from (batch_of e).marker n e.file.seq o p k same a.0, rest (left_open e) (λ group seq kept is. is))
    go rest false k = rest p (gone k)

pub in_rows_from : (n : ℕ) (h : List Event) → AreGroupsInRows h → AreGroupsInRows (in_files_from n h)
in_rows_from n h a = rows_from n None None h (λ group seq kept is. is) a

-- what is left of batches in rows
pub rows_left : (deeds : List Deed) (standing h : List Event) → AreGroupsInRows (written deeds) → IsLeft deeds standing h → AreGroupsInRows h
rows_left deeds standing h a l =
    let f = stands_in_front deeds standing l.stands in
    subst AreGroupsInRows (sym l.left) (in_rows_from l.gone standing (rows_prefix None standing f.0 (subst AreGroupsInRows f.1 a)))

-- ---- what is known of batches in rows

-- where a group is open, its Begin and Middles stand last, in one file
pub record IsOpenRow (h : List Event) (group seq : ℕ) : Type 0 where
  pub earlier : List Event
  pub begin : Event
  pub middles : List Event
  pub split : h ≡ earlier ++ begin ∷ middles
  pub begins : IsMarked group Begin begin
  pub goes_on : AllByRecursion (IsMarked group Middle) middles
  pub in_file : AreInFileOf seq (begin ∷ middles)
  pub apart : Apart earlier
  pub files : FilesEndNoOlderGroup earlier

abbrev pub IsOpenRowIn : List Event → Option (ℕ × ℕ) → Type 0
IsOpenRowIn h None = Unit {0}
IsOpenRowIn h (Some o) = IsOpenRow h o.0 o.1

pub record AreRows (h : List Event) (left : Option (ℕ × ℕ)) : Type 0 where
  pub apart : Apart h
  pub files : FilesEndNoOlderGroup h
  pub row : IsOpenRowIn h left

pub no_rows : AreRows [] None
unfolding effects_behind
no_rows = record { apart = record { each = tt }; files = no_files_end; row = tt }

all_last : {A : Type 0} (P : A → Type 0) (xs : List A) (x : A) → AllByRecursion P xs → P x → AllByRecursion P (xs ++ x ∷ [])
all_last P [] x a p = (p, tt)
all_last P (y ∷ xs) x a p = (a.0, all_last P xs x a.1 p)

one_row : (h : List Event) (e : Event) (left : Option (ℕ × ℕ)) → AreRows h left → MayStandBy (batch_of e).marker e.file.seq left → AreRows (h ++ e ∷ []) (left_open e)
one_row h e left a may = go (batch_of e).marker refl may
  where
    alone : HasNoMarker e → AreRows (h ++ e ∷ []) None
    alone plain = record {
      apart = alone_apart h e plain a.apart;
      files = more_files_end h (e ∷ []) e.file.seq a.files (refl, tt) (ends_none-alone e plain);
      row = tt;
    }

    begun : (m : GroupMarker) → (batch_of e).marker ≡ Some m → m.status ≡ Begin → AreRows (h ++ e ∷ []) (Some (m.group, e.file.seq))
    begun m is was =
        let opens : LeavesOpen e = subst IsBeforeEnd (sym is) (λ k. absurd cc) in record {
          apart = open_apart h e opens a.apart;
          files = more_files_end h (e ∷ []) e.file.seq a.files (refl, tt) (ends_none-open e opens);
          row = record {
            earlier = h;
            begin = e;
            middles = [];
            split = refl;
            begins = is ∙ ap (λ (s : AtomicGroupStatus). Some (record { group = m.group; status = s })) was;
            goes_on = tt;
            in_file = (refl, tt);
            apart = a.apart;
            files = a.files;
          };
        }

    went_on : (m : GroupMarker) → (batch_of e).marker ≡ Some m → m.status ≡ Middle → left ≡ Some (m.group, e.file.seq) → AreRows (h ++ e ∷ []) (Some (m.group, e.file.seq))
    went_on m is was here =
        let opens : LeavesOpen e = subst IsBeforeEnd (sym is) (λ k. absurd cc) in
        let r : IsOpenRow h m.group e.file.seq = subst (IsOpenRowIn h) here a.row in record {
          apart = open_apart h e opens a.apart;
          files = more_files_end h (e ∷ []) e.file.seq a.files (refl, tt) (ends_none-open e opens);
          row = record {
            earlier = r.earlier;
            begin = r.begin;
            middles = r.middles ++ e ∷ [];
            split = ap (λ (l : List Event). l ++ e ∷ []) r.split ∙ append_assoc r.earlier (r.begin ∷ r.middles) (e ∷ []);
            begins = r.begins;
            goes_on = all_last (IsMarked m.group Middle) r.middles e r.goes_on (is ∙ ap (λ (s : AtomicGroupStatus). Some (record { group = m.group; status = s })) was);
            in_file = (r.in_file.0, all_last (λ (x : Event). x.file.seq ≡ e.file.seq) r.middles e r.in_file.1 refl);
            apart = r.apart;
            files = r.files;
          };
        }

    ended : (m : GroupMarker) → (batch_of e).marker ≡ Some m → m.status ≡ End → left ≡ Some (m.group, e.file.seq) → AreRows (h ++ e ∷ []) None
    ended m is was here =
        let r : IsOpenRow h m.group e.file.seq = subst (IsOpenRowIn h) here a.row in
        let whole : IsWholeGroup m.group r.begin r.middles e = record {
          begins = r.begins;
          goes_on = r.goes_on;
          ends = is ∙ ap (λ (s : AtomicGroupStatus). Some (record { group = m.group; status = s })) was;
        } in
        let joined : r.earlier ++ r.begin ∷ (r.middles ++ e ∷ []) ≡ h ++ e ∷ [] = sym (ap (λ (l : List Event). l ++ e ∷ []) r.split ∙ append_assoc r.earlier (r.begin ∷ r.middles) (e ∷ [])) in record {
          apart = subst Apart joined (group_apart r.earlier r.middles m.group r.begin e whole r.apart);
          files = subst FilesEndNoOlderGroup joined (more_files_end r.earlier (r.begin ∷ (r.middles ++ e ∷ [])) e.file.seq r.files
              (r.in_file.0, all_last (λ (x : Event). x.file.seq ≡ e.file.seq) r.middles e r.in_file.1 refl) (ends_none-group m.group r.begin r.middles e whole));
          row = tt;
        }

    by : (s : AtomicGroupStatus) (m : GroupMarker) → m.status ≡ s → (batch_of e).marker ≡ Some m → MayStandAs s m.group e.file.seq left → AreRows (h ++ e ∷ []) (open_as s m.group e.file.seq)
    by Begin m was is may = begun m is was
    by Middle m was is may = went_on m is was may
    by End m was is may = ended m is was may

    go : (m : Option GroupMarker) → (batch_of e).marker ≡ m → MayStandBy m e.file.seq left → AreRows (h ++ e ∷ []) (open_by m e.file.seq)
    go None is may = alone is
    go (Some m) is may = by m.status m refl is may

pub more_rows : (h k : List Event) (left : Option (ℕ × ℕ)) → AreRows h left → StandBehind left k → AreRows (h ++ k) (open_behind left k)
more_rows h [] left a b = subst (λ (l : List Event). AreRows l left) (sym (append-nil h)) a
more_rows h (e ∷ k) left a b =
    subst (λ (l : List Event). AreRows l (open_behind (left_open e) k)) (append_assoc h (e ∷ []) k) (more_rows (h ++ e ∷ []) k (left_open e) (one_row h e left a b.0) b.1)

pub rows_apart : (h : List Event) → AreGroupsInRows h → Apart h
rows_apart h a = (more_rows [] h None no_rows a).apart

pub rows_files : (h : List Event) → AreGroupsInRows h → FilesEndNoOlderGroup h
rows_files h a = (more_rows [] h None no_rows a).files
