-- Where each group is in one file, the files that stay end no group of those that go.
use Rattle.raft_engine_laws.proofs.Common.{◌≡◌, ℕ, Bool, true, false, cond, List, [], ◌∷◌, ◌++◌, refl, sym, ap, subst, ◌∙◌, filter, nat_le, Event, EndNoOlderGroup, in_files_from, AreInFileOf, FilesEndNoOlderGroup}
use Rattle.raft_engine_laws.proofs.GroupFronts.{ends_none-none, ends_none-append}
use Rattle.raft_engine_laws.proofs.CrashLemmas.{keeps, from-append, from_none}

-- the batches of one file stay or go together
pub of_file : (n seq : ℕ) (b : Bool) (k : List Event) → nat_le n seq ≡ b → AreInFileOf seq k → in_files_from n k ≡ cond b k []
unfolding in_files_from
of_file n seq true [] e h = refl
of_file n seq false [] e h = refl
of_file n seq true (x ∷ k) e h = ap (λ c. cond c (x ∷ filter (keeps n) k) (filter (keeps n) k)) (ap (nat_le n) h.0 ∙ e) ∙ ap (λ l. x ∷ l) (of_file n seq true k e h.1)
of_file n seq false (x ∷ k) e h = ap (λ c. cond c (x ∷ filter (keeps n) k) (filter (keeps n) k)) (ap (nat_le n) h.0 ∙ e) ∙ of_file n seq false k e h.1

pub no_files_end : FilesEndNoOlderGroup []
no_files_end n = subst EndNoOlderGroup (sym (from_none n)) ends_none-none

pub more_files_end : (h k : List Event) (seq : ℕ) → FilesEndNoOlderGroup h → AreInFileOf seq k → EndNoOlderGroup k → FilesEndNoOlderGroup (h ++ k)
more_files_end h k seq a in_file b n =
    subst EndNoOlderGroup (sym (from-append n h k)) (ends_none-append (in_files_from n h) (in_files_from n k) (a n) (subst EndNoOlderGroup (sym (of_file n seq (nat_le n seq) k refl in_file)) (go (nat_le n seq))))
  where
    go : (c : Bool) → EndNoOlderGroup (cond c k [])
    go true = b
    go false = ends_none-none
