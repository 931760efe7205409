-- The fields of `SlotMarks` against what contracts see of them, and a mark changed by a call.
use Rattle.raft_contexts.proofs.Common.{◌≡◌, ◌≢◌, ℕ, cond, nat_eq, List, [], ◌∷◌, Option, Some, None, Result, Ok, Err, refl, sym, ap, subst, ◌∙◌, inl, inr, MutBor, nat_cmp, nat_cmp_total, lookup, option_copied_mut, unwrap_or, OnOk, OnErr}
use Rattle.raft_contexts.proofs.Common.{find, AllocError, Marks, LogQueue, fresh, joined_at, run_added, Mark, mark_in, MarkChange, ChangesMark, IsOneUpdated, IsMarkUpdated, slot_shown, same, by_id, not_same, self_same, get_own, get_other}
use Rattle.raft_contexts.proofs.Common.{insert_same, same_test}
use Rattle.std.specs.FinMap as finite
use Rattle.raft_contexts.specs.declared.region_marks.slot.SlotMarks.TheInside.{Inside}

found : (q : ℕ) (es : List (ℕ × Mark)) → find nat_cmp q es ≡ lookup (nat_eq q) es
found q [] = refl
found q (e ∷ es) = ap (λ b. cond b (Some e.1) (find nat_cmp q es)) (same_test q e.0) ∙ ap (λ o. cond (nat_eq q e.0) (Some e.1) o) (found q es)

pub get-of : (es : List (ℕ × Mark)) (q : ℕ) → finite.get (finite.from_entries {R = nat_cmp} es) q ≡ lookup (nat_eq q) es
get-of es q = finite.get-from_entries nat_cmp_total es q ∙ found q es

pub get-shown : (a : Inside) (m : Marks) (q : ℕ) → slot_shown a ≡ m → finite.get m q ≡ lookup (nat_eq q) a.marks.entries
get-shown a m q is = ap (λ m. finite.get m q) (sym is) ∙ get-of a.marks.entries q

-- one key has another value and the others have theirs
pub shown-with : (a b : Inside) (m : Marks) (k : ℕ) (x : Mark) → slot_shown a ≡ m → ((q : ℕ) → lookup (nat_eq q) b.marks.entries ≡ cond (nat_eq k q) (Some x) (lookup (nat_eq q) a.marks.entries)) → slot_shown b ≡ finite.insert m k x
shown-with a b m k x is h =
    same _ _ (λ q. get-of b.marks.entries q ∙ h q ∙ elim (by_id q k) [
      | inl p ↦ subst (λ q. cond (nat_eq k q) (Some x) (lookup (nat_eq q) a.marks.entries) ≡ finite.get (finite.insert m k x) q) (sym p) (ap (λ b. cond b (Some x) (lookup (nat_eq k) a.marks.entries)) (self_same k) ∙ sym (get_own m k x))
      | inr f ↦ ap (λ b. cond b (Some x) (lookup (nat_eq q) a.marks.entries)) (not_same k q f) ∙ sym (get-shown a m q is) ∙ sym (get_other m k q x f)
    ])

-- the same look-ups show the same marks
pub shown-same : (a b : Inside) (m : Marks) → slot_shown a ≡ m → ((q : ℕ) → lookup (nat_eq q) b.marks.entries ≡ lookup (nat_eq q) a.marks.entries) → slot_shown b ≡ m
shown-same a b m is h = same _ _ (λ q. get-of b.marks.entries q ∙ h q ∙ sym (get-shown a m q is))

-- what a look-up for writing found
pub there : (a : Inside) (m : Marks) (k : ℕ) (o : Option (MutBor Mark)) (x : MutBor Mark) → slot_shown a ≡ m → option_copied_mut o ≡ lookup (nat_eq k) a.marks.entries → o ≡ Some x → finite.get m k ≡ Some x.now
there a m k o x is v e = get-shown a m k is ∙ sym v ∙ ap option_copied_mut e

pub absent : (a : Inside) (m : Marks) (k : ℕ) (o : Option (MutBor Mark)) → slot_shown a ≡ m → option_copied_mut o ≡ lookup (nat_eq k) a.marks.entries → o ≡ None → finite.get m k ≡ None
absent a m k o is v e = get-shown a m k is ∙ sym v ∙ ap option_copied_mut e

-- the region mark of a run alone is that of no step joined with it
pub first_run : (q : LogQueue) (end start : ℕ) → let n : Mark = record fresh { reach = Some start; cut = Some start } in joined_at q end fresh n ≡ n
first_run q end start = sym (run_added q end start fresh)

-- a mark that was there is put in again as it was
pub put_back : (m n : Marks) (id : ℕ) (u x : Mark) → finite.get m id ≡ Some u → n ≡ finite.insert m id x → x ≡ u → n ≡ m
put_back m n id u x is e same = e ∙ insert_same m id x (is ∙ ap Some (sym same))

-- ---- a mark changed by a call

abbrev R : Type 0
R = Result (Unit {0}) AllocError

pub mark_of_some : (m : Marks) (id : ℕ) (x : Mark) → finite.get m id ≡ Some x → mark_in m id ≡ x
mark_of_some m id x e = ap (λ (o : Option Mark). unwrap_or o fresh) e

pub mark_of_none : (m : Marks) (id : ℕ) → finite.get m id ≡ None → mark_in m id ≡ fresh
mark_of_none m id e = ap (λ (o : Option Mark). unwrap_or o fresh) e

now_in : (m n : Marks) (id : ℕ) (x : Mark) → n ≡ finite.insert m id x → mark_in n id ≡ x
now_in m n id x e = mark_of_some n id x (ap (λ y. finite.get y id) e ∙ get_own m id x)

others_of : (m n : Marks) (id : ℕ) (x : Mark) → n ≡ finite.insert m id x → (q : ℕ) → q ≢ id → finite.get n q ≡ finite.get m q
others_of m n id x e q ne = ap (λ y. finite.get y q) e ∙ elim (by_id q id) [ inl p ↦ absurd (ne p) | inr f ↦ get_other m id q x f ]

module _ {F : Type 0} (g : MarkChange F) (f : F) (m : Marks) (id : ℕ) where
  -- the mark that the call left was put in
  put_in : (new : Mark) (n : Marks) → ChangesMark g f (mark_in m id) (Ok tt) new → n ≡ finite.insert m id new → IsMarkUpdated g f m id (Ok tt) n
  put_in new n ch e =
      let now : mark_in n id ≡ new = now_in m n id new e in
      record { changed = subst (ChangesMark g f (mark_in m id) (Ok tt)) (sym now) ch; one = e ∙ ap (finite.insert m id) (sym now); others = others_of m n id new e; err = λ kept. tt }

  -- the mark was there
  pub updated : (u : Mark) (r : R) (new : Mark) (n : Marks) → finite.get m id ≡ Some u → IsOneUpdated g f u r new → n ≡ finite.insert m id new → IsMarkUpdated g f m id r n
  updated u (Ok a) new n is one e = put_in new n (subst (λ w. ChangesMark g f w (Ok tt) new) (sym (mark_of_some m id u is)) one.changed) e
  updated u (Err x) new n is one e = record {
    changed = tt;
    one = tt;
    others = others_of m n id new e;
    err = λ kept. put_back m n id u new is e (one.err (subst (λ w. (y : Mark) → ChangesMark g f w (Err x) y → y ≡ w) (mark_of_some m id u is) kept));
  }

  -- there was no memory for the mark, or for what changes it
  pub refused : (x : AllocError) (n : Marks) → n ≡ m → IsMarkUpdated g f m id (Err x) n
  refused x n e = record { changed = tt; one = tt; others = λ q ne. ap (λ y. finite.get y q) e; err = λ kept. e }

  -- the mark was made, and put in or not
  pub made : (r : R) (new : Mark) (n : Marks) → finite.get m id ≡ None → ChangesMark g f fresh (Ok tt) new → OnOk r (n ≡ finite.insert m id new) → OnErr r (n ≡ m) → IsMarkUpdated g f m id r n
  made (Ok a) new n none ch e k = put_in new n (subst (λ w. ChangesMark g f w (Ok tt) new) (sym (mark_of_none m id none)) ch) e
  made (Err x) new n none ch e k = refused x n k
