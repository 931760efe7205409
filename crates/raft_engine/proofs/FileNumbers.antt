-- Numbers of found files, which are read one after the other.
use Rattle.raft_engine.proofs.Common.{◌≡◌, ◌⊎◌, inl, inr, ℕ, suc, ◌+◌, ◌<◌, ◌≤◌, Vec, List, [], ◌∷◌, ◌++◌, length, map, drop, get_or, refl, sym, ap, ◌∙◌, subst, arith, append_assoc, drop_more, Global, file_shown, AreConsecutive, numbers, StandTogether}

-- the first numbers are consecutive up to this one, and these others follow
pub record AreReadUpTo (ns : List ℕ) (last : ℕ) (rest : List ℕ) : Type 0 where
  pub before : List ℕ
  pub split : ns ≡ before ++ last ∷ rest
  pub consecutive : AreConsecutive (before ++ last ∷ [])

pub read_first : (last : ℕ) (rest : List ℕ) → AreReadUpTo (last ∷ rest) last rest
read_first last rest = record { before = []; split = refl; consecutive = tt }

one_more : (before : List ℕ) (last next : ℕ) → AreConsecutive (before ++ last ∷ []) → next ≡ suc last → AreConsecutive (before ++ last ∷ next ∷ [])
one_more [] last next c e = (e, tt)
one_more (n ∷ []) last next c e = (c.0, (e, tt))
one_more (n ∷ m ∷ before) last next c e = (c.0, one_more (m ∷ before) last next c.1 e)

pub read_more : (ns : List ℕ) (last next : ℕ) (rest : List ℕ) → AreReadUpTo ns last (next ∷ rest) → next ≡ suc last → AreReadUpTo ns next rest
read_more ns last next rest r e = record {
  before = r.before ++ last ∷ [];
  split = r.split ∙ sym (append_assoc r.before (last ∷ []) (next ∷ rest));
  consecutive = subst AreConsecutive (sym (append_assoc r.before (last ∷ []) (next ∷ []))) (one_more r.before last next r.consecutive e);
}

pub all_read : (ns : List ℕ) (last : ℕ) → AreReadUpTo ns last [] → AreConsecutive ns
all_read ns last r = subst AreConsecutive (sym r.split) r.consecutive

pub stand_together : (ns : List ℕ) (last next : ℕ) (rest : List ℕ) → AreReadUpTo ns last (next ∷ rest) → StandTogether ns last next
stand_together ns last next rest r = record { before = r.before; behind = rest; split = r.split; consecutive = r.consecutive }

follows_at : (before : List ℕ) (last next : ℕ) (behind : List ℕ) → AreConsecutive (before ++ last ∷ next ∷ behind) → next ≡ suc last
follows_at [] last next behind c = c.0
follows_at (n ∷ []) last next behind c = c.1.0
follows_at (n ∷ m ∷ before) last next behind c = follows_at (m ∷ before) last next behind c.1

-- of consecutive numbers each follows the one before it
pub not_together : (ns : List ℕ) (last next : ℕ) → StandTogether ns last next → AreConsecutive ns → (next ≤ last) ⊎ (suc last < next) → ⊥
not_together ns last next t c apart =
    let follows = follows_at t.before last next t.behind (subst AreConsecutive t.split c) in elim apart [
      | inl back ↦ absurd (omega (arith, follows, back))
      | inr gap ↦ absurd (omega (arith, follows, gap))
    ]

-- ---- files

pub numbers_left : (files : List (ℕ × Vec ℕ Global)) (i : ℕ) (file d : ℕ × Vec ℕ Global) → i < length files → file ≡ get_or files i d
    → numbers (map file_shown (drop i files)) ≡ file.0 ∷ numbers (map file_shown (drop (i + 1) files))
numbers_left files i file d less is =
    ap (λ (left : List (ℕ × Vec ℕ Global)). numbers (map file_shown left)) (drop_more files i d less)
    ∙ ap (λ (f : ℕ × Vec ℕ Global). f.0 ∷ numbers (map file_shown (drop (i + 1) files))) (sym is)

pub next_read : (ns : List ℕ) (last : ℕ) (files : List (ℕ × Vec ℕ Global)) (i : ℕ) (file d : ℕ × Vec ℕ Global) → i < length files → file ≡ get_or files i d
    → AreReadUpTo ns last (numbers (map file_shown (drop i files))) → AreReadUpTo ns last (file.0 ∷ numbers (map file_shown (drop (i + 1) files)))
next_read ns last files i file d less is r = subst (AreReadUpTo ns last) (numbers_left files i file d less is) r
