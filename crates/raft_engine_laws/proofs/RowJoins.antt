-- Two neighbors know together whether each group of their batches stands in a row.
use Rattle.raft_engine_laws.proofs.Common.{◌≡◌, ◌↔◌, ℕ, true, List, [], ◌∷◌, ◌++◌, Option, None, refl, sym, subst, ◌∙◌, append-nil, Event, batch_of, MayStandBy, StandBehind, AreGroupsInRows, left_open, open_behind, Summary, FirstMayStand, IsSummaryOf, IsSeam, AreJoined}

stand_first : (x : Option (ℕ × ℕ)) (h g : List Event) → StandBehind x (h ++ g) → StandBehind x h
stand_first x [] g k = tt
stand_first x (e ∷ h) g k = (k.0, stand_first (left_open e) h g k.1)

stand_later : (x : Option (ℕ × ℕ)) (h g : List Event) → StandBehind x (h ++ g) → StandBehind (open_behind x h) g
stand_later x [] g k = k
stand_later x (e ∷ h) g k = stand_later (left_open e) h g k.1

stand_both : (x : Option (ℕ × ℕ)) (h g : List Event) → StandBehind x h → StandBehind (open_behind x h) g → StandBehind x (h ++ g)
stand_both x [] g k l = l
stand_both x (e ∷ h) g k l = (k.0, stand_both (left_open e) h g k.1 l)

open_both : (x : Option (ℕ × ℕ)) (h g : List Event) → open_behind x (h ++ g) ≡ open_behind (open_behind x h) g
open_both x [] g = refl
open_both x (e ∷ h) g = open_both (left_open e) h g

-- the whole stands where the first may stand and the rest does
pub whole_stands : (s : Summary) (h : List Event) → IsSummaryOf s h → (FirstMayStand s.first None × (s.inner ≡ true)) ↔ AreGroupsInRows h
whole_stands s [] k = ((λ x. tt), (λ x. (subst (λ o. FirstMayStand o None) (sym k.first) tt, k.inner.1 tt)))
whole_stands s (e ∷ h) k = (
  (λ x. (subst (λ o. FirstMayStand o None) k.first x.0, k.inner.0 x.1)),
  (λ x. (subst (λ o. FirstMayStand o None) (sym k.first) x.0, k.inner.1 x.1)),
)

module _ (s t b : Summary) (j : AreJoined s t b) where
  pub joined_summary : (h g : List Event) → IsSummaryOf s h → IsSummaryOf t g → IsSummaryOf b (h ++ g)
  joined_summary [] g k l = record {
    first = j.first_newer k.first ∙ l.first;
    left = left g l;
    inner = ((λ x. l.inner.0 (j.inner.0 x).2), (λ x. j.inner.1 (k.inner.1 tt, subst (λ o. IsSeam o s.left t.first) (sym k.first) tt, l.inner.1 x)));
  }
    where
      left : (g : List Event) → IsSummaryOf t g → b.left ≡ open_behind None g
      left [] l = j.left_older l.first ∙ k.left
      left (f ∷ g) l = j.left_newer (record { marker = (batch_of f).marker; seq = f.file.seq }) l.first ∙ l.left
  joined_summary (e ∷ h) [] k l = subst (IsSummaryOf b) (sym (append-nil (e ∷ h))) (record {
    first = j.first_older (record { marker = (batch_of e).marker; seq = e.file.seq }) k.first;
    left = j.left_older l.first ∙ k.left;
    inner = ((λ x. k.inner.0 (j.inner.0 x).0), (λ x. j.inner.1 (k.inner.1 x, seam, l.inner.1 tt)));
  })
    where
      seam : IsSeam s.first s.left t.first
      seam = subst (λ o. IsSeam o s.left t.first) (sym k.first) (subst (λ o. FirstMayStand o s.left) (sym l.first) tt)
  joined_summary (e ∷ h) (f ∷ g) k l = record {
    first = j.first_older (record { marker = (batch_of e).marker; seq = e.file.seq }) k.first;
    left = j.left_newer (record { marker = (batch_of f).marker; seq = f.file.seq }) l.first ∙ l.left ∙ sym (open_both (left_open e) h (f ∷ g));
    inner = (
      (λ x. stand_both (left_open e) h (f ∷ g) (k.inner.0 (j.inner.0 x).0) (seam_on (j.inner.0 x).1, l.inner.0 (j.inner.0 x).2)),
      (λ x. j.inner.1 (k.inner.1 (stand_first (left_open e) h (f ∷ g) x), seam_of (stand_later (left_open e) h (f ∷ g) x).0, l.inner.1 (stand_later (left_open e) h (f ∷ g) x).1)),
    );
  }
    where
      seam_on : IsSeam s.first s.left t.first → MayStandBy (batch_of f).marker f.file.seq (open_behind (left_open e) h)
      seam_on x = subst (λ w. MayStandBy (batch_of f).marker f.file.seq w) k.left (subst (λ o. FirstMayStand o s.left) l.first (subst (λ o. IsSeam o s.left t.first) k.first x))

      seam_of : MayStandBy (batch_of f).marker f.file.seq (open_behind (left_open e) h) → IsSeam s.first s.left t.first
      seam_of x = subst (λ o. IsSeam o s.left t.first) (sym k.first) (subst (λ o. FirstMayStand o s.left) (sym l.first) (subst (λ w. MayStandBy (batch_of f).marker f.file.seq w) (sym k.left) x))
