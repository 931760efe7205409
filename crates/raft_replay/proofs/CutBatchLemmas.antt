-- A part that is cut where a batch ends.
use Rattle.raft_replay.proofs.Common.{◌≡◌, ℕ, ◌≤◌, List, [], ◌∷◌, ◌++◌, length, refl, sym, ap, ◌∙◌, subst, arith, length-take-le, Part, Event, bytes_before, rest_of, BatchesMeet, HoldsFrom, AreCutFrom, batch_inside}
use Rattle.raft_replay.proofs.CutPartLemmas.{cut_in_two, of_front}
use Rattle.raft_replay.proofs.SegmentLemmas.{batch_unique}

module _ (part : Part) (at : ℕ) (inside : at ≤ length part.bytes) where
  abbrev front : Part
  front = bytes_before part at

  -- what stands before the byte is read first, and the rest from there on
  left : (i : ℕ) (first h : List Event) → HoldsFrom front i first → HoldsFrom part i h → (rest : List Event) × (h ≡ first ++ rest) × HoldsFrom part at rest
  left i [] h ends held = (h, refl, subst (λ (n : ℕ). HoldsFrom part n h) (ends ∙ length-take-le at part.bytes inside) held)
  left i (e ∷ first) [] f ends =
      let b = batch_inside front i e.items f.1.0 f.1.1 in
      let n = length-take-le at part.bytes inside in
      absurd (omega (arith, b.0, b.1, n, ends, inside))
  left i (e ∷ first) (g ∷ h) f held =
      let one = batch_unique part i g.items e.items held.1.0 f.1.0 held.1.1 (of_front part at i f.1.0 e.items f.1.1) in
      let r = left f.1.0 first h f.1.2 (subst (λ (n : ℕ). HoldsFrom part n h) one.1 held.1.2) in
      let file : g.file ≡ e.file = held.0 ∙ sym f.0 in
      let same : g ≡ e = λ j. record { items = one.0 j; file = file j } in
      (r.0, ap (λ (l : List Event). g ∷ l) r.1 ∙ ap (λ (x : Event). x ∷ (first ++ r.0)) same, r.2)

  meets : (first : List Event) → HoldsFrom front 0 first → BatchesMeet part at
  meets first held h all =
      let r = left 0 first h held all in
      record { first = first; rest = r.0; first_held = held; rest_held = r.2; split = r.1 }

  pub cut_where_batches_end : (first : List Event) → HoldsFrom front 0 first → AreCutFrom part (front ∷ rest_of part at ∷ [])
  cut_where_batches_end first held = cut_in_two part at inside (meets first held)
