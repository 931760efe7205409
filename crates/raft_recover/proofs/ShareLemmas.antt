-- Parts that are divided, and segments as the parts in them.
use Rattle.raft_recover.proofs.Common.{◌≡◌, ◌↔◌, ℕ, ◌+◌, ◌<◌, List, [], ◌∷◌, ◌++◌, Vec, length, sym, refl, ap, ◌∙◌, subst, arith, append_assoc, append-nil, Global, AllByRecursion, All-from_recursion, recursion_from_All, FileId, LogQueue}
use Rattle.raft_history.proofs.EffectLemmas.{each-append, each_weaker}
use Rattle.raft_recover.proofs.Common.{Part, Event, AreCutInTurn, SegmentsHold, SegmentsAreOf, parts_within, PartHolds, PartsHold, PartsAreOf, each_join, each_cut, IsCutInto, AreDivided}

abbrev IsOf : LogQueue → Part → Type 0
IsOf queue part = part.id.queue ≡ queue

abbrev AreOf : LogQueue → List Part → Type 0
AreOf queue parts = AllByRecursion (IsOf queue) parts

split_of : (queue : LogQueue) (xs ys : List Part) → AreOf queue (xs ++ ys) → AreOf queue xs × AreOf queue ys
split_of queue [] ys p = (tt, p)
split_of queue (x ∷ xs) ys p = let r = split_of queue xs ys p.1 in ((p.0, r.0), r.1)

-- ---- parts that are divided

-- one part more is cut
pub divided_more : (these more those new cut : List Part) (part : Part) → AreDivided these those → IsCutInto part cut → more ≡ these ++ part ∷ [] → new ≡ those ++ cut → AreDivided more new
divided_more these more those new cut part before one more_is new_is =
    subst (λ (l : List Part). AreDivided l new) (sym more_is) (subst (AreDivided (these ++ part ∷ [])) (sym new_is) (longer these those before))
  where
    longer : (xs ys : List Part) → AreDivided xs ys → AreDivided (xs ++ part ∷ []) (ys ++ cut)
    longer [] ys none = (cut, [], ap (λ (l : List Part). l ++ cut) none ∙ sym (append-nil cut), one, refl)
    longer (x ∷ xs) ys d =
        (d.0, d.1 ++ cut, ap (λ (l : List Part). l ++ cut) d.2 ∙ append_assoc d.0 d.1 cut, d.3, longer xs d.1 d.4)

pub divided_bytes : (xs ys : List Part) → AreDivided xs ys → AreCutInTurn xs ys
divided_bytes [] ys none = none
divided_bytes (x ∷ xs) ys d = (d.0, d.1, d.2, d.3.bytes, divided_bytes xs d.1 d.4)

divided_read : (xs ys : List Part) → AreDivided xs ys → (h : List Event) → PartsHold xs h ↔ PartsHold ys h
divided_read [] ys none h = (subst (λ (l : List Part). PartsHold l h) (sym none), subst (λ (l : List Part). PartsHold l h) none)
divided_read (x ∷ xs) ys d h = (
  λ held. subst (λ (l : List Part). PartsHold l h) (sym d.2)
      (subst (PartsHold (d.0 ++ d.1)) (sym held.split)
      (each_join PartHolds d.0 d.1 held.first held.rest ((d.3.same held.first).0 held.first_held) ((divided_read xs d.1 d.4 held.rest).0 held.rest_held))),
  λ held.
      let cut = each_cut PartHolds d.0 d.1 h (subst (λ (l : List Part). PartsHold l h) d.2 held) in
      record { first = cut.first; rest = cut.rest; first_held = (d.3.same cut.first).1 cut.first_held; rest_held = (divided_read xs d.1 d.4 cut.rest).1 cut.rest_held; split = cut.split },
)

whole_of : (queue : LogQueue) (part : Part) (cut : List Part) → AllByRecursion (λ (p : Part). p.id ≡ part.id) cut → 0 < length cut → AreOf queue cut → IsOf queue part
whole_of queue part [] all some is = absurd (omega (arith, some))
whole_of queue part (p ∷ ps) all some is = ap (λ (id : FileId). id.queue) (sym all.0) ∙ is.0

divided_of : (queue : LogQueue) (xs ys : List Part) → AreDivided xs ys → AreOf queue xs ↔ AreOf queue ys
divided_of queue [] ys none = ((λ of. subst (AreOf queue) (sym none) tt), λ of. tt)
divided_of queue (x ∷ xs) ys d =
    let file = recursion_from_All (λ (p : Part). p.id ≡ x.id) d.0 d.3.file in
    let rest = divided_of queue xs d.1 d.4 in (
      λ of. subst (AreOf queue) (sym d.2)
          (each-append (IsOf queue) d.0 d.1 (each_weaker (λ (p : Part). p.id ≡ x.id) (IsOf queue) (λ p is. ap (λ (id : FileId). id.queue) is ∙ of.0) d.0 file) (rest.0 of.1)),
      λ of. let both = split_of queue d.0 d.1 (subst (AreOf queue) d.2 of) in (whole_of queue x d.0 file d.3.some both.0, rest.1 both.1),
    )

-- ---- segments as the parts in them

pub within_append : (xs ys : List (Vec Part Global)) → parts_within (xs ++ ys) ≡ parts_within xs ++ parts_within ys
within_append [] ys = refl
within_append (x ∷ xs) ys = ap (λ (l : List Part). x.items ++ l) (within_append xs ys) ∙ sym (append_assoc x.items (parts_within xs) (parts_within ys))

pub within_push : (segments : List (Vec Part Global)) (segment : Vec Part Global) → parts_within (segments ++ segment ∷ []) ≡ parts_within segments ++ segment.items
within_push segments segment = within_append segments (segment ∷ []) ∙ ap (λ (l : List Part). parts_within segments ++ l) (append-nil segment.items)

pub read_within : (segments : List (Vec Part Global)) (h : List Event) → SegmentsHold segments h → PartsHold (parts_within segments) h
read_within [] h r = r
read_within (s ∷ ss) h r =
    subst (PartsHold (s.items ++ parts_within ss)) (sym r.split) (each_join PartHolds s.items (parts_within ss) r.first r.rest r.first_held (read_within ss r.rest r.rest_held))

within_read : (segments : List (Vec Part Global)) (h : List Event) → PartsHold (parts_within segments) h → SegmentsHold segments h
within_read [] h r = r
within_read (s ∷ ss) h r =
    let c = each_cut PartHolds s.items (parts_within ss) h r in
    record { first = c.first; rest = c.rest; first_held = c.first_held; rest_held = within_read ss c.rest c.rest_held; split = c.split }

each_within : (queue : LogQueue) (segments : List (Vec Part Global)) → AllByRecursion (λ (s : Vec Part Global). PartsAreOf queue s.items) segments ↔ AreOf queue (parts_within segments)
each_within queue [] = ((λ p. p), λ p. p)
each_within queue (s ∷ ss) = let rest = each_within queue ss in (
  λ p. each-append (IsOf queue) s.items (parts_within ss) (recursion_from_All (IsOf queue) s.items p.0) (rest.0 p.1),
  λ p. let both = split_of queue s.items (parts_within ss) p in (All-from_recursion (IsOf queue) s.items both.0, rest.1 both.1),
)

of_within : (queue : LogQueue) (segments : List (Vec Part Global)) → SegmentsAreOf queue segments ↔ AreOf queue (parts_within segments)
of_within queue segments = let each = each_within queue segments in
    ((λ p. each.0 (recursion_from_All (λ s. PartsAreOf queue s.items) segments p)), λ p. All-from_recursion (λ s. PartsAreOf queue s.items) segments (each.1 p))

-- shares into whose parts those of segments are divided
module _ (segments shares : List (Vec Part Global)) (divided : AreDivided (parts_within segments) (parts_within shares)) where
  pub shares_read : (h : List Event) → SegmentsHold segments h ↔ SegmentsHold shares h
  shares_read h = let d = divided_read _ _ divided h in
      ((λ r. within_read shares h (d.0 (read_within segments h r))), λ r. within_read segments h (d.1 (read_within shares h r)))

  pub shares_of_queue : (queue : LogQueue) → SegmentsAreOf queue segments ↔ SegmentsAreOf queue shares
  shares_of_queue queue = let a = of_within queue segments in let b = of_within queue shares in let d = divided_of queue _ _ divided in
      ((λ r. b.1 (d.0 (a.0 r))), λ r. a.1 (d.1 (b.0 r)))

-- ---- parts as shares

-- the shares so far, the parts of the last one and those that are left make up the whole, and one more share has room
pub record AreShared (count : ℕ) (parts left last : List Part) (shares : List (Vec Part Global)) : Type 0 where
  pub same : (parts_within shares ++ last) ++ left ≡ parts
  pub few : length shares < count

pub no_shares : (count : ℕ) (parts left last : List Part) (shares : List (Vec Part Global)) → left ≡ parts → last ≡ [] → shares ≡ [] → 0 < count → AreShared count parts left last shares
no_shares count parts left last shares left_is last_is shares_is some = record {
  same = ap (λ (ss : List (Vec Part Global)). (parts_within ss ++ last) ++ left) shares_is ∙ ap (λ (l : List Part). l ++ left) last_is ∙ left_is;
  few = subst (λ (ss : List (Vec Part Global)). length ss < count) (sym shares_is) some;
}

-- one part more goes to the last share
pub more_shared : (count : ℕ) (parts left last ended new : List Part) (part : Part) (shares more : List (Vec Part Global)) → AreShared count parts (part ∷ left) last shares
    → parts_within more ++ ended ≡ parts_within shares ++ last → (length shares < count → length more < count) → new ≡ ended ++ part ∷ [] → AreShared count parts left new more
more_shared count parts left last ended new part shares more before same few new_is = record {
  same = ap (λ (l : List Part). (parts_within more ++ l) ++ left) new_is
      ∙ ap (λ (l : List Part). l ++ left) (sym (append_assoc (parts_within more) ended (part ∷ [])))
      ∙ append_assoc (parts_within more ++ ended) (part ∷ []) left
      ∙ ap (λ (l : List Part). l ++ part ∷ left) same
      ∙ before.same;
  few = few before.few;
}

-- the last share is there too
pub all_shared : (count : ℕ) (parts left : List Part) (last : Vec Part Global) (shares new : List (Vec Part Global)) → length left ≡ 0 → AreShared count parts left last.items shares
    → new ≡ shares ++ last ∷ [] → parts_within new ≡ parts
all_shared count parts (p ∷ left) last shares new none before new_is = absurd (omega (arith, none))
all_shared count parts [] last shares new none before new_is =
    ap parts_within new_is ∙ within_push shares last ∙ sym (append-nil (parts_within shares ++ last.items)) ∙ before.same

-- the last share is ended
pub share_ended : (last ended : Vec Part Global) (was now : List Part) (shares new : List (Vec Part Global)) → new ≡ shares ++ ended ∷ [] → ended.items ≡ was → now ≡ []
    → parts_within new ++ now ≡ parts_within shares ++ was
share_ended last ended was now shares new new_is ended_is now_is =
    ap (λ (l : List Part). parts_within new ++ l) now_is ∙ append-nil (parts_within new) ∙ ap parts_within new_is ∙ within_push shares ended
    ∙ ap (λ (l : List Part). parts_within shares ++ l) ended_is
