-- A part is read in one way, and so are the parts of a segment, and segments.
use Rattle.raft_replay.proofs.Common.{◌≡◌, ℕ, ◌+◌, ◌<◌, List, [], ◌∷◌, ◌++◌, Option, Vec, length, map, get_or, take, drop, sym, refl, ap, ◌∙◌, subst, arith, append_assoc, drop_more, take_more, take-append-drop, Global, HasNoFront}
use Rattle.raft_replay.proofs.Common.{CompressionType, Part, IsBatchAt, IsFramedAt, framed_at, part_signature, entries_place, Item, IsItemBatch, placed_item, IsReadable, IsFramed, one_batch, header_one, same_length, batch_inside, Event}
use Rattle.raft_replay.proofs.Common.{HoldsFrom, EachHolds, SegmentsHold}
use Rattle.raft_replay.proofs.Words.{PartHolds, PartsHold}

-- ---- one batch

-- two frames in front of the same bytes are the same one
one_frame : (front other more rest : List ℕ) (signature : Option ℕ) (items items' : List Item) (offset offset' : ℕ)
    (f : IsFramed front signature items offset) (g : IsFramed other signature items' offset')
    → front ++ more ≡ other ++ rest → (front ≡ other) × (offset ≡ offset') × (f.compression ≡ g.compression) × (items ≡ items')
one_frame front other more rest signature items items' offset offset' f g e =
    let whole = sym (append_assoc f.header.front (drop 16 front) more) ∙ ap (λ (t : List ℕ). t ++ more) (sym f.header.split) ∙ e
    ∙ ap (λ (t : List ℕ). t ++ rest) g.header.split ∙ append_assoc g.header.front (drop 16 other) rest in
    let header = (header_one f.header.front g.header.front (drop 16 front ++ more) (drop 16 other ++ rest) (offset, f.compression, length front)
    (offset', g.compression, length other) f.header.spells g.header.spells whole).1 in
    let at : offset ≡ offset' = ap (λ (t : ℕ × CompressionType × ℕ). t.0) header in
    let long : length front ≡ length other = ap (λ (t : ℕ × CompressionType × ℕ). t.2) header in
    let same : front ≡ other = same_length front other more rest long e in
    let item_batch : drop offset front ≡ drop offset' other = ap (λ (n : ℕ). drop n front) at ∙ ap (drop offset') same in
    let batch = subst (λ (t : List ℕ). IsItemBatch t signature items f.rest) item_batch f.item_batch in
    (same, at, ap (λ (t : ℕ × CompressionType × ℕ). t.1) header, (one_batch (drop offset' other) f.rest g.rest signature items items' batch g.item_batch).0)

-- one batch begins at a byte
pub batch_unique : (part : Part) (at : ℕ) (items items' : List Item) (next next' : ℕ)
    → IsBatchAt part at items next → IsBatchAt part at items' next' → (items ≡ items') × (next ≡ next')
batch_unique part at items items' next next' first second =
    let b : IsFramedAt part at items next = framed_at first in
    let d : IsFramedAt part at items' next' = framed_at second in
    let one = one_frame b.bytes d.bytes (drop next part.bytes) (drop next' part.bytes) (part_signature part) b.read d.read b.offset d.offset b.frame d.frame
    (sym b.stands ∙ d.stands) in
    let places = ap (λ (p : ℕ). map (placed_item (entries_place part at p) b.frame.compression) b.read) one.1
    ∙ ap (λ (c : CompressionType). map (placed_item (entries_place part at d.offset) c) b.read) one.2
    ∙ ap (map (placed_item (entries_place part at d.offset) d.frame.compression)) one.3 in
    (b.places ∙ places ∙ sym d.places, b.ends ∙ ap (λ (t : List ℕ). at + length t) one.0 ∙ sym d.ends)

-- where no batch is readable none stands
pub batch_none : (part : Part) (at : ℕ) (items : List Item) (next : ℕ)
    → HasNoFront (λ bytes. IsReadable bytes (part_signature part)) (drop at part.bytes) → ¬ (IsBatchAt part at items next)
batch_none part at items next none b =
    none b.bytes (drop next part.bytes) b.read (b.between, b.laid_out) b.stands

-- ---- what is read is read in one way

abbrev pub IsUnique : (List Event → Type 0) → Type 0
IsUnique Holds = (g h : List Event) → Holds g → Holds h → g ≡ h

pub same_event : (d e : Event) → d.items ≡ e.items → d.file ≡ e.file → d ≡ e
same_event d e items file = λ i. record { items = items i; file = file i }

pub part_unique : (part : Part) (at : ℕ) → IsUnique (HoldsFrom part at)
part_unique part at [] [] p q = refl
part_unique part at [] (e ∷ h) p q = let b = batch_inside part at e.items q.1.0 q.1.1 in absurd (omega arith)
part_unique part at (e ∷ g) [] p q = let b = batch_inside part at e.items p.1.0 p.1.1 in absurd (omega arith)
part_unique part at (d ∷ g) (e ∷ h) p q =
    let one = batch_unique part at d.items e.items p.1.0 q.1.0 p.1.1 q.1.1 in
    let first = same_event d e one.0 (p.0 ∙ sym q.0) in
    let rest = part_unique part q.1.0 g h (subst (λ (n : ℕ). HoldsFrom part n g) one.1 p.1.2) q.1.2 in
    λ i. first i ∷ rest i

pub each_unique : {A : Type 0} (Holds : A → List Event → Type 0) → ((x : A) → IsUnique (Holds x)) → (xs : List A) → IsUnique (EachHolds Holds xs)
each_unique Holds one [] g h p q = p ∙ sym q
each_unique Holds one (x ∷ xs) g h p q =
    let first = one x p.first q.first p.first_held q.first_held in
    let rest = each_unique Holds one xs p.rest q.rest p.rest_held q.rest_held in
    p.split ∙ (λ i. first i ++ rest i) ∙ sym q.split

pub parts_unique : (parts : List Part) → IsUnique (PartsHold parts)
parts_unique parts = each_unique PartHolds (λ part. part_unique part 0) parts

pub segments_unique : (segments : List (Vec Part Global)) → IsUnique (SegmentsHold segments)
segments_unique segments = each_unique (λ segment. PartsHold segment.items) (λ segment. parts_unique segment.items) segments

-- ---- elements of a list

-- the element at an index is the first of what is left from there on
pub left_from : {A : Type 0} (xs : List A) (i : ℕ) (x : A) → i < length xs → x ≡ get_or xs i x → drop i xs ≡ x ∷ drop (i + 1) xs
left_from xs i x inside is = drop_more xs i x inside ∙ ap (λ (y : _). y ∷ drop (i + 1) xs) (sym is)

-- the same of a list that is read as another one
pub item_here : {A : Type 0} {xs ys : List A} {i : ℕ} {x : A} → xs ≡ ys → i < length xs → x ≡ get_or xs i x → drop i ys ≡ x ∷ drop (i + 1) ys
item_here {A} {xs} {ys} {i} {x} same inside is = subst (λ (l : List A). drop i l ≡ x ∷ drop (i + 1) l) same (left_from xs i x inside is)

-- and with it those before it are one more
pub item_taken : {A : Type 0} {xs ys : List A} {i : ℕ} {x : A} → xs ≡ ys → i < length xs → x ≡ get_or xs i x → take (i + 1) ys ≡ take i ys ++ x ∷ []
item_taken {A} {xs} {ys} {i} {x} same inside is =
    subst (λ (l : List A). take (i + 1) l ≡ take i l ++ x ∷ []) same (take_more xs i x inside ∙ ap (λ (y : A). take i xs ++ y ∷ []) (sym is))

-- all are those before it, the element, and what is left
pub item_between : {A : Type 0} {xs ys : List A} {i : ℕ} {x : A} → xs ≡ ys → i < length xs → x ≡ get_or xs i x → ys ≡ take i ys ++ x ∷ drop (i + 1) ys
item_between {A} {xs} {ys} {i} {x} same inside is = sym (take-append-drop i ys) ∙ ap (λ (l : List A). take i ys ++ l) (item_here same inside is)
