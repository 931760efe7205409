-- A part of a batch is none.
use Rattle.raft_engine_prefixes.proofs.Common.{◌≡◌, ◌≢◌, ℕ, ◌<◌, List, [], ◌∷◌, ◌++◌, Option, length, drop, refl, sym, ap, ◌∙◌, subst, arith, append_assoc, append-nil, length-append, length-drop, HasNoFront, HasOneFront, CompressionType, Part, IsFramed, Item, IsItemBatch}
use Rattle.raft_engine_prefixes.proofs.Common.{IsReadable, one_batch, header_one, readable, same_length, part_signature, IsUnreadableAt}

-- frames in front of the same bytes have the same header
same_header : (a b more rest : List ℕ) (s t : Option ℕ) (xs ys : List Item) (i j : ℕ) → IsFramed a s xs i → IsFramed b t ys j
    → a ++ more ≡ b ++ rest → (i ≡ j) × (length a ≡ length b)
same_header a b more rest s t xs ys i j f g e =
    let whole = sym (append_assoc f.header.front (drop 16 a) more) ∙ ap (λ (u : List ℕ). u ++ more) (sym f.header.split) ∙ e
    ∙ ap (λ (u : List ℕ). u ++ rest) g.header.split ∙ append_assoc g.header.front (drop 16 b) rest in
    let same = (header_one f.header.front g.header.front (drop 16 a ++ more) (drop 16 b ++ rest) (i, f.compression, length a)
    (j, g.compression, length b) f.header.spells g.header.spells whole).1 in
    (ap (λ (u : ℕ × CompressionType × ℕ). u.0) same, ap (λ (u : ℕ × CompressionType × ℕ). u.2) same)

pub one_front : (signature : Option ℕ) → HasOneFront (λ bytes. IsReadable bytes signature)
one_front signature a b more rest xs ys p q e =
    let f = (readable a signature xs).0 p in
    let g = (readable b signature ys).0 q in
    let header = same_header a b more rest signature signature xs ys f.0 g.0 f.1 g.1 e in
    let same : a ≡ b = same_length a b more rest header.1 e in
    let item_batch : drop f.0 a ≡ drop g.0 b = ap (λ (n : ℕ). drop n a) header.0 ∙ ap (drop g.0) same in
    let first = subst (λ (u : List ℕ). IsItemBatch u signature xs f.1.rest) item_batch f.1.item_batch in
    (same, (one_batch (drop g.0 b) f.1.rest g.1.rest signature xs ys first g.1.item_batch).0)

-- what is shorter than a batch that it begins has no batch in front
pub shorter_unreadable : (bytes part rest : List ℕ) (signature other : Option ℕ) (items : List Item) → IsReadable bytes signature items → bytes ≡ part ++ rest → length part < length bytes
    → HasNoFront (λ xs. IsReadable xs other) part
shorter_unreadable bytes part rest signature other items r split shorter front more found p e =
    let f = (readable bytes signature items).0 r in
    let g = (readable front other found).0 p in
    let whole : bytes ++ [] ≡ front ++ (more ++ rest) = append-nil bytes ∙ split ∙ ap (λ (u : List ℕ). u ++ rest) e ∙ append_assoc front more rest in
    let same = (same_header bytes front [] (more ++ rest) signature other items found f.0 g.0 f.1 g.1 whole).1 in
    let n = ap length e ∙ length-append front more in
    absurd (omega (arith, same, n, shorter))

some_left : (rest : List ℕ) → rest ≢ [] → length rest ≢ 0
some_left [] some e = some refl
some_left (x ∷ rest) some e = absurd (omega (arith, e))

pub part_unreadable : (bytes part rest : List ℕ) (signature other : Option ℕ) (items : List Item) → IsReadable bytes signature items → bytes ≡ part ++ rest → rest ≢ []
    → HasNoFront (λ xs. IsReadable xs other) part
part_unreadable bytes part rest signature other items r split some =
    let n = ap length split ∙ length-append part rest in
    let left : length rest ≢ 0 = some_left rest some in
    shorter_unreadable bytes part rest signature other items r split (omega (arith, n, left))

-- a batch has bytes
pub batch_long : (bytes : List ℕ) (signature : Option ℕ) (items : List Item) → IsReadable bytes signature items → 0 < length bytes
batch_long bytes signature items r =
    let f = (readable bytes signature items).0 r in
    let behind = f.1.header.spells.behind_header in
    let inside = f.1.header.spells.inside in
    omega (arith, behind, inside)

-- nothing can be read at the end
pub end_unreadable : (part : Part) (at : ℕ) → at ≡ length part.bytes → IsUnreadableAt part at
end_unreadable part at e front rest items r split =
    let some = batch_long front (part_signature part) items r in
    let n = sym (length-drop at part.bytes) ∙ ap length split ∙ length-append front rest in
    absurd (omega (arith, some, n, e))

-- what begins bytes without a batch in front has none in front either
pub prefix_unreadable : (xs ys zs : List ℕ) (signature : Option ℕ) → zs ≡ xs ++ ys → HasNoFront (λ bytes. IsReadable bytes signature) zs → HasNoFront (λ bytes. IsReadable bytes signature) xs
prefix_unreadable xs ys zs signature split none front rest items r e =
    none front (rest ++ ys) items r (split ∙ ap (λ (u : List ℕ). u ++ ys) e ∙ append_assoc front rest ys)
