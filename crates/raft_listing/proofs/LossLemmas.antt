-- What is said of the entries of items.
use Rattle.raft_listing.proofs.Common.{◌≡◌, ℕ, List, [], ◌∷◌, ◌++◌, Option, Some, None, inl, inr, refl, sym, ◌∙◌, ap, subst, append_assoc, append-nil, AllByRecursion, EntryIndex, Part, Item, HasBytes, AreLost, AreSaidOf, AreSaidOfEntries, CanBeRead, IsLossOf, IsItemSaid}
use Rattle.raft_listing.proofs.Common.{IsLossIn, IsTakenIn, said_of_stretch, stretch_of, Damage, Loss, Stretch}

-- an entry whose bytes stand in its block can be read
pub bytes_can_be_read : (part : Part) (entry : EntryIndex) (bytes : List ℕ) → HasBytes part entry bytes → CanBeRead part entry
bytes_can_be_read part entry bytes has = record { place = has.place; placed = has.placed; block = has.block; stands = has.stands; inside = has.inside }

module _ (part : Part) (offset : ℕ) where
  -- ---- items

  module _ (all : List Item) (old : List Damage) where
    -- what is said so far of the first items: with what is said of those that are left it is all
    pub record IsSaying (left : List Item) (new : List Damage) : Type 0 where
      pub said : List Damage
      pub behind : new ≡ old ++ said
      pub joins : (rest : List Damage) → AreSaidOf part offset left rest → AreSaidOf part offset all (said ++ rest)

    pub begun : IsSaying all old
    begun = record { said = []; behind = sym (append-nil old); joins = λ rest are. are }

    -- one item more
    pub item_said : (item : Item) (left : List Item) (mid new : List Damage) → IsSaying (item ∷ left) mid → IsItemSaid part offset item mid new → IsSaying left new
    item_said item left mid new saying added = record {
      said = saying.said ++ added.0;
      behind = added.1 ∙ ap (λ (ds : List Damage). ds ++ added.0) saying.behind ∙ append_assoc old saying.said added.0;
      joins = λ rest are. subst (AreSaidOf part offset all) (sym (append_assoc saying.said added.0 rest)) (saying.joins (added.0 ++ rest) (added.0, rest, refl, added.2, are));
    }

    -- no item is left
    pub all_said : (new : List Damage) → IsSaying [] new → (said : List Damage) × (new ≡ old ++ said) × AreSaidOf part offset all said
    all_said new saying = (saying.said, saying.behind, subst (AreSaidOf part offset all) (append-nil saying.said) (saying.joins [] refl))

  -- ---- entries

  module _ (region : ℕ) where
    -- an entry that can be read comes before those of which something is said
    one_read : (e : EntryIndex) (left : List EntryIndex) (said : List Damage) → CanBeRead part e → AreSaidOfEntries part offset region left said → AreSaidOfEntries part offset region (e ∷ left) said
    one_read e left [] read are = (read, are)
    one_read e left (d ∷ said) read are = (e ∷ are.0, are.1, are.2, ap (λ (es : List EntryIndex). e ∷ es) are.3, (read, are.4), are.5, are.6, are.7)

    -- so does a stretch of which it is said that it can't be
    stretch_said : (s : Stretch) (lost left : List EntryIndex) (said : List Damage) → AreLost part s.first s.last s.loss lost → AreSaidOfEntries part offset region left said
        → AreSaidOfEntries part offset region (lost ++ left) (said_of_stretch offset region (Some s) ++ said)
    stretch_said s lost left said are rest = ([], lost, left, refl, tt, refl, (refl, are), rest)

    -- one entry that can't be read
    one_lost : (e : EntryIndex) (loss : Loss) → IsLossOf part e loss → AreLost part e.index e.index loss (e ∷ [])
    one_lost e loss is = record { head = e; behind = []; begins = refl; first_is = refl; before = []; end = e; closes = refl; last_is = refl; lost = (is, tt) }

    -- what holds of some entries, and of one more, holds of all
    all_more : (P : EntryIndex → Type 0) (es : List EntryIndex) (e : EntryIndex) → AllByRecursion P es → P e → AllByRecursion P (es ++ e ∷ [])
    all_more P [] e all one = (one, tt)
    all_more P (x ∷ xs) e all one = (all.0, all_more P xs e all.1 one)

    -- one entry more that can't be read, for the same reason
    lost_more : (first last : ℕ) (loss : Loss) (es : List EntryIndex) (e : EntryIndex) → AreLost part first last loss es → IsLossOf part e loss → AreLost part first e.index loss (es ++ e ∷ [])
    lost_more first last loss es e are is = record {
      head = are.head;
      behind = are.behind ++ e ∷ [];
      begins = ap (λ (xs : List EntryIndex). xs ++ e ∷ []) are.begins;
      first_is = are.first_is;
      before = es;
      end = e;
      closes = refl;
      last_is = refl;
      lost = all_more (λ (x : EntryIndex). IsLossOf part x loss) es e are.lost is;
    }

    -- the entries of a stretch: there are none without one
    abbrev IsStretch : Option Stretch → List EntryIndex → Type 0
    IsStretch None es = es ≡ []
    IsStretch (Some s) es = AreLost part s.first s.last s.loss es

    module _ (all : List EntryIndex) (old : List Damage) where
      -- what is said so far of the first entries, but for a stretch at their end: with what is said of it and of those that are left it is all
      pub record AreSaying (stretch : Option Stretch) (left : List EntryIndex) (new : List Damage) : Type 0 where
        pub said : List Damage
        pub behind : new ≡ old ++ said
        pub lost : List EntryIndex
        pub is_lost : IsStretch stretch lost
        pub joins : (rest : List Damage) → AreSaidOfEntries part offset region (lost ++ left) rest → AreSaidOfEntries part offset region all (said ++ rest)

      pub entries_begun : AreSaying None all old
      entries_begun = record { said = []; behind = sym (append-nil old); lost = []; is_lost = refl; joins = λ rest are. are }

      -- the stretch is said, if there is one
      told : (stretch : Option Stretch) (left : List EntryIndex) (mid new : List Damage) → AreSaying stretch left mid → new ≡ mid ++ said_of_stretch offset region stretch → AreSaying None left new
      told None left mid new saying is = record {
        said = saying.said;
        behind = is ∙ append-nil mid ∙ saying.behind;
        lost = [];
        is_lost = refl;
        joins = λ rest are. saying.joins rest (subst (λ (es : List EntryIndex). AreSaidOfEntries part offset region (es ++ left) rest) (sym saying.is_lost) are);
      }
      told (Some s) left mid new saying is =
          let d = said_of_stretch offset region (Some s) in record {
            said = saying.said ++ d;
            behind = is ∙ ap (λ (ds : List Damage). ds ++ d) saying.behind ∙ append_assoc old saying.said d;
            lost = [];
            is_lost = refl;
            joins = λ rest are. subst (AreSaidOfEntries part offset region all) (sym (append_assoc saying.said d rest)) (saying.joins (d ++ rest) (stretch_said s saying.lost left rest saying.is_lost are));
          }

      -- an entry behind no stretch
      begins : (e : EntryIndex) (left : List EntryIndex) (loss : Option Loss) (new : List Damage) → AreSaying None (e ∷ left) new → IsLossIn part e loss → AreSaying (stretch_of e.index loss) left new
      begins e left None new saying read = record {
        said = saying.said;
        behind = saying.behind;
        lost = [];
        is_lost = refl;
        joins = λ rest are. saying.joins rest (subst (λ (es : List EntryIndex). AreSaidOfEntries part offset region (es ++ e ∷ left) rest) (sym saying.is_lost) (one_read e left rest read are));
      }
      begins e left (Some loss) new saying is = record {
        said = saying.said;
        behind = saying.behind;
        lost = e ∷ [];
        is_lost = one_lost e loss is;
        joins = λ rest are. saying.joins rest (subst (λ (es : List EntryIndex). AreSaidOfEntries part offset region (es ++ e ∷ left) rest) (sym saying.is_lost) are);
      }

      -- an entry that makes a stretch longer
      longer : (s : Stretch) (e : EntryIndex) (left : List EntryIndex) (new : List Damage) → AreSaying (Some s) (e ∷ left) new → IsLossOf part e s.loss
          → AreSaying (Some (record { first = s.first; last = e.index; loss = s.loss })) left new
      longer s e left new saying is = record {
        said = saying.said;
        behind = saying.behind;
        lost = saying.lost ++ e ∷ [];
        is_lost = lost_more s.first s.last s.loss saying.lost e saying.is_lost is;
        joins = λ rest are. saying.joins rest (subst (λ (es : List EntryIndex). AreSaidOfEntries part offset region es rest) (append_assoc saying.lost (e ∷ []) left) are);
      }

      -- one entry more
      pub entry_said : (stretch next : Option Stretch) (e : EntryIndex) (left : List EntryIndex) (loss : Option Loss) (mid new : List Damage) → AreSaying stretch (e ∷ left) mid → IsLossIn part e loss
          → IsTakenIn offset region stretch e.index loss next mid new → AreSaying next left new
      entry_said stretch None e left loss mid new saying is (inl (never, same)) = absurd never
      entry_said stretch (Some n) e left loss mid new saying is (inl ((s, was, for_it, becomes), same)) =
          let one : IsLossOf part e s.loss = subst (IsLossIn part e) for_it is in
          let old_stretch = subst (λ (o : Option Stretch). AreSaying o (e ∷ left) mid) was saying in
          subst (λ (o : Option Stretch). AreSaying o left new) (ap (λ (x : Stretch). Some x) (sym becomes)) (subst (AreSaying (Some (record { first = s.first; last = e.index; loss = s.loss })) left) (sym same) (longer s e left mid old_stretch one))
      entry_said stretch next e left loss mid new saying is (inr (begun, more)) =
          subst (λ (o : Option Stretch). AreSaying o left new) (sym begun) (begins e left loss new (told stretch (e ∷ left) mid new saying more) is)

      -- no entry is left
      pub all_entries_said : (stretch : Option Stretch) (mid new : List Damage) → AreSaying stretch [] mid → new ≡ mid ++ said_of_stretch offset region stretch
          → (said : List Damage) × (new ≡ old ++ said) × AreSaidOfEntries part offset region all said
      all_entries_said stretch mid new saying is =
          let done = told stretch [] mid new saying is in
          let none : AreSaidOfEntries part offset region (done.lost ++ []) [] = subst (λ (es : List EntryIndex). AreSaidOfEntries part offset region (es ++ []) []) (sym done.is_lost) tt in
          (done.said, done.behind, subst (AreSaidOfEntries part offset region all) (append-nil done.said) (done.joins [] none))
