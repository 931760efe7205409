-- Text that is made of pieces, one for each of some things.
use Rattle.raft_report.proofs.Common.{◌≡◌, ℕ, List, [], ◌∷◌, ◌++◌, refl, sym, ◌∙◌, ap, subst, append_assoc, append-nil, Adds, Selection, Part, Item, AreItemLines, IsSelectedItemLine}

-- the text so far: with that of what is left it is all
pub record IsAdding {X : Type 0} (AreTexts : List X → List ℕ → Type 0) (all : List X) (old : List ℕ) (left : List X) (new : List ℕ) : Type 0 where
  pub text : List ℕ
  pub behind : new ≡ old ++ text
  pub joins : (rest : List ℕ) → AreTexts left rest → AreTexts all (text ++ rest)

-- a piece more
one_more : {X : Type 0} (AreTexts : List X → List ℕ → Type 0) (all : List X) (old : List ℕ) (x : X) (left : List X) (mid new piece : List ℕ) → IsAdding AreTexts all old (x ∷ left) mid
    → new ≡ mid ++ piece → ((rest : List ℕ) → AreTexts left rest → AreTexts (x ∷ left) (piece ++ rest)) → IsAdding AreTexts all old left new
one_more AreTexts all old x left mid new piece adding is step = record {
  text = adding.text ++ piece;
  behind = is ∙ ap (λ (t : List ℕ). t ++ piece) adding.behind ∙ append_assoc old adding.text piece;
  joins = λ rest are. subst (AreTexts all) (sym (append_assoc adding.text piece rest)) (adding.joins (piece ++ rest) (step rest are));
}

module _ (s : Selection) (part : Part) (at : ℕ) where
  -- of items
  abbrev pub AreItemsAdding : List Item → List ℕ → List Item → List ℕ → Type 0
  AreItemsAdding all old left new = IsAdding (AreItemLines s part at) all old left new

  pub item_more : (all : List Item) (old : List ℕ) (item : Item) (left : List Item) (mid new : List ℕ) → AreItemsAdding all old (item ∷ left) mid → Adds (IsSelectedItemLine s part at item) mid new → AreItemsAdding all old left new
  item_more all old item left mid new adding added = one_more (AreItemLines s part at) all old item left mid new added.text adding added.behind (λ rest are. (added.text, rest, refl, added.is_text, are))

  pub items_added : (all : List Item) (old new : List ℕ) → AreItemsAdding all old [] new → Adds (AreItemLines s part at all) old new
  items_added all old new adding = record { text = adding.text; is_text = subst (AreItemLines s part at all) (append-nil adding.text) (adding.joins [] refl); behind = adding.behind }
