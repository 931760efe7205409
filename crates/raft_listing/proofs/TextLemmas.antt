-- Text that is made of pieces, one for each of some things.
use Rattle.raft_listing.proofs.Common.{◌≡◌, inl, inr, ℕ, ◌<◌, List, [], ◌∷◌, ◌++◌, length, codes, slice_get, true, is_ok, if◌then◌else◌, OnOk, Option, Some, None, Result, Ok, Err, refl, sym, ◌∙◌, ap, subst, arith, append_assoc, append-nil, EntryIndex, Part, marker_byte, Item}
use Rattle.raft_listing.proofs.Common.{Pair, AtomicGroupStatus, Begin, Middle, End, Adds, AreContents, AreEntryLines, AreItemTexts, IsEntriesText, IsEntryShown, IsMetText, IsPairText, IsSelectedLine, IsSelectedText, IsShown, IsValueText, MarksGroup, entries_line, lost_text}
use Rattle.raft_listing.proofs.Common.{op_words, status_words, loss_words, AreBytesShown, IsReadOf, batch, BytesOfEntry, Read, Lost, Loss, Selection}

-- the text so far: with that of what is left it is all
pub record IsAdding {X : Type 0} (AreTexts : List X → List ℕ → Type 0) (all : List X) (old : List ℕ) (left : List X) (new : List ℕ) : Type 0 where
  pub text : List ℕ
  pub behind : new ≡ old ++ text
  pub joins : (rest : List ℕ) → AreTexts left rest → AreTexts all (text ++ rest)

pub begun : {X : Type 0} (AreTexts : List X → List ℕ → Type 0) (all : List X) (old : List ℕ) → IsAdding AreTexts all old all old
begun AreTexts all old = record { text = []; behind = sym (append-nil old); joins = λ rest are. are }

-- a piece more
one_more : {X : Type 0} (AreTexts : List X → List ℕ → Type 0) (all : List X) (old : List ℕ) (x : X) (left : List X) (mid new piece : List ℕ) → IsAdding AreTexts all old (x ∷ left) mid
    → new ≡ mid ++ piece → ((rest : List ℕ) → AreTexts left rest → AreTexts (x ∷ left) (piece ++ rest)) → IsAdding AreTexts all old left new
one_more AreTexts all old x left mid new piece adding is step = record {
  text = adding.text ++ piece;
  behind = is ∙ ap (λ (t : List ℕ). t ++ piece) adding.behind ∙ append_assoc old adding.text piece;
  joins = λ rest are. subst (AreTexts all) (sym (append_assoc adding.text piece rest)) (adding.joins (piece ++ rest) (step rest are));
}

-- nothing is left
all_added : {X : Type 0} (AreTexts : List X → List ℕ → Type 0) (all : List X) (old new : List ℕ) → IsAdding AreTexts all old [] new → AreTexts [] [] → Adds (AreTexts all) old new
all_added AreTexts all old new adding none = record { text = adding.text; is_text = subst (AreTexts all) (append-nil adding.text) (adding.joins [] none); behind = adding.behind }

module _ (s : Selection) (part : Part) where
  -- of items
  abbrev pub AreItemsAdding : List Item → List ℕ → List Item → List ℕ → Type 0
  AreItemsAdding all old left new = IsAdding (AreItemTexts s part) all old left new

  pub item_more : (all : List Item) (old : List ℕ) (item : Item) (left : List Item) (mid new : List ℕ) → AreItemsAdding all old (item ∷ left) mid → Adds (IsSelectedText s part item) mid new → AreItemsAdding all old left new
  item_more all old item left mid new adding added = one_more (AreItemTexts s part) all old item left mid new added.text adding added.behind (λ rest are. (added.text, rest, refl, added.is_text, are))

  pub items_added : (all : List Item) (old new : List ℕ) → AreItemsAdding all old [] new → Adds (AreItemTexts s part all) old new
  items_added all old new adding = all_added (AreItemTexts s part) all old new adding refl

  -- of entries
  abbrev pub AreEntriesAdding : List EntryIndex → List ℕ → List EntryIndex → List ℕ → Type 0
  AreEntriesAdding all old left new = IsAdding (AreEntryLines s part) all old left new

  pub entry_more : (all : List EntryIndex) (old : List ℕ) (e : EntryIndex) (left : List EntryIndex) (mid new : List ℕ) → AreEntriesAdding all old (e ∷ left) mid → Adds (IsSelectedLine s part e) mid new → AreEntriesAdding all old left new
  entry_more all old e left mid new adding added = one_more (AreEntryLines s part) all old e left mid new added.text adding added.behind (λ rest are. (added.text, rest, refl, added.is_text, are))

  pub entries_added : (all : List EntryIndex) (old new : List ℕ) → AreEntriesAdding all old [] new → Adds (AreEntryLines s part all) old new
  entries_added all old new adding = all_added (AreEntryLines s part) all old new adding refl

  -- entries of which this one is the first, and their lines
  pub entries_text : (es : List EntryIndex) (first : EntryIndex) (old mid new : List ℕ) → Some first ≡ slice_get es 0 → mid ≡ old ++ entries_line first (length es) → Adds (AreContents s part es) mid new
      → Adds (IsEntriesText s part es) old new
  entries_text [] first old mid new is line contents = absurd cc
  entries_text (e ∷ es) first old mid new is line contents =
      let same : first ≡ e = cc in record {
        text = entries_line e (length (e ∷ es)) ++ contents.text;
        is_text = (contents.text, contents.is_text, refl);
        behind = contents.behind ∙ ap (λ (t : List ℕ). t ++ contents.text) (line ∙ ap (λ (f : EntryIndex). old ++ entries_line f (length (e ∷ es))) same) ∙ append_assoc old (entries_line e (length (e ∷ es))) contents.text;
      }

  -- without one there are none
  pub no_entries : (es : List EntryIndex) (old new : List ℕ) → None ≡ slice_get es 0 → new ≡ old ++ codes "entries -\n" → Adds (IsEntriesText s part es) old new
  no_entries [] old new is line = record { text = codes "entries -\n"; is_text = refl; behind = line }
  no_entries (e ∷ es) old new is line = absurd cc

-- nothing is added
pub nothing_added : (IsText : List ℕ → Type 0) (old : List ℕ) → IsText [] → Adds IsText old old
nothing_added IsText old none = record { text = []; is_text = none; behind = sym (append-nil old) }

-- what is added is of another kind too
pub added_as : (IsText IsOther : List ℕ → Type 0) (old new : List ℕ) → ((t : List ℕ) → IsText t → IsOther t) → Adds IsText old new → Adds IsOther old new
added_as IsText IsOther old new other added = record { text = added.text; is_text = other added.text added.is_text; behind = added.behind }

-- a value whose bytes are asked for
pub value_shown : (s : Selection) (value old first new : List ℕ) → s.values ≡ true → first ≡ old ++ codes " = " → Adds (IsShown value) first new → Adds (IsValueText s (Some value)) old new
value_shown s value old first new asked is shown = record {
  text = codes " = " ++ shown.text;
  is_text = rw asked (record { text = shown.text; is_text = shown.is_text; behind = refl });
  behind = shown.behind ∙ ap (λ (t : List ℕ). t ++ shown.text) is ∙ append_assoc old (codes " = ") shown.text;
}

-- the line of a change of a key
pub change_text : (s : Selection) (item : Item) (p : Pair) (status : Option AtomicGroupStatus) (old first keyed valued marked new : List ℕ) → first ≡ old ++ op_words p.op_type → Adds (IsShown p.key) first keyed
    → Adds (IsValueText s p.value) keyed valued → MarksGroup item status → marked ≡ valued ++ status_words status → new ≡ marked ++ codes "\n" → Adds (IsPairText s item p) old new
change_text s item p status old first keyed valued marked new op key value marks words end =
    record {
      text = op_words p.op_type ++ (key.text ++ (value.text ++ (status_words status ++ codes "\n")));
      is_text = record { key = key.text; key_shown = key.is_text; value = value.text; value_shown = value.is_text; status = status; marks = marks; words = refl };
      behind =
          end ∙ ap (λ (t : List ℕ). t ++ codes "\n") (words ∙ ap (λ (t : List ℕ). t ++ status_words status) (value.behind ∙ ap (λ (t : List ℕ). t ++ value.text) (key.behind ∙ ap (λ (t : List ℕ). t ++ key.text) op)))
          ∙ five old (op_words p.op_type) key.text value.text (status_words status) (codes "\n");
    }
  where
    five : (a b c d e f : List ℕ) → ((((a ++ b) ++ c) ++ d) ++ e) ++ f ≡ a ++ (b ++ (c ++ (d ++ (e ++ f))))
    five a b c d e f = append_assoc (((a ++ b) ++ c) ++ d) e f ∙ append_assoc ((a ++ b) ++ c) d (e ++ f) ∙ append_assoc (a ++ b) c (d ++ (e ++ f)) ∙ append_assoc a b (c ++ (d ++ (e ++ f)))

-- a byte that stands for no status marks no group
pub no_status : (item : Item) (byte : ℕ) → marker_byte item.content ≡ Some byte → 2 < byte → MarksGroup item None
no_status item byte is above Begin marks = let same : Some byte ≡ Some 0 = sym is ∙ marks in let n : byte ≡ 0 = cc in absurd (omega (arith, n, above))
no_status item byte is above Middle marks = let same : Some byte ≡ Some 1 = sym is ∙ marks in let n : byte ≡ 1 = cc in absurd (omega (arith, n, above))
no_status item byte is above End marks = let same : Some byte ≡ Some 2 = sym is ∙ marks in let n : byte ≡ 2 = cc in absurd (omega (arith, n, above))

-- what is shown of the bytes of an entry, or of their loss, is shown of the entry
pub shown_of : (part : Part) (entry : EntryIndex) (read : BytesOfEntry) → IsReadOf part entry read → (text : List ℕ) → AreBytesShown read text → IsEntryShown part entry text
shown_of part entry (Read bytes) is text shown = inl (bytes.now, is, shown)
shown_of part entry (Lost loss) is text shown = inr (loss, is.0, is.1, shown)

-- that an entry can't be read, and why
pub loss_added : (loss : Loss) (why old new : List ℕ) → why ≡ loss_words loss → new ≡ old ++ (codes "unreadable: " ++ why) → Adds (λ t. t ≡ lost_text loss) old new
loss_added loss why old new is added = record { text = lost_text loss; is_text = refl; behind = added ∙ ap (λ (t : List ℕ). old ++ (codes "unreadable: " ++ t)) is }

-- four texts one behind another
pub four_added : (old a b c d one two three new : List ℕ) → one ≡ old ++ a → two ≡ one ++ b → three ≡ two ++ c → new ≡ three ++ d → new ≡ old ++ (a ++ (b ++ (c ++ d)))
four_added old a b c d one two three new is_one is_two is_three is_new =
    is_new ∙ ap (λ (t : List ℕ). t ++ d) (is_three ∙ ap (λ (t : List ℕ). t ++ c) (is_two ∙ ap (λ (t : List ℕ). t ++ b) is_one)) ∙ append_assoc ((old ++ a) ++ b) c d ∙ append_assoc (old ++ a) b (c ++ d)
    ∙ append_assoc old a (b ++ (c ++ d))

-- text that a call appends, if it can
pub if_appended : {T E : Type 0} (r : Result T E) (new more old : List ℕ) → new ≡ (if is_ok r then more else old) → OnOk r (new ≡ more)
if_appended (Ok v) new more old is = is
if_appended (Err e) new more old is = tt
