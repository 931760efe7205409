-- What an engine has after its entries were read.
use Rattle.raft_engine.proofs.Common.{◌≡◌, ℕ, Bool, true, false, List, [], ◌∷◌, ◌++◌, filter, length, map, reverse, Option, Some, None, Vec, option_map, refl, sym, ap, subst, ◌∙◌, append-nil, if◌then◌else◌, Global, EntryIndex, Error, Fetches, range_answer, key_value}
use Rattle.raft_engine.proofs.Common.{VisitsUntilFalse, is_between, pairs_between, table_of, Table, Ask, AreBothTold, ReadEntryIsTold, AreFetched, AreOfRange, answer_of, KeptEngine, AreOnlyRead, AreReadByBlocks, AreUnread, entries-empty, Failures}
use Rattle.std.specs.FinMap as finite
use Rattle.raft_engine.proofs.ToldReads.{entries_told}

pub none_read : (old new : List Ask) → new ≡ old → AreOnlyRead old new
none_read old new e = record { reads = []; only = tt; asked = e }

pub read_only : (es : List EntryIndex) (strings : List (List ℕ)) (old new : List Ask) → AreReadByBlocks es strings old new → AreOnlyRead old new
read_only es strings old new r = record { reads = r.reads; only = r.only; asked = r.asked }

pub unread_only : {MayFail : Failures} (region : ℕ) (es : List EntryIndex) (old new : List Ask) (error : Error) → AreUnread MayFail region es old new error → AreOnlyRead old new
unread_only region es old new error r = record { reads = r.reads; only = r.only; asked = r.asked }

-- ---- one entry

pub got_content : ReadEntryIsTold → (o : Option EntryIndex) (e : EntryIndex) (bytes : List ℕ) (old new : List Ask) → o ≡ Some e → AreReadByBlocks (e ∷ []) (bytes ∷ []) old new
    → (content : EntryIndex → List ℕ) → AreBothTold new content → Some bytes ≡ option_map content o
got_content is_told o e bytes old new is r content told =
    ap head (entries_told is_told r.reads old new r.asked content told (e ∷ []) (bytes ∷ []) r.have) ∙ sym (ap (option_map content) is)
  where
    head : List (List ℕ) → Option (List ℕ)
    head [] = None
    head (x ∷ xs) = Some x

-- ---- many entries

-- what the table gives is of the range
pub of_range : (region begin end : ℕ) (limit : Option ℕ) (o : Option Table) (t : Table) (before es : List EntryIndex) → o ≡ Some t → before ≡ []
    → Fetches limit begin end t.entries before es (range_answer begin end t.entries) → Fetches limit begin end (table_of region o).entries [] es (answer_of begin end o)
of_range region begin end limit None t before es e none h = absurd cc
of_range region begin end limit (Some s) t before es e none h =
    subst (λ (front : List EntryIndex). Fetches limit begin end s.entries front es (range_answer begin end s.entries)) none
    (subst (λ (x : Table). Fetches limit begin end x.entries before es (range_answer begin end x.entries)) (sym (same s t e)) h)
  where
    same : (s t : Table) → Some s ≡ Some t → s ≡ t
    same s t e = ap (λ (o : Option Table). table_of region o) e

pub fetched : ReadEntryIsTold → (region begin end : ℕ) (limit : Option ℕ) (count : ℕ) (before : List (List ℕ)) (old new : KeptEngine) (es : List EntryIndex) (strings : List (List ℕ)) (after : List (List ℕ))
    → AreOfRange region begin end limit old es → count ≡ length es → AreReadByBlocks es strings old.asks new.asks → after ≡ before ++ strings → AreFetched region begin end limit count before after old new
fetched is_told region begin end limit count before old new es strings after range counted r pushed = record {
  es = es;
  of_range = range;
  counted = counted;
  strings = strings;
  read = r;
  pushed = pushed;
  contents = λ content told. entries_told is_told r.reads old.asks new.asks r.asked content told es strings r.have;
}

-- nothing is there to fetch
pub none_fetched : ReadEntryIsTold → (region begin end : ℕ) (limit : Option ℕ) (before : List (List ℕ)) (engine : KeptEngine) (es : List EntryIndex) → es ≡ [] → AreOfRange region begin end limit engine es
    → AreFetched region begin end limit 0 before before engine engine
none_fetched is_told region begin end limit before engine es none range =
    fetched is_told region begin end limit 0 before engine engine [] [] before (subst (AreOfRange region begin end limit engine) none range) refl
    (record { reads = []; only = tt; asked = refl; once = refl; have = tt }) (sym (append-nil before))

pub no_table_fetched : ReadEntryIsTold → (region begin end : ℕ) (limit : Option ℕ) (before : List (List ℕ)) (engine : KeptEngine) → None ≡ finite.get engine.accessor.tables region
    → AreFetched region begin end limit 0 before before engine engine
no_table_fetched is_told region begin end limit before engine none =
    none_fetched is_told region begin end limit before engine [] refl
    (subst (λ (o : Option Table). Fetches limit begin end (table_of region o).entries [] [] (answer_of begin end o)) none refl)

abbrev bytes_of_all : List (Vec ℕ Global) → List (List ℕ)
bytes_of_all seen = map (λ (s : Vec ℕ Global). s.items) seen

pub pushed_bytes : (before found after : List (Vec ℕ Global)) → after ≡ before ++ found → map (λ s. s.items) after ≡ map (λ s. s.items) before ++ map (λ s. s.items) found
pushed_bytes before found after e = ap bytes_of_all e ∙ mapped before
  where
    mapped : (xs : List (Vec ℕ Global)) → bytes_of_all (xs ++ found) ≡ bytes_of_all xs ++ bytes_of_all found
    mapped [] = refl
    mapped (x ∷ xs) = ap (λ l. x.items ∷ l) (mapped xs)

-- ---- key values

pub no_pairs : (o : Option Table) (region : ℕ) (start end : Option (List ℕ)) (reversed : Bool) → None ≡ o → pairs_between start end reversed (table_of region o).keys ≡ []
no_pairs None region start end reversed e = ap (λ es. in_order (map key_value (filter (λ e. is_between start end e.0) es))) entries-empty ∙ none reversed
  where
    in_order : List (List ℕ × List ℕ) → List (List ℕ × List ℕ)
    in_order pairs = if reversed then reverse pairs else pairs

    none : (b : Bool) → (if b then reverse {A = List ℕ × List ℕ} [] else []) ≡ []
    none true = refl
    none false = refl
no_pairs (Some t) region start end reversed e = absurd cc

pub none_visited : {V : Type 0} (calls : V → List ℕ → List ℕ → Bool → V → Type 0) (visit : V) (pairs : List (List ℕ × List ℕ)) → pairs ≡ [] → (last : V) × VisitsUntilFalse calls visit pairs last
none_visited calls visit [] e = (visit, refl)
none_visited calls visit (p ∷ pairs) e = absurd cc
