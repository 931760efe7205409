-- Batches of a group that are made, put and written to the tables, one after another.
use Rattle.raft_engine.proofs.Common.{◌≡◌, ◌≢◌, inl, inr, ℕ, ◌+◌, ◌<◌, ◌≤◌, ◌^◌, List, [], ◌∷◌, ◌++◌, get_or, length, map, set, take, drop, refl, sym, ap, ◌∙◌, subst, append_assoc, append-nil, length-append, arith, flat_map-append, drop_all, drop_more, drop-set-lt, map-append}
use Rattle.raft_engine.proofs.Common.{take_all, take_more_set, AllByRecursion, Error, FileId, LogFileContext, Item, Batch, Stage, approximate_length, encoded, encoded_length, is_open, Accessor, AreWritten, Writing, Ask, MayBeAsked, Put, ask, bytes_for, placed_at, placed_from}
use Rattle.raft_engine.proofs.Common.{puts_asks, AreFirstPut, BeginInTime, IsOneTooLong, as_encoded, end_from, items_of_batches, Failures, FailsAmong, IsWritableBatch, IsNextRefused}
use Rattle.raft_engine.proofs.WrittenBoth.{written_append}
use Rattle.raft_engine.proofs.PartLemmas.{each_more}

-- ---- one batch more at the end

len_of : Batch → ℕ
len_of batch = encoded_length batch.items batch.entry_bytes

end_more : (offset : ℕ) (xs : List Batch) (b : Batch)
    → end_from offset (xs ++ b ∷ []) ≡ end_from offset xs + encoded_length b.items b.entry_bytes
end_more offset [] b = refl
end_more offset (x ∷ xs) b = end_more (offset + encoded_length x.items x.entry_bytes) xs b

time_more : (offset : ℕ) (xs : List Batch) (b : Batch) → BeginInTime offset xs → end_from offset xs ≤ 2 ^ 63
    → BeginInTime offset (xs ++ b ∷ [])
time_more offset [] b h low = (low, tt)
time_more offset (x ∷ xs) b h low = (h.0, time_more (offset + encoded_length x.items x.entry_bytes) xs b h.1 low)

asks_more : (file : LogFileContext) (xs : List Batch) (b : Batch) (asks : List Ask)
    → puts_asks file (xs ++ b ∷ []) asks ≡ ask file.id.queue (Put (bytes_for file b)) ∷ puts_asks file xs asks
asks_more file [] b asks = refl
asks_more file (x ∷ xs) b asks = asks_more file xs b (ask file.id.queue (Put (bytes_for file x)) ∷ asks)

placed_more : (id : FileId) (offset : ℕ) (xs : List Batch) (b : Batch)
    → placed_from id offset (xs ++ b ∷ []) ≡ placed_from id offset xs ++ placed_at id (end_from offset xs) b
placed_more id offset [] b = append-nil (placed_at id offset b)
placed_more id offset (x ∷ xs) b =
    ap (λ (l : List Item). placed_at id offset x ++ l) (placed_more id (offset + encoded_length x.items x.entry_bytes) xs b)
    ∙ sym (append_assoc (placed_at id offset x) (placed_from id (offset + encoded_length x.items x.entry_bytes) xs) (placed_at id (end_from offset (x ∷ xs)) b))

items_more : (xs : List Batch) (b : Batch) → items_of_batches (xs ++ b ∷ []) ≡ items_of_batches xs ++ b.items
items_more xs b = flat_map-append (λ (x : Batch). x.items) xs (b ∷ []) ∙ ap (λ (l : List Item). items_of_batches xs ++ l) (append-nil b.items)

moved_over : (front : List Batch) (b : Batch) (left rest all : List Batch) → left ≡ b ∷ rest → front ++ left ≡ all
    → (front ++ b ∷ []) ++ rest ≡ all
moved_over front b left rest all e split = append_assoc front (b ∷ []) rest ∙ ap (λ (l : List Batch). front ++ l) (sym e) ∙ split

take_front : {X : Type 0} (a b : List X) → take (length a) (a ++ b) ≡ a
take_front [] b = refl
take_front (x ∷ a) b = ap (λ l. x ∷ l) (take_front a b)

-- ---- bytes that are made

-- the bytes of the first batches are made, and these are left
pub record AreMadeSoFar (all : List Batch) (offset : ℕ) (made : List Batch) (end : ℕ) (rest : List Batch) : Type 0 where
  pub front : List Batch
  pub split : front ++ rest ≡ all
  pub are : made ≡ map as_encoded front
  pub ends : end ≡ end_from offset front
  pub writable : AllByRecursion IsWritableBatch front
  pub in_time : BeginInTime offset front
  pub opened : AllByRecursion (λ (b : Batch). b.stage ≡ is_open) rest
  pub some : AllByRecursion (λ (b : Batch). b.items ≢ []) rest

pub none_made : (all : List Batch) (offset : ℕ) (made : List Batch) → made ≡ []
    → AllByRecursion (λ (b : Batch). b.stage ≡ is_open) all → AllByRecursion (λ (b : Batch). b.items ≢ []) all
    → AreMadeSoFar all offset made offset all
none_made all offset made none opened some = record { front = []; split = refl; are = none; ends = refl; writable = tt; in_time = tt; opened = opened; some = some }

module _ (all : List Batch) (offset : ℕ) (made : List Batch) (end : ℕ) (left : List Batch) (b : Batch) (rest : List Batch) (next : left ≡ b ∷ rest) (h : AreMadeSoFar all offset made end left) where
  pub next_open : b.stage ≡ is_open
  next_open = (subst (AllByRecursion (λ (x : Batch). x.stage ≡ is_open)) next h.opened).0

  pub next_some : b.items ≢ []
  next_some = (subst (AllByRecursion (λ (x : Batch). x.items ≢ [])) next h.some).0

  pub one_made : (after : List Batch) (new : Batch) (len more : ℕ) → new ≡ as_encoded b → after ≡ made ++ new ∷ []
      → len ≡ encoded_length b.items b.entry_bytes → more ≡ end + len → end ≤ 2 ^ 63 → IsWritableBatch b
      → AreMadeSoFar all offset after more rest
  one_made after new len more is pushed long ends low w = record {
    front = h.front ++ b ∷ [];
    split = moved_over h.front b left rest all next h.split;
    are = pushed ∙ ap (λ (x : Batch). made ++ x ∷ []) is ∙ ap (λ (l : List Batch). l ++ as_encoded b ∷ []) h.are ∙ sym (map-append as_encoded h.front (b ∷ []));
    ends = ends ∙ ap (λ n. end + n) long ∙ ap (λ n. n + encoded_length b.items b.entry_bytes) h.ends ∙ sym (end_more offset h.front b);
    writable = each_more IsWritableBatch h.front b h.writable w;
    in_time = time_more offset h.front b h.in_time (subst (λ n. n ≤ 2 ^ 63) h.ends low);
    opened = (subst (AllByRecursion (λ (x : Batch). x.stage ≡ is_open)) next h.opened).1;
    some = (subst (AllByRecursion (λ (x : Batch). x.items ≢ [])) next h.some).1;
  }

  pub begins_late : 2 ^ 63 < end → IsOneTooLong offset all
  begins_late late = record {
    front = h.front;
    batch = b;
    back = rest;
    split = sym h.split ∙ ap (λ (l : List Batch). h.front ++ l) next;
    long = inl (subst (λ n. 2 ^ 63 < n) h.ends late);
  }

  pub is_long : 2 ^ 56 ≤ encoded_length b.items b.entry_bytes → IsOneTooLong offset all
  is_long long = record {
    front = h.front;
    batch = b;
    back = rest;
    split = sym h.split ∙ ap (λ (l : List Batch). h.front ++ l) next;
    long = inr long;
  }

-- all are made
pub record AreAllMade (all : List Batch) (offset : ℕ) (made : List Batch) (end : ℕ) : Type 0 where
  pub are : made ≡ map as_encoded all
  pub ends : end ≡ end_from offset all
  pub writable : AllByRecursion IsWritableBatch all
  pub in_time : BeginInTime offset all

pub all_made : (all : List Batch) (offset : ℕ) (made : List Batch) (end : ℕ) (left : List Batch) → left ≡ []
    → AreMadeSoFar all offset made end left → AreAllMade all offset made end
all_made all offset made end left none h =
    let is : h.front ≡ all = sym (append-nil h.front) ∙ ap (λ (l : List Batch). h.front ++ l) (sym none) ∙ h.split in record {
      are = h.are ∙ ap (map as_encoded) is;
      ends = h.ends ∙ ap (end_from offset) is;
      writable = subst (AllByRecursion IsWritableBatch) is h.writable;
      in_time = subst (BeginInTime offset) is h.in_time;
    }

-- ---- batches that are put

-- the first batches are put, and these are left
pub record ArePutSoFar (file : LogFileContext) (offset : ℕ) (all : List Batch) (old now : List Ask) (placed : List Batch) (at : ℕ) (rest : List Batch) : Type 0 where
  pub front : List Batch
  pub split : front ++ rest ≡ all
  pub asked : now ≡ puts_asks file front old
  pub places : items_of_batches placed ≡ placed_from file.id offset front
  pub ends : at ≡ end_from offset front
  pub made : AllByRecursion (λ (b : Batch). b.stage ≡ encoded) rest
  pub in_time : BeginInTime at rest

pub none_put : (file : LogFileContext) (offset : ℕ) (all : List Batch) (asks : List Ask) (placed : List Batch)
    → placed ≡ [] → AllByRecursion (λ (b : Batch). b.stage ≡ encoded) all → BeginInTime offset all
    → ArePutSoFar file offset all asks asks placed offset all
none_put file offset all asks placed none made in_time = record { front = []; split = refl; asked = refl; places = ap items_of_batches none; ends = refl; made = made; in_time = in_time }

-- the length of a batch whose bytes are made
size_is : (stage : Stage) (items : List Item) (bytes : List ℕ) → stage ≡ encoded
    → approximate_length stage items bytes ≡ encoded_length items bytes
size_is stage [] bytes e = refl
size_is stage (item ∷ items) bytes e = ap (λ s. approximate_length s (item ∷ items) bytes) e

module _ (file : LogFileContext) (offset : ℕ) (all : List Batch) (old now : List Ask) (placed : List Batch) (at : ℕ) (left : List Batch) (b : Batch) (rest : List Batch) (next : left ≡ b ∷ rest)
    (h : ArePutSoFar file offset all old now placed at left) where
  pub next_made : b.stage ≡ encoded
  next_made = (subst (AllByRecursion (λ (x : Batch). x.stage ≡ encoded)) next h.made).0

  pub next_size : (len : ℕ) → len ≡ approximate_length b.stage b.items b.entry_bytes
      → len ≡ encoded_length b.items b.entry_bytes
  next_size len e = e ∙ size_is b.stage b.items b.entry_bytes next_made

  pub next_low : at ≤ 2 ^ 63
  next_low = (subst (BeginInTime at) next h.in_time).0

  whole_split : all ≡ h.front ++ b ∷ rest
  whole_split = sym h.split ∙ ap (λ (l : List Batch). h.front ++ l) next

  asked_more : (new : List Ask) → new ≡ ask file.id.queue (Put (bytes_for file b)) ∷ now
      → new ≡ puts_asks file (h.front ++ b ∷ []) old
  asked_more new e = e ∙ ap (λ (l : List Ask). ask file.id.queue (Put (bytes_for file b)) ∷ l) h.asked ∙ sym (asks_more file h.front b old)

  pub one_put : (new : List Ask) (put : Batch) (after : List Batch) (len more : ℕ)
      → new ≡ ask file.id.queue (Put (bytes_for file b)) ∷ now → put.items ≡ placed_at file.id at b
      → after ≡ placed ++ put ∷ []
      → len ≡ approximate_length b.stage b.items b.entry_bytes → more ≡ at + len
      → ArePutSoFar file offset all old new after more rest
  one_put new put after len more e places pushed long ends = record {
    front = h.front ++ b ∷ [];
    split = moved_over h.front b left rest all next h.split;
    asked = asked_more new e;
    places = ap items_of_batches pushed ∙ items_more placed put ∙ ap (λ (l : List Item). l ++ put.items) h.places ∙ ap (λ (l : List Item). placed_from file.id offset h.front ++ l) places
        ∙ ap (λ n. placed_from file.id offset h.front ++ placed_at file.id n b) h.ends ∙ sym (placed_more file.id offset h.front b);
    ends = at_more ∙ ap (λ n. n + encoded_length b.items b.entry_bytes) h.ends ∙ sym (end_more offset h.front b);
    made = (subst (AllByRecursion (λ (x : Batch). x.stage ≡ encoded)) next h.made).1;
    in_time = subst (λ n. BeginInTime n rest) (sym at_more) (subst (BeginInTime at) next h.in_time).1;
  }
    where
      at_more : more ≡ at + encoded_length b.items b.entry_bytes
      at_more = ends ∙ ap (λ n. at + n) (next_size len long)

  -- it is put too, and no more
  pub first_put : (new : List Ask) → new ≡ ask file.id.queue (Put (bytes_for file b)) ∷ now
      → AreFirstPut file all old new
  first_put new e = record {
    count = length (h.front ++ b ∷ []);
    at_most =
        let long = ap length whole_split ∙ length-append h.front (b ∷ rest) in
        let front = length-append h.front (b ∷ []) in
        omega (arith, long, front);
    asked = asked_more new e ∙ ap (λ (l : List Batch). puts_asks file l old) (sym (
        ap (take (length (h.front ++ b ∷ []))) (whole_split ∙ sym (append_assoc h.front (b ∷ []) rest)) ∙ take_front (h.front ++ b ∷ []) rest));
  }

  -- or it isn't
  pub may_put : (new : List Ask) → MayBeAsked (ask file.id.queue (Put (bytes_for file b))) now new
      → AreFirstPut file all old new
  may_put new (inl e) = record {
    count = length h.front;
    at_most =
        let long = ap length whole_split ∙ length-append h.front (b ∷ rest) in
        omega (arith, long);
    asked = e ∙ h.asked ∙ ap (λ (l : List Batch). puts_asks file l old) (sym (ap (take (length h.front)) whole_split ∙ take_front h.front (b ∷ rest)));
  }
  may_put new (inr e) = first_put new e

-- all are put
pub all_put : (file : LogFileContext) (offset : ℕ) (all : List Batch) (old now : List Ask) (placed : List Batch) (at : ℕ) (left : List Batch)
    → left ≡ [] → ArePutSoFar file offset all old now placed at left
    → (now ≡ puts_asks file all old) × (items_of_batches placed ≡ placed_from file.id offset all)
all_put file offset all old now placed at left none h =
    let is : h.front ≡ all = sym (append-nil h.front) ∙ ap (λ (l : List Batch). h.front ++ l) (sym none) ∙ h.split in
    (h.asked ∙ ap (λ (l : List Batch). puts_asks file l old) is, h.places ∙ ap (placed_from file.id offset) is)

-- batches that are put in place
module _ (file : LogFileContext) (offset : ℕ) (all : List Batch) (old now : List Ask) (ys : List Batch) (i at : ℕ) (d : Batch) (low : i < length ys)
    (h : ArePutSoFar file offset all old now (take i ys) at (drop i ys)) where
  abbrev b : Batch
  b = get_or ys i d

  next_at : drop i ys ≡ b ∷ drop (i + 1) ys
  next_at = drop_more ys i d low

  pub made_at : b.stage ≡ encoded
  made_at = next_made file offset all old now (take i ys) at (drop i ys) b (drop (i + 1) ys) next_at h

  pub low_at : at ≤ 2 ^ 63
  low_at = next_low file offset all old now (take i ys) at (drop i ys) b (drop (i + 1) ys) next_at h

  pub size_at : (len : ℕ) → len ≡ approximate_length b.stage b.items b.entry_bytes → len ≡ encoded_length b.items b.entry_bytes
  size_at = next_size file offset all old now (take i ys) at (drop i ys) b (drop (i + 1) ys) next_at h

  pub may_put_at : (new : List Ask) → MayBeAsked (ask file.id.queue (Put (bytes_for file b))) now new → AreFirstPut file all old new
  may_put_at = may_put file offset all old now (take i ys) at (drop i ys) b (drop (i + 1) ys) next_at h

  pub one_put_at : (new : List Ask) (put : Batch) (len more : ℕ) → new ≡ ask file.id.queue (Put (bytes_for file b)) ∷ now → put.items ≡ placed_at file.id at b
      → len ≡ approximate_length b.stage b.items b.entry_bytes → more ≡ at + len
      → ArePutSoFar file offset all old new (take (i + 1) (set ys i put)) more (drop (i + 1) (set ys i put))
  one_put_at new put len more e places long ends =
      subst (ArePutSoFar file offset all old new (take (i + 1) (set ys i put)) more) (sym (drop-set-lt (i + 1) ys i put (omega arith)))
      (one_put file offset all old now (take i ys) at (drop i ys) b (drop (i + 1) ys) next_at h new put (take (i + 1) (set ys i put)) len more e places (take_more_set ys i put low) long ends)

pub all_put_at : (file : LogFileContext) (offset : ℕ) (all : List Batch) (old now : List Ask) (ys : List Batch) (i at : ℕ) → length ys ≤ i
    → ArePutSoFar file offset all old now (take i ys) at (drop i ys) → (now ≡ puts_asks file all old) × (items_of_batches ys ≡ placed_from file.id offset all)
all_put_at file offset all old now ys i at most h =
    let put = all_put file offset all old now (take i ys) at (drop i ys) (drop_all i ys most) h in
    (put.0, ap items_of_batches (sym (take_all i ys most)) ∙ put.1)

-- ---- where the files fail

-- what is put behind what was asked
puts_behind : (file : LogFileContext) (xs : List Batch) (asks : List Ask) → puts_asks file xs asks ≡ puts_asks file xs [] ++ asks
puts_behind file [] asks = refl
puts_behind file (x ∷ xs) asks =
    let a : Ask = ask file.id.queue (Put (bytes_for file x)) in
    puts_behind file xs (a ∷ asks) ∙ sym (append_assoc (puts_asks file xs []) (a ∷ []) asks) ∙ ap (λ (l : List Ask). l ++ asks) (sym (puts_behind file xs (a ∷ [])))

puts_split : (file : LogFileContext) (xs : List Batch) (b : Batch) (rest : List Batch) (asks : List Ask)
    → puts_asks file (xs ++ b ∷ rest) asks ≡ puts_asks file rest (ask file.id.queue (Put (bytes_for file b)) ∷ puts_asks file xs asks)
puts_split file [] b rest asks = refl
puts_split file (x ∷ xs) b rest asks = puts_split file xs b rest (ask file.id.queue (Put (bytes_for file x)) ∷ asks)

-- behind the first batches the files fail to put the next one
pub fails_at : (MayFail : Failures) (file : LogFileContext) (offset : ℕ) (all : List Batch) (old now : List Ask) (ys : List Batch) (i at : ℕ) (d : Batch) → i < length ys
    → ArePutSoFar file offset all old now (take i ys) at (drop i ys) → (new : List Ask) (e : Error)
    → MayBeAsked (ask file.id.queue (Put (bytes_for file (get_or ys i d)))) now new → MayFail now (ask file.id.queue (Put (bytes_for file (get_or ys i d)))) e
    → FailsAmong MayFail (puts_asks file all []) old new e
fails_at MayFail file offset all old now ys i at d low h new e may why =
    let b : Batch = get_or ys i d in
    let its : Ask = ask file.id.queue (Put (bytes_for file b)) in
    let rest : List Batch = drop (i + 1) ys in
    let whole : all ≡ h.front ++ b ∷ rest = sym h.split ∙ ap (λ (l : List Batch). h.front ++ l) (next_at file offset all old now ys i at d low h) in
    let are : now ≡ puts_asks file h.front [] ++ old = h.asked ∙ puts_behind file h.front old in
    record {
      later = puts_asks file rest [];
      failed = its;
      earlier = puts_asks file h.front [];
      split = ap (λ (l : List Batch). puts_asks file l []) whole ∙ puts_split file h.front b rest [] ∙ puts_behind file rest (its ∷ puts_asks file h.front []);
      asked = subst (λ (l : List Ask). MayBeAsked its l new) are may;
      why = subst (λ (l : List Ask). MayFail l its e) are why;
    }

-- ---- items that are written

-- the items of the first batches are written, and these are left
pub record AreWrittenSoFar (w : Writing) (all : List Batch) (old now : Accessor) (rest : List Batch) : Type 0 where
  pub front : List Batch
  pub split : front ++ rest ≡ all
  pub written : AreWritten w (items_of_batches front) old now

pub none_written : (w : Writing) (all : List Batch) (a : Accessor) → AreWrittenSoFar w all a a all
none_written w all a = record { front = []; split = refl; written = record { asked = tt; accepted = tt; tables = refl; cleaned = sym (append-nil a.cleaned); counts = refl } }

pub one_written : (w : Writing) (all : List Batch) (old now new : Accessor) (left : List Batch) (b : Batch) (rest : List Batch)
    → left ≡ b ∷ rest → AreWritten w b.items now new → AreWrittenSoFar w all old now left
    → AreWrittenSoFar w all old new rest
one_written w all old now new left b rest next wrote h = record {
  front = h.front ++ b ∷ [];
  split = moved_over h.front b left rest all next h.split;
  written = subst (λ (l : List Item). AreWritten w l old new) (sym (items_more h.front b)) (written_append w (items_of_batches h.front) b.items old now new h.written wrote);
}

pub all_written : (w : Writing) (all : List Batch) (old now : Accessor) (left : List Batch) → left ≡ []
    → AreWrittenSoFar w all old now left → AreWritten w (items_of_batches all) old now
all_written w all old now left none h =
    subst (λ (l : List Batch). AreWritten w (items_of_batches l) old now) (sym (append-nil h.front) ∙ ap (λ (l : List Batch). h.front ++ l) (sym none) ∙ h.split) h.written

-- the next item is refused
pub group_refused : (w : Writing) (all : List Batch) (old now new : Accessor) (e : Error) (left : List Batch) (b : Batch) (rest : List Batch)
    → left ≡ b ∷ rest → IsNextRefused w b.items now new e → AreWrittenSoFar w all old now left
    → IsNextRefused w (items_of_batches all) old new e
group_refused w all old now new e left b rest next f h = record {
  tried = items_of_batches h.front ++ f.tried;
  rest = f.rest ++ items_of_batches rest;
  split =
      ap items_of_batches (sym h.split ∙ ap (λ (l : List Batch). h.front ++ l) next) ∙ flat_map-append (λ (x : Batch). x.items) h.front (b ∷ rest)
      ∙ ap (λ (l : List Item). items_of_batches h.front ++ (l ++ items_of_batches rest)) f.split
      ∙ ap (λ (l : List Item). items_of_batches h.front ++ l) (append_assoc f.tried f.rest (items_of_batches rest))
      ∙ sym (append_assoc (items_of_batches h.front) f.tried (f.rest ++ items_of_batches rest));
  refused = record {
    front = items_of_batches h.front ++ f.refused.front;
    item = f.refused.item;
    split = ap (λ (l : List Item). items_of_batches h.front ++ l) f.refused.split ∙ sym (append_assoc (items_of_batches h.front) f.refused.front (f.refused.item ∷ []));
    written = written_append w (items_of_batches h.front) f.refused.front old now new h.written f.refused.written;
    fault = f.refused.fault;
  };
}
