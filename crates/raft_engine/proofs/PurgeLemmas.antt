-- Files that no table needs, and their deletion.
use Rattle.raft_engine.proofs.Common.{◌≡◌, ℕ, zero, suc, ◌+◌, ◌-◌, ◌<◌, ◌≤◌, Bool, true, false, cond, List, [], ◌∷◌, ◌++◌, length, take, drop, refl, sym, ap, ◌∙◌, subst, arith, append_assoc, length-append, take-append-drop, nat_tests, length-map, length-take-le, map-append}
use Rattle.raft_engine.proofs.Common.{nat_lt, AllByRecursion, LogQueue, Append, Rewrite, Version, Tables, Ask, Delete, NumberedBytes, acts_on, ask, begun, deletions, files_of, AreLeastFrom, AreRisingFrom, numbers, KeptEngine, AreFilesOf, AreSynced, AreExpired, BeginWithNeeded}
use Rattle.raft_engine.proofs.Common.{IsExpired, IsLeastNeeded, delete_asks, front_below, AreKeptStored, Bases, DeletionsAreStored, QueueFiles}

-- ---- numbers below one

prefix_take : (least : ℕ) (ns : List ℕ) → AllByRecursion (λ (n : ℕ). n < least) (take (front_below least ns) ns)
prefix_take least [] = tt
prefix_take least (n ∷ ns) = go (nat_lt n least) refl (prefix_take least ns)
  where
    go : (b : Bool) → nat_lt n least ≡ b → AllByRecursion (λ (n : ℕ). n < least) (take (front_below least ns) ns)
        → AllByRecursion (λ (n : ℕ). n < least) (take (cond b (suc (front_below least ns)) 0) (n ∷ ns))
    go true e all = ((let low : n < least = grind (arith, nat_tests) in low), all)
    go false e all = tt

prefix_few : (least : ℕ) (ns : List ℕ) → front_below least ns ≤ length ns
prefix_few least [] = omega arith
prefix_few least (n ∷ ns) = go (nat_lt n least) (prefix_few least ns)
  where
    go : (b : Bool) → front_below least ns ≤ length ns → cond b (suc (front_below least ns)) 0 ≤ suc (length ns)
    go true few = omega (arith, few)
    go false few = omega arith

first_same : (a b : ℕ) (more rest : List ℕ) → a ∷ more ≡ b ∷ rest → a ≡ b
first_same a b more rest e = cc

rest_same : (a b : ℕ) (more rest : List ℕ) → a ∷ more ≡ b ∷ rest → more ≡ rest
rest_same a b more rest e = cc

-- the first one that isn't
prefix_drop : (least : ℕ) (ns : List ℕ) (n : ℕ) (rest : List ℕ) → drop (front_below least ns) ns ≡ n ∷ rest → least ≤ n
prefix_drop least [] n rest e = absurd cc
prefix_drop least (x ∷ ns) n rest e = go (nat_lt x least) refl (prefix_drop least ns n rest) e
  where
    go : (b : Bool) → nat_lt x least ≡ b → (drop (front_below least ns) ns ≡ n ∷ rest → least ≤ n)
        → drop (cond b (suc (front_below least ns)) 0) (x ∷ ns) ≡ n ∷ rest → least ≤ n
    go true is later e = later e
    go false is later e = let high : least ≤ x = grind (arith, nat_tests) in subst (λ (m : ℕ). least ≤ m) (first_same x n ns rest e) high

-- numbers that rise go on to rise
rising_after : (n : ℕ) (front ns : List ℕ) → AreRisingFrom n (front ++ ns) → (m : ℕ) × AreRisingFrom m ns
rising_after n [] ns r = (n, r)
rising_after n (x ∷ front) ns r = rising_after (suc x) front ns r.1

rising_to_last : (n : ℕ) (ns : List ℕ) (last : ℕ) → AreRisingFrom n (ns ++ last ∷ []) → n ≤ last
rising_to_last n [] last r = r.0
rising_to_last n (x ∷ ns) last r = let low = r.0 in let up = rising_to_last (suc x) ns last r.1 in omega (arith, low, up)

-- a prefix of closed numbers and the last one, with something behind it, is one of the closed ones
prefix_closed : (ns : List ℕ) (last : ℕ) (front rest : List ℕ) → ns ++ last ∷ [] ≡ front ++ rest → (rest ≡ [] → ⊥) → (length front ≤ length ns) × (front ≡ take (length front) ns)
prefix_closed ns last [] rest e some = (omega arith, refl)
prefix_closed [] last (x ∷ front) rest e some = absurd (some (none_behind front rest (sym (rest_same last x [] (front ++ rest) e))))
  where
    none_behind : (a b : List ℕ) → a ++ b ≡ [] → b ≡ []
    none_behind [] b e = e
    none_behind (y ∷ a) b e = absurd cc
prefix_closed (n ∷ ns) last (x ∷ front) rest e some =
    let more = prefix_closed ns last front rest (rest_same n x (ns ++ last ∷ []) (front ++ rest) e) some in
    ((let low = more.0 in omega (arith, low)), ap (λ m. m ∷ front) (sym (first_same n x (ns ++ last ∷ []) (front ++ rest) e)) ∙ ap (λ (l : List ℕ). n ∷ l) more.1)

-- ---- which files

drop_front : (front files : List NumberedBytes) → drop (length front) (front ++ files) ≡ files
drop_front [] files = refl
drop_front (x ∷ front) files = drop_front front files

module _ (queue : LogQueue) where
  all_expired : (tables : Tables) (least : ℕ) → AreLeastFrom queue least tables → (ns : List ℕ) → AllByRecursion (λ (n : ℕ). n < least) ns → AllByRecursion (IsExpired queue tables) ns
  all_expired tables least from [] all = tt
  all_expired tables least from (n ∷ ns) all = ((λ r seq e. let up = from r seq e in let low = all.0 in omega (arith, up, low)), all_expired tables least from ns all.1)

  -- one at the least number or above it, in front of the last one, is needed
  is_needed : (tables : Tables) (last least n : ℕ) → IsLeastNeeded queue tables last least → least ≤ n → n < last → IsExpired queue tables n → ⊥
  is_needed tables last least n l up less expired = l.needed (omega (arith, up, less)) (λ r seq e. let high = expired r seq e in omega (arith, high, up))

  begin_needed : (tables : Tables) (last least m : ℕ) → IsLeastNeeded queue tables last least → (ns : List ℕ) → AreRisingFrom m (ns ++ last ∷ [])
      → ((n : ℕ) (rest : List ℕ) → ns ≡ n ∷ rest → least ≤ n) → BeginWithNeeded queue tables (ns ++ last ∷ [])
  begin_needed tables last least m l [] r up = tt
  begin_needed tables last least m l (n ∷ []) r up = is_needed tables last least n l (up n [] refl) (rising_to_last (suc n) [] last r.1)
  begin_needed tables last least m l (n ∷ next ∷ ns) r up = is_needed tables last least n l (up n (next ∷ ns) refl) (rising_to_last (suc n) (next ∷ ns) last r.1)

  -- the numbers of the files that are there
  numbers_there : (asks : List Ask) (files : QueueFiles) → AreFilesOf queue asks files → numbers (files_of queue asks) ≡ files.closed.items ++ files.seq ∷ []
  numbers_there asks files f =
      ap numbers (ap (λ (n : ℕ). drop n (begun (acts_on queue asks))) f.deleted ∙ ap (drop (length f.gone)) f.are ∙ drop_front f.gone (f.closed ++ (files.seq, f.bytes) ∷ []))
      ∙ map-append (λ (file : NumberedBytes). file.0) f.closed ((files.seq, f.bytes) ∷ []) ∙ ap (λ (ns : List ℕ). ns ++ files.seq ∷ []) (sym f.have)

  rising_there : (asks : List Ask) (files : QueueFiles) (first : ℕ) → AreRisingFrom first (numbers (begun (acts_on queue asks))) → (f : AreFilesOf queue asks files)
      → (m : ℕ) × AreRisingFrom m (files.closed.items ++ files.seq ∷ [])
  rising_there asks files first r f =
      rising_after first (numbers f.gone) (files.closed.items ++ files.seq ∷ [])
      (subst (AreRisingFrom first)
      (ap numbers f.are ∙ map-append (λ (file : NumberedBytes). file.0) f.gone (f.closed ++ (files.seq, f.bytes) ∷ [])
      ∙ ap (λ (ns : List ℕ). numbers f.gone ++ ns) (map-append (λ (file : NumberedBytes). file.0) f.closed ((files.seq, f.bytes) ∷ []) ∙ ap (λ (ns : List ℕ). ns ++ files.seq ∷ []) (sym f.have))) r)

  -- those below the least number that is needed are expired
  module _ (engine : KeptEngine) (files : QueueFiles) (f : AreFilesOf queue engine.asks files) (first least count : ℕ)
      (rising : AreRisingFrom first (numbers (begun (acts_on queue engine.asks)))) (l : IsLeastNeeded queue engine.accessor.tables files.seq least)
      (counted : count ≡ front_below least files.closed.items) where
    abbrev ns : List ℕ
    ns = files.closed.items

    few : count ≤ length ns
    few = let low = prefix_few least ns in omega (arith, counted, low)

    pub are_expired : AreExpired queue engine count
    are_expired =
        let all = rising_there engine.asks files first rising f in
        let parts : ns ++ files.seq ∷ [] ≡ take count ns ++ (drop count ns ++ files.seq ∷ []) =
        ap (λ (l : List ℕ). l ++ files.seq ∷ []) (sym (take-append-drop count ns)) ∙ append_assoc (take count ns) (drop count ns) (files.seq ∷ []) in
        let later = rising_after all.0 (take count ns) (drop count ns ++ files.seq ∷ []) (subst (AreRisingFrom all.0) parts all.1) in
        record {
          expired = take count ns;
          rest = drop count ns ++ files.seq ∷ [];
          split = numbers_there engine.asks files f ∙ parts;
          many = length-take-le count ns few;
          are = all_expired engine.accessor.tables least l.from (take count ns) (subst (λ (n : ℕ). AllByRecursion (λ (n : ℕ). n < least) (take n ns)) (sym counted) (prefix_take least ns));
          no_more = begin_needed engine.accessor.tables files.seq least later.0 l (drop count ns) later.1
              (λ n rest e. prefix_drop least ns n rest (ap (λ (m : ℕ). drop m ns) (sym counted) ∙ e));
        }

  -- the expired ones are the first ones of the closed files
  module _ (engine : KeptEngine) (files : QueueFiles) (f : AreFilesOf queue engine.asks files) (count : ℕ) (x : AreExpired queue engine count) where
    some_behind : (rest : List ℕ) → BeginWithNeeded queue engine.accessor.tables rest → rest ≡ [] → ⊥
    some_behind [] b e = b
    some_behind (n ∷ rest) b e = absurd cc

    closed_front : (length x.expired ≤ length files.closed.items) × (x.expired ≡ take (length x.expired) files.closed.items)
    closed_front = prefix_closed files.closed.items files.seq x.expired x.rest (sym (numbers_there engine.asks files f) ∙ x.split) (some_behind x.rest x.no_more)

    pub few_expired : count ≤ length files.closed.items
    few_expired = let low = closed_front.0 in let many = x.many in omega (arith, low, many)

    pub closed_expired : AllByRecursion (IsExpired queue engine.accessor.tables) (take count files.closed.items)
    closed_expired = subst (AllByRecursion (IsExpired queue engine.accessor.tables)) (closed_front.1 ∙ ap (λ (n : ℕ). take n files.closed.items) x.many) x.are

-- ---- deletions

delete_begun : (queue : LogQueue) (count : ℕ) (asks : List Ask) → begun (acts_on queue (delete_asks queue count ++ asks)) ≡ begun (acts_on queue asks)
delete_begun queue zero asks = refl
delete_begun Append (suc count) asks = delete_begun Append count asks
delete_begun Rewrite (suc count) asks = delete_begun Rewrite count asks

delete_count : (queue : LogQueue) (count : ℕ) (asks : List Ask) → deletions (acts_on queue (delete_asks queue count ++ asks)) ≡ count + deletions (acts_on queue asks)
delete_count queue zero asks = omega arith
delete_count Append (suc count) asks = let more = delete_count Append count asks in omega (arith, more)
delete_count Rewrite (suc count) asks = let more = delete_count Rewrite count asks in omega (arith, more)

one_synced : (queue other : LogQueue) (asks : List Ask) → AreSynced (acts_on other asks) → AreSynced (acts_on other (ask queue Delete ∷ asks))
one_synced Append Append asks s = s
one_synced Append Rewrite asks s = s
one_synced Rewrite Append asks s = s
one_synced Rewrite Rewrite asks s = s

-- of the other queue nothing is asked
pub append_deletes_others : (count : ℕ) (asks : List Ask) → acts_on Rewrite (delete_asks Append count ++ asks) ≡ acts_on Rewrite asks
append_deletes_others zero asks = refl
append_deletes_others (suc count) asks = append_deletes_others count asks

pub rewrite_deletes_others : (count : ℕ) (asks : List Ask) → acts_on Append (delete_asks Rewrite count ++ asks) ≡ acts_on Append asks
rewrite_deletes_others zero asks = refl
rewrite_deletes_others (suc count) asks = rewrite_deletes_others count asks

pub take_fewer : {X : Type 0} (P : X → Type 0) (m n : ℕ) (xs : List X) → m ≤ n → AllByRecursion P (take n xs) → AllByRecursion P (take m xs)
take_fewer P zero n xs low all = tt
take_fewer P (suc m) n [] low all = tt
take_fewer P (suc m) zero (x ∷ xs) low all = absurd (omega (arith, low))
take_fewer P (suc m) (suc n) (x ∷ xs) low all = (all.0, take_fewer P m n xs (omega (arith, low)) all.1)

numbers_drop : (count : ℕ) (files : List NumberedBytes) → drop count (numbers files) ≡ numbers (drop count files)
numbers_drop zero files = refl
numbers_drop (suc count) [] = refl
numbers_drop (suc count) (x ∷ files) = numbers_drop count files

-- as many closed files as numbers of them
pub closed_few : (count : ℕ) (files : QueueFiles) (closed : List NumberedBytes) → files.closed.items ≡ numbers closed → count ≤ length files.closed.items → count ≤ length closed
closed_few count files closed same few = let long = ap length same ∙ length-map closed (λ (file : NumberedBytes). file.0) in omega (arith, few, long)

module _ (queue : LogQueue) where
  delete_shift : (count : ℕ) (asks : List Ask) → delete_asks queue count ++ (ask queue Delete ∷ asks) ≡ ask queue Delete ∷ (delete_asks queue count ++ asks)
  delete_shift zero asks = refl
  delete_shift (suc count) asks = ap (λ (l : List Ask). ask queue Delete ∷ l) (delete_shift count asks)

  delete_sum : (more made count : ℕ) → more + made ≡ count → delete_asks queue count ≡ delete_asks queue more ++ delete_asks queue made
  delete_sum zero made count e = ap (delete_asks queue) (let same : count ≡ made = omega (arith, e) in same)
  delete_sum (suc more) made zero e = absurd (omega (arith, e))
  delete_sum (suc more) made (suc count) e = ap (λ (l : List Ask). ask queue Delete ∷ l) (delete_sum more made count (omega (arith, e)))

  -- fewer deletions of so many
  pub delete_fewer : (made count : ℕ) → made ≤ count → delete_asks queue count ≡ delete_asks queue (count - made) ++ delete_asks queue made
  delete_fewer made count low = delete_sum (count - made) made count (omega (arith, low))

  module _ (deleted : DeletionsAreStored queue) (version : Version) (base : Bases) (tables : Tables) where
    one_deleted : (asks : List Ask) (gone closed : List NumberedBytes) (oldest last : NumberedBytes)
        → AreSynced (acts_on Append asks) → AreSynced (acts_on Rewrite asks) → begun (acts_on queue asks) ≡ gone ++ (oldest ∷ (closed ++ last ∷ [])) → deletions (acts_on queue asks) ≡ length gone
        → IsExpired queue tables oldest.0 → AreKeptStored version asks base [] tables → AreKeptStored version (ask queue Delete ∷ asks) base [] tables
    one_deleted asks gone [] oldest last append rewrite is count expired s = deleted version asks base tables gone [] oldest last append rewrite is count expired s
    one_deleted asks gone (next ∷ closed) oldest last append rewrite is count expired s = deleted version asks base tables gone (closed ++ last ∷ []) oldest next append rewrite is count expired s

    pub all_deleted : (count : ℕ) (asks : List Ask) (gone closed : List NumberedBytes) (last : NumberedBytes)
        → AreSynced (acts_on Append asks) → AreSynced (acts_on Rewrite asks) → begun (acts_on queue asks) ≡ gone ++ (closed ++ last ∷ []) → deletions (acts_on queue asks) ≡ length gone
        → AllByRecursion (IsExpired queue tables) (take count (numbers closed)) → count ≤ length closed
        → AreKeptStored version asks base [] tables → AreKeptStored version (delete_asks queue count ++ asks) base [] tables
    all_deleted zero asks gone closed last append rewrite is many all low s = s
    all_deleted (suc count) asks gone [] last append rewrite is many all low s = absurd (omega (arith, low))
    all_deleted (suc count) asks gone (oldest ∷ closed) last append rewrite is many all low s =
        let one = one_deleted asks gone closed oldest last append rewrite is many all.0 s in
        let long = length-append gone (oldest ∷ []) in
        let more : deletions (acts_on queue (ask queue Delete ∷ asks)) ≡ 1 + deletions (acts_on queue asks) = delete_count queue 1 asks in
        subst (λ (l : List Ask). AreKeptStored version l base [] tables) (delete_shift count asks)
        (all_deleted count (ask queue Delete ∷ asks) (gone ++ oldest ∷ []) closed last (one_synced queue Append asks append) (one_synced queue Rewrite asks rewrite)
        (delete_begun queue 1 asks ∙ is ∙ sym (append_assoc gone (oldest ∷ []) (closed ++ last ∷ []))) (omega (arith, more, many, long)) all.1 (omega (arith, low)) one)

  -- the files that are left
  pub files_deleted : (count : ℕ) (asks : List Ask) (files other : QueueFiles) → AreFilesOf queue asks files → count ≤ length files.closed.items
      → other.closed.items ≡ drop count files.closed.items → other.seq ≡ files.seq → other.len ≡ files.len → AreFilesOf queue (delete_asks queue count ++ asks) other
  files_deleted count asks files other f some closed seq len =
      let low = closed_few count files f.closed f.have some in
      let last : NumberedBytes = (files.seq, f.bytes) in
      let long = length-append f.gone (take count f.closed) in
      let taken = length-take-le count f.closed low in
      let more = delete_count queue count asks in
      let was = f.deleted in record {
        gone = f.gone ++ take count f.closed;
        closed = drop count f.closed;
        bytes = f.bytes;
        are = delete_begun queue count asks ∙ f.are
            ∙ ap (λ (l : List NumberedBytes). f.gone ++ (l ++ last ∷ [])) (sym (take-append-drop count f.closed)) ∙ ap (λ (l : List NumberedBytes). f.gone ++ l) (append_assoc (take count f.closed) (drop count f.closed) (last ∷ []))
            ∙ sym (append_assoc f.gone (take count f.closed) (drop count f.closed ++ last ∷ []))
            ∙ ap (λ (n : ℕ). (f.gone ++ take count f.closed) ++ (drop count f.closed ++ (n, f.bytes) ∷ [])) (sym seq);
        deleted = omega (arith, more, was, long, taken);
        have = closed ∙ ap (drop count) f.have ∙ numbers_drop count f.closed;
        ends = len ∙ f.ends;
      }

  -- ---- one turn of the loop

  pub more_deleted : (n : ℕ) (before old new : List Ask) → before ≡ delete_asks queue n ++ old → new ≡ ask queue Delete ∷ before → new ≡ delete_asks queue (n + 1) ++ old
  more_deleted n before old new is asked =
      asked ∙ ap (λ (l : List Ask). ask queue Delete ∷ l) is ∙ ap (λ (m : ℕ). delete_asks queue m ++ old) (let e : suc n ≡ n + 1 = omega arith in e)
