-- What words ask for.
use Rattle.raft_recover.proofs.Common.{◌≡◌, ◌≢◌, ℕ, zero, suc, ◌+◌, ◌-◌, ◌<◌, ◌≤◌, List, [], ◌∷◌, ◌++◌, length, get_or, take, drop, map, codes, false, not, Bor, Option, None, Some, IfNone, MatchOption, arith, subst, ap}
use Rattle.raft_recover.proofs.Common.{sym, ◌∙◌, append_assoc, append-nil, drop_more, drop_all, length-drop, left_from, take_all, map_push, map_more, digit_value, AllDigits, IsSplitOnceResult, split_after, bytes_eq, bytes_eq-Decides}
use Rattle.std.proofs.lemmas.Bool.{not-false}
use Rattle.raft_recover.proofs.Common.{AllByRecursion, LogFileContext, NamesContext, NamesPath, IsPathWord, AsksBatch, NumberedPath, ArePathsNamed}

-- what is left behind so many items is all of it
rest_all : {X : Type 0} (k : ℕ) (xs : List X) → drop k xs ≡ take (length xs - k) (drop k xs)
rest_all k xs = sym (take_all (length xs - k) (drop k xs) (omega (arith, length-drop k xs)))

-- a list of one or more is its first item and the rest
pub one_and_more : {X : Type 0} (xs : List X) (a : X) → 1 ≤ length xs → a ≡ get_or xs 0 a → xs ≡ a ∷ take (length xs - 1) (drop 1 xs)
one_and_more {X} xs a low p = left_from xs 0 a (omega (arith, low)) p ∙ ap (λ (l : List X). a ∷ l) (rest_all 1 xs)

-- a list of two or more is its first two items and the rest
pub two_and_more : {X : Type 0} (xs : List X) (a b : X) → 2 ≤ length xs → a ≡ get_or xs 0 a → b ≡ get_or xs 1 b → xs ≡ a ∷ b ∷ take (length xs - 2) (drop 2 xs)
two_and_more {X} xs a b low p q =
    left_from xs 0 a (omega (arith, low)) p ∙ ap (λ (l : List X). a ∷ l) (left_from xs 1 b (omega (arith, low)) q ∙ ap (λ (l : List X). b ∷ l) (rest_all 2 xs))

-- a list of four or more is its first four items and the rest
pub four_and_more : {X : Type 0} (xs : List X) (a b c d : X) → 4 ≤ length xs → a ≡ get_or xs 0 a → b ≡ get_or xs 1 b → c ≡ get_or xs 2 c → d ≡ get_or xs 3 d → xs ≡ a ∷ b ∷ c ∷ d ∷ take (length xs - 4) (drop 4 xs)
four_and_more {X} xs a b c d low p q r s =
    left_from xs 0 a (omega (arith, low)) p
    ∙ ap (λ (l : List X). a ∷ l) (left_from xs 1 b (omega (arith, low)) q)
    ∙ ap (λ (l : List X). a ∷ b ∷ l) (left_from xs 2 c (omega (arith, low)) r)
    ∙ ap (λ (l : List X). a ∷ b ∷ c ∷ l) (left_from xs 3 d (omega (arith, low)) s ∙ ap (λ (l : List X). d ∷ l) (rest_all 4 xs))

-- a list of four is its items
pub four_items : {X : Type 0} (xs : List X) (a b c d : X) → 4 ≤ length xs → length xs < 5 → a ≡ get_or xs 0 a → b ≡ get_or xs 1 b → c ≡ get_or xs 2 c → d ≡ get_or xs 3 d → xs ≡ a ∷ b ∷ c ∷ d ∷ []
four_items xs a b c d low high p q r s =
    let none : length xs - 4 ≡ 0 = omega (arith, high) in
    four_and_more xs a b c d low p q r s ∙ ap (λ n. a ∷ b ∷ c ∷ d ∷ take n (drop 4 xs)) none

-- `batch` and words that name a file ask for its batch
pub asks_batch : (words : List (List ℕ)) (command queue seq version : List ℕ) (context : LogFileContext) →
    words ≡ command ∷ queue ∷ seq ∷ version ∷ [] → command ≡ codes "batch" → NamesContext queue seq version context → AsksBatch words context
asks_batch words command queue seq version context split batch file =
    record { queue = queue; seq = seq; version = version; form = rw (← batch) split; file = file }

-- where the words name no file no batch is asked for
pub asks_no_batch : (words : List (List ℕ)) (command queue seq version : List ℕ) → words ≡ command ∷ queue ∷ seq ∷ version ∷ [] →
    ((context : LogFileContext) → NamesContext queue seq version context → ⊥) → (context : LogFileContext) → AsksBatch words context → ⊥
asks_no_batch words command queue seq version split none context asked =
    let same_queue : asked.queue ≡ queue = cc in
    let same_seq : asked.seq ≡ seq = cc in
    let same_version : asked.version ≡ version = cc in
    none context (rw (← same_queue, ← same_seq, ← same_version) asked.file)

-- texts that a test for difference found equal
pub same_text : (xs ys : List ℕ) → false ≡ not (bytes_eq xs ys) → xs ≡ ys
same_text xs ys h = (bytes_eq-Decides xs ys).0 (not-false (bytes_eq xs ys) (sym h))

-- what follows from what is known of a `None`
pub none_then : {X : Type 0} (r : Option X) {P Q : Type 0} → IfNone r P → (P → Q) → IfNone r Q
none_then None h f = f h
none_then (Some x) h f = tt

-- what holds anyway holds of a `None`
pub none_holds : {X : Type 0} (r : Option X) {P : Type 0} → P → IfNone r P
none_holds None p = p
none_holds (Some x) p = tt

-- digits are no `=`
no_equals : (ds : List ℕ) → AllDigits 10 ds → (i : ℕ) → i < length ds → get_or ds i 0 ≢ 61
no_equals [] h i low = absurd (omega arith)
no_equals (d ∷ ds) h zero low = λ e. let digit : digit_value 61 < 10 = subst (λ x. digit_value x < 10) e h.0 in omega (arith, digit)
no_equals (d ∷ ds) h (suc i) low = no_equals ds h.1 i (omega arith)

-- the parts of a word that names a file stand round its first `=`
pub path_parts : (word : List ℕ) (r : Option (Bor (List ℕ) × Bor (List ℕ))) → IsSplitOnceResult 61 word r → (p : IsPathWord word) → MatchOption r ⊥ (λ x. (x.0.now ≡ p.named.digits) × (x.1.now ≡ p.path))
path_parts word r h p = split_after 61 word p.named.digits p.path r h (omega arith) p.named.form (no_equals p.named.digits p.named.number.digits.1)

-- the words behind four are the same, however the four are named
pub same_rest : (words rest files : List (List ℕ)) (a b c d e f g h : List ℕ) → words ≡ a ∷ b ∷ c ∷ d ∷ rest → words ≡ e ∷ f ∷ g ∷ h ∷ files → files ≡ rest
same_rest words rest files a b c d e f g h split form = cc

-- words whose first is `recover`
pub recover_first : (words rest : List (List ℕ)) (command a b c : List ℕ) → words ≡ command ∷ a ∷ b ∷ c ∷ rest → command ≡ codes "recover" → words ≡ codes "recover" ∷ a ∷ b ∷ c ∷ rest
recover_first words rest command a b c split recover = rw (← recover) split

-- one more word names one more file
pub named_more : (words : List (List ℕ)) (files : List NumberedPath) (word : List ℕ) (file : NumberedPath) → ArePathsNamed words files → NamesPath word file.0 file.1 → ArePathsNamed (words ++ word ∷ []) (files ++ file ∷ [])
named_more [] [] word file all one = (one, tt)
named_more [] (f ∷ fs) word file all one = absurd all
named_more (w ∷ ws) [] word file all one = absurd all
named_more (w ∷ ws) (f ∷ fs) word file all one = (all.0, named_more ws fs word file all.1 one)

-- words that each name a file name some files
pub files_of_words : (words : List (List ℕ)) → AllByRecursion IsPathWord words → (files : List NumberedPath) × ArePathsNamed words files
files_of_words [] all = ([], tt)
files_of_words (w ∷ ws) all = let rest = files_of_words ws all.1 in ((all.0.seq, all.0.path) ∷ rest.0, (all.0.named, rest.1))

-- of words that name files each names one
pub each_names : (words : List (List ℕ)) (files : List NumberedPath) → ArePathsNamed words files → AllByRecursion IsPathWord words
each_names [] files all = tt
each_names (w ∷ ws) [] all = absurd all
each_names (w ∷ ws) (f ∷ fs) all = (record { seq = f.0; path = f.1; named = all.0 }, each_names ws fs all.1)

-- so many items and the next one are so many and one more
pub front_more : {X Y : Type 0} (f : X → Y) (xs : List X) (i : ℕ) (x : X) → i < length xs → x ≡ get_or xs i x → map f (take (i + 1) xs) ≡ map f (take i xs) ++ f x ∷ []
front_more f xs i x low is = map_more f xs i x low ∙ ap (λ y. map f (take i xs) ++ f y ∷ []) (sym is)

-- the number of the next file goes behind those so far
pub number_more : {X Y : Type 0} (f : X → ℕ) (g : Y → ℕ) (xs : List X) (x : X) (ys : List Y) (i : ℕ) (d : Y) → i < length ys →
    f x ≡ g (get_or ys i d) → map f xs ++ map g (drop i ys) ≡ map g ys → map f (xs ++ x ∷ []) ++ map g (drop (i + 1) ys) ≡ map g ys
number_more f g xs x ys i d low same before =
    let y = get_or ys i d in
    let left : map g (drop i ys) ≡ g y ∷ map g (drop (i + 1) ys) = ap (map g) (drop_more ys i d low) in
    ap (λ l. l ++ map g (drop (i + 1) ys)) (map_push f xs x ∙ ap (λ n. map f xs ++ n ∷ []) same)
    ∙ append_assoc (map f xs) (g y ∷ []) (map g (drop (i + 1) ys)) ∙ ap (λ l. map f xs ++ l) (sym left) ∙ before

-- all numbers stand where no file is left
pub numbers_all : {X Y : Type 0} (f : X → ℕ) (g : Y → ℕ) (xs : List X) (ys : List Y) (i : ℕ) → length ys ≤ i → map f xs ++ map g (drop i ys) ≡ map g ys → map f xs ≡ map g ys
numbers_all f g xs ys i past before = sym (ap (λ l. map f xs ++ map g l) (drop_all i ys past) ∙ append-nil (map f xs)) ∙ before
