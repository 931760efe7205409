-- How many entries have their place in a queue, after a cut or behind one another.
use Rattle.raft_table.proofs.Common.{All, All-take, All-weaker, filter_passes, recursion_from_All, ◌≡◌, ℕ, zero, suc, ◌+◌, min, Bool, true, false, List, [], ◌∷◌, ◌++◌, length, take, drop, filter, refl, sym, ap, subst, ◌∙◌, arith, Some}
use Rattle.raft_table.proofs.Common.{None, AllByRecursion, option_map_or, length-append, take-append-drop, LogQueue, FileBlockHandle, EntryIndex, placed_in, is_placed_in, entry_count, RewrittenInFront, is_same, count_in, Append, Rewrite}
use Rattle.raft_table.proofs.RunLemmas.{placed_in-append}

pub each_queue : (P : LogQueue → Type 0) → P Append → P Rewrite → (q : LogQueue) → P q
each_queue P a r Append = a
each_queue P a r Rewrite = r

filter_none : {X : Type 0} (p : X → Bool) (xs : List X) → All (λ x. p x ≡ false) xs → filter p xs ≡ []
filter_none p [] h = refl
filter_none p (x ∷ xs) h = let e : p x ≡ false = h 0 x (omega arith) in rw e (filter_none p xs (λ k d l. h (suc k) d (omega arith)))

pub filter_all : {X : Type 0} (p : X → Bool) (xs : List X) → All (λ x. p x ≡ true) xs → filter p xs ≡ xs
filter_all p [] h = refl
filter_all p (x ∷ xs) h = let e : p x ≡ true = h 0 x (omega arith) in rw e (ap (λ ys. x ∷ ys) (filter_all p xs (λ k d l. h (suc k) d (omega arith))))

-- where all that pass stand in front, a cut passes over that many first
count_front : {X : Type 0} (p : X → Bool) (n : ℕ) (a b : List X) → All (λ x. p x ≡ true) a → All (λ x. p x ≡ false) b → length (filter p (take n (a ++ b))) ≡ min n (length a)
count_front p zero a b h k = omega arith
count_front p (suc n) [] b h k = rw (filter_none p (take (suc n) b) (All-take (λ x. p x ≡ false) (suc n) b k)) (omega arith)
count_front p (suc n) (x ∷ a) b h k =
    let t : p x ≡ true = h 0 x (omega arith) in
    rw t (let e = count_front p n a b (λ j d l. h (suc j) d (omega arith)) k in omega arith)

-- each entry has its place in a queue, or leaving out the others leaves all
pub placed_each : (q : LogQueue) (es : List EntryIndex) → placed_in q es ≡ es → AllByRecursion (λ (e : EntryIndex). is_placed_in q e ≡ true) es
unfolding placed_in
placed_each q es h = recursion_from_All (λ e. is_placed_in q e ≡ true) es (subst (All (λ e. is_placed_in q e ≡ true)) h (filter_passes (is_placed_in q) es))

pub each_placed : (q : LogQueue) (es : List EntryIndex) → AllByRecursion (λ (e : EntryIndex). is_placed_in q e ≡ true) es → placed_in q es ≡ es
unfolding placed_in
each_placed q [] h = refl
each_placed q (e ∷ es) h = rw h.0 (ap (λ xs. e ∷ xs) (each_placed q es h.1))

-- no entry has its place in both queues
pub placed_apart : (q r : LogQueue) → is_same q r ≡ false → (e : EntryIndex) → is_placed_in q e ≡ true → is_placed_in r e ≡ false
unfolding is_placed_in
placed_apart q r d e h = (elim e.entries as (λ o. option_map_or (λ (place : FileBlockHandle). is_same place.id.queue q) o false ≡ true → option_map_or (λ (place : FileBlockHandle). is_same place.id.queue r) o false ≡ false)
    [ None ↦ λ k. refl | Some b ↦ λ k. same b.id.queue q r d k ]) h
  where
    same : (a b c : LogQueue) → is_same b c ≡ false → is_same a b ≡ true → is_same a c ≡ false
    same Append Append c n s = n
    same Append Rewrite c n s = cc
    same Rewrite Append c n s = cc
    same Rewrite Rewrite c n s = n

pub placed_in_other : (q r : LogQueue) → is_same q r ≡ false → (es : List EntryIndex) → placed_in r (placed_in q es) ≡ []
unfolding placed_in
placed_in_other q r d es =
    filter_none (is_placed_in r) (placed_in q es)
    (All-weaker (λ e. is_placed_in q e ≡ true) (λ e. is_placed_in r e ≡ false) (placed_apart q r d) (placed_in q es) (filter_passes (is_placed_in q) es))

pub entries_in_front : (n : ℕ) (es : List EntryIndex) → RewrittenInFront es → entry_count Rewrite (take n es) ≡ min n (entry_count Rewrite es)
unfolding placed_in
entries_in_front n es h =
    ap (λ xs. entry_count Rewrite (take n xs)) h
    ∙ count_front (is_placed_in Rewrite) n (placed_in Rewrite es) (placed_in Append es)
    (filter_passes (is_placed_in Rewrite) es)
    (All-weaker (λ e. is_placed_in Append e ≡ true) (λ e. is_placed_in Rewrite e ≡ false) (placed_apart Append Rewrite refl) (placed_in Append es) (filter_passes (is_placed_in Append) es))

pub entry_count-append : (q : LogQueue) (a b : List EntryIndex) → entry_count q (a ++ b) ≡ entry_count q a + entry_count q b
entry_count-append q a b = ap length (placed_in-append q a b) ∙ length-append (placed_in q a) (placed_in q b)

pub entry_count-cut : (q : LogQueue) (n : ℕ) (es : List EntryIndex) → entry_count q (take n es) + entry_count q (drop n es) ≡ entry_count q es
entry_count-cut q n es = sym (entry_count-append q (take n es) (drop n es)) ∙ ap (entry_count q) (take-append-drop n es)

pub entries_in_both : (es : List EntryIndex) → RewrittenInFront es → entry_count Rewrite es + entry_count Append es ≡ length es
entries_in_both es h = sym (ap length h ∙ length-append (placed_in Rewrite es) (placed_in Append es))

-- how many of one queue's entries are in a queue
pub entries_in_one : (q r : LogQueue) (es : List EntryIndex) → placed_in r es ≡ es → entry_count q es ≡ count_in q r (length es)
entries_in_one Append Append es h = ap length h
entries_in_one Append Rewrite es h = ap length (sym (ap (placed_in Append) h) ∙ placed_in_other Rewrite Append refl es)
entries_in_one Rewrite Append es h = ap length (sym (ap (placed_in Rewrite) h) ∙ placed_in_other Append Rewrite refl es)
entries_in_one Rewrite Rewrite es h = ap length h
