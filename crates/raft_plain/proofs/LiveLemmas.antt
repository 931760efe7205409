-- How many records of plain regions are live, and where the least file is.
use Rattle.raft_plain.proofs.Common.{◌≡◌, ◌+◌, Bool, true, false, cond, List, [], ◌∷◌, ℕ, Option, Some, None, refl, ap, ◌∙◌, map, filter, length, arith, LogQueue, added, live-added, live_in_all, entries-map_of, pair_count, seqs_in, is_same, Table, live_of, Region, Stored}
use Rattle.raft_plain.proofs.Common.{stored_shown, table_shown, tables_in}
use Rattle.std.specs.FinMap as finite
use Rattle.raft_table.specs.KeyValues as table
use Rattle.raft_plain.proofs.KeyedLemmas.{entries-of, Rises}
use Rattle.raft_plain.proofs.PairLemmas as pairs
use Rattle.raft_plain.proofs.PairLemmas.{bytes_of, keys_in}

-- what regions have live in a queue, together
abbrev pub live_regions : LogQueue → List Region → ℕ
live_regions q [] = 0
live_regions q (r ∷ rs) = live_of q (table_shown 0 r) + live_regions q rs

pub live-regions : (q : LogQueue) (es : List (ℕ × Region)) → Rises table_shown es → live_in_all q (tables_in es) ≡ live_regions q (map (λ e. e.1) es)
live-regions q es h = live-added q (tables_in es) ∙ ap (λ l. added (live_of q) (map (λ (e : ℕ × Table). e.1) l)) (entries-of table_shown es h) ∙ go es
  where
    go : (es : List (ℕ × Region)) → added (live_of q) (map (λ (e : ℕ × Table). e.1) (map (λ e. (e.0, table_shown e.0 e.1)) es)) ≡ live_regions q (map (λ e. e.1) es)
    go [] = refl
    go (e ∷ es) = ap (λ n. live_of q (table_shown 0 e.1) + n) (go es)

-- the stored values in a queue
abbrev pub in_queue : LogQueue → List Stored → List Stored
in_queue q ss = filter (λ s. is_same q s.file.queue) ss

abbrev stored_in : LogQueue → List (List ℕ × table.Stored) → List (List ℕ × table.Stored)
stored_in q es = filter (λ (e : List ℕ × table.Stored). is_same q e.1.file.queue) es

counted_in : (q : LogQueue) (es : pairs.Pairs) → length (stored_in q (map (λ e. (e.0.items, stored_shown e.1)) es)) ≡ length (in_queue q (map (λ e. e.1) es))
counted_in q [] = refl
counted_in q (e ∷ es) = at (is_same q e.1.file.queue) (counted_in q es)
  where
    at : (b : Bool) → length (stored_in q (map (λ e. (e.0.items, stored_shown e.1)) es)) ≡ length (in_queue q (map (λ e. e.1) es))
        → length (cond b ((e.0.items, stored_shown e.1) ∷ stored_in q (map (λ e. (e.0.items, stored_shown e.1)) es)) (stored_in q (map (λ e. (e.0.items, stored_shown e.1)) es)))
        ≡ length (cond b (e.1 ∷ in_queue q (map (λ e. e.1) es)) (in_queue q (map (λ e. e.1) es)))
    at true rest = let n = rest in omega (arith, n)
    at false rest = rest

seqs_of : (q : LogQueue) (es : pairs.Pairs) → map (λ (e : List ℕ × table.Stored). e.1.file.seq) (stored_in q (map (λ e. (e.0.items, stored_shown e.1)) es)) ≡ map (λ s. s.file.seq) (in_queue q (map (λ e. e.1) es))
seqs_of q [] = refl
seqs_of q (e ∷ es) = at (is_same q e.1.file.queue) (seqs_of q es)
  where
    at : (b : Bool) → map (λ (e : List ℕ × table.Stored). e.1.file.seq) (stored_in q (map (λ e. (e.0.items, stored_shown e.1)) es)) ≡ map (λ s. s.file.seq) (in_queue q (map (λ e. e.1) es))
        → map (λ (e : List ℕ × table.Stored). e.1.file.seq) (cond b ((e.0.items, stored_shown e.1) ∷ stored_in q (map (λ e. (e.0.items, stored_shown e.1)) es)) (stored_in q (map (λ e. (e.0.items, stored_shown e.1)) es)))
        ≡ map (λ s. s.file.seq) (cond b (e.1 ∷ in_queue q (map (λ e. e.1) es)) (in_queue q (map (λ e. e.1) es)))
    at true rest = ap (λ l. e.1.file.seq ∷ l) rest
    at false rest = rest

pub stored-count : (q : LogQueue) (es : pairs.Pairs) → pairs.Rises es → pair_count q (keys_in es) ≡ length (in_queue q (map (λ e. e.1) es))
stored-count q es h = ap (λ l. length (stored_in q l)) (entries-map_of bytes_of stored_shown es h) ∙ counted_in q es

pub stored-seqs : (q : LogQueue) (es : pairs.Pairs) → pairs.Rises es → seqs_in q (keys_in es) ≡ map (λ s. s.file.seq) (in_queue q (map (λ e. e.1) es))
stored-seqs q es h = ap (λ l. map (λ (e : List ℕ × table.Stored). e.1.file.seq) (stored_in q l)) (entries-map_of bytes_of stored_shown es h) ∙ seqs_of q es

pub lesser_none : (m : Option ℕ) → table.lesser m None ≡ m
lesser_none None = refl
lesser_none (Some n) = refl
