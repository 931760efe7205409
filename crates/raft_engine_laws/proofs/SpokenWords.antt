-- What steps leave, in the words of overlays.
use Rattle.raft_engine_laws.proofs.Common.{◌≡◌, ℕ, Bool, true, false, not, ◌||◌, List, [], ◌∷◌, Option, Some, None, refl, sym, ap, arith, ◌&&◌, nat_lt, nat_le, max, nat_tests, false≢true, EntryIndex, lesser, is_under, entries_within, has_clean, greatest_compaction, least_cut}
use Rattle.raft_engine_laws.proofs.Common.{Step, Run, Compact, Truncate, Put, Del, AtomicGroup, Clean, is_index_spoken, unspoken}
use Rattle.raft_engine_laws.proofs.TestLemmas.{or_later}
use Rattle.raft_engine_laws.proofs.UnspokenLemmas.{same_filter, filter-none}

cut_word : (k i g : ℕ) (c : Option ℕ) (b : Bool) → not b ≡ (nat_le g i && is_under c i) → not (nat_le k i || b) ≡ (nat_le g i && is_under (lesser (Some k) c) i)
cut_word k i g None b h = grind (arith, nat_tests)
cut_word k i g (Some c) b h = grind (arith, nat_tests)

floor_word : (k i g : ℕ) (u b : Bool) → not b ≡ (nat_le g i && u) → not (nat_lt i k || b) ≡ (nat_le (max k g) i && u)
floor_word k i g u b h = grind (arith, nat_tests)

pub spoken_words : (ss : List Step) (i : ℕ) → has_clean ss ≡ false → not (is_index_spoken ss i) ≡ (nat_le (greatest_compaction ss) i && is_under (least_cut ss) i)
spoken_words [] i c = grind (arith, nat_tests)
spoken_words (Run [] ∷ ss) i c = spoken_words ss i c
spoken_words (Run (e ∷ run) ∷ ss) i c = cut_word e.index i (greatest_compaction ss) (least_cut ss) (is_index_spoken ss i) (spoken_words ss i c)
spoken_words (Compact k ∷ ss) i c = floor_word k i (greatest_compaction ss) (is_under (least_cut ss) i) (is_index_spoken ss i) (spoken_words ss i c)
spoken_words (Truncate k ∷ ss) i c = cut_word k i (greatest_compaction ss) (least_cut ss) (is_index_spoken ss i) (spoken_words ss i c)
spoken_words (Put key value file ∷ ss) i c = spoken_words ss i c
spoken_words (Del key ∷ ss) i c = spoken_words ss i c
spoken_words (AtomicGroup a b ∷ ss) i c = spoken_words ss i c
spoken_words (Clean ∷ ss) i c = absurd (false≢true (sym c))

pub unspoken_within : (ss : List Step) (es : List EntryIndex) → has_clean ss ≡ false → unspoken ss es ≡ entries_within (greatest_compaction ss) (least_cut ss) es
unfolding unspoken entries_within
unspoken_within ss es c = same_filter _ _ (λ e. spoken_words ss e.index c) es

pub spoken_clean : (ss : List Step) (i : ℕ) → has_clean ss ≡ true → is_index_spoken ss i ≡ true
spoken_clean [] i c = absurd (false≢true c)
spoken_clean (Clean ∷ ss) i c = refl
spoken_clean (Run [] ∷ ss) i c = spoken_clean ss i c
spoken_clean (Run (e ∷ run) ∷ ss) i c = or_later (nat_le e.index i) (is_index_spoken ss i) (spoken_clean ss i c)
spoken_clean (Compact k ∷ ss) i c = or_later (nat_lt i k) (is_index_spoken ss i) (spoken_clean ss i c)
spoken_clean (Truncate k ∷ ss) i c = or_later (nat_le k i) (is_index_spoken ss i) (spoken_clean ss i c)
spoken_clean (Put key value file ∷ ss) i c = spoken_clean ss i c
spoken_clean (Del key ∷ ss) i c = spoken_clean ss i c
spoken_clean (AtomicGroup a b ∷ ss) i c = spoken_clean ss i c

pub unspoken_cleaned : (ss : List Step) (es : List EntryIndex) → has_clean ss ≡ true → unspoken ss es ≡ []
unfolding unspoken
unspoken_cleaned ss es c = filter-none _ (λ e. ap not (spoken_clean ss e.index c)) es
