-- What stands at an index after a rewriting, and what it leaves as it was.
use Rattle.raft_table.proofs.MarkExact.{none_behind}
use Rattle.raft_table.proofs.Common.{◌≡◌, ℕ, ◌+◌, ◌-◌, ◌<◌, Bool, true, false, cond, ltb, leb, ◌&&◌, List, [], ◌∷◌, ◌++◌, length, take, drop, Option, Some, None, refl, sym, ap, subst, ◌∙◌, arith, option_or, nat_tests, length-take}
use Rattle.raft_table.proofs.Common.{length-drop, EntryIndex, RisesFrom, end_of, IsRunIn, AreTableEntries, start_of, below, from, entry_at, overlap, moved_count, with_places, rewritten_from, entries_after_rewrite, Rewrite, ◌≢◌, ◌⊎◌, suc}
use Rattle.raft_table.proofs.Common.{◌≤◌, All, Contains, inl, inr, nat_cmp, eq_by_cmp, slice_cmp, nat_list_cmp_total, nat_cmp-IsAntisymmetric, slice_cmp-IsAntisymmetric, length-append, length-take-le, All-append, All-take, All-drop}
use Rattle.raft_table.proofs.Common.{All-weaker, All-contains_itself, prefix_len-le-length, FileId, Keys, Stored, value_at, file_at, with_moved, moved_to, may_move, indexes_of, MovesPlacesAlone, MovesKeyAlone}
use Rattle.raft_table.proofs.RunLemmas.{below_take, RisesFrom-take, RisesFrom-drop, RisesFrom-append}
use Rattle.raft_table.proofs.SoundLemmas.{sound_rising}
use Rattle.raft_table.proofs.RewriteLemmas.{from_is, run_rising, meeting_is, below_zero, RewritesAt, places_of, moves_of}
use Rattle.raft_table.proofs.LastWordLemmas.{entry_with_index-append, entry_with_index-below, entry_with_index-from}
use Rattle.raft_table.proofs.MarkEntries.{accepted}
use Rattle.raft_table.proofs.Shown.{equal}
use Rattle.std.specs.FinMap as finite

-- what stands where n places from i0 on are another run's
at_places : (i i0 n : ℕ) (run es : List EntryIndex) → RisesFrom i0 (from i0 run) → entry_at i (with_places run i0 n es) ≡ cond (leb i0 i && ltb i (i0 + n)) (entry_at i run) (entry_at i es)
at_places i i0 n run es r =
    let middle : take n (from i0 run) ≡ below (i0 + n) (from i0 run) = sym (below_take (i0 + n) n i0 (from i0 run) refl r) in
    entry_with_index-append i (below i0 es ++ take n (from i0 run)) (from (i0 + n) es)
    ∙ ap (λ o. option_or o (entry_at i (from (i0 + n) es))) (entry_with_index-append i (below i0 es) (take n (from i0 run)))
    ∙ rw (middle, entry_with_index-below i i0 es, entry_with_index-below i (i0 + n) (from i0 run), entry_with_index-from i i0 run, entry_with_index-from i (i0 + n) es) (at (ltb i i0) (ltb i (i0 + n)) (leb i0 i) refl refl refl)
  where
    at : (a b c : Bool) → ltb i i0 ≡ a → ltb i (i0 + n) ≡ b → leb i0 i ≡ c →
        option_or (option_or (cond a (entry_at i es) None) (cond b (cond a None (entry_at i run)) None)) (cond b None (entry_at i es)) ≡ cond (c && b)
        (entry_at i run) (entry_at i es)
    at true true true e f g = absurd (grind (arith, nat_tests))
    at true true false e f g = none_behind _ ∙ none_behind (entry_at i es)
    at true false c e f g = absurd (grind (arith, nat_tests))
    at false true true e f g = none_behind (entry_at i run)
    at false b false e f g = absurd (grind (arith, nat_tests))
    at false false true e f g = refl

meeting_none : (es : List EntryIndex) → overlap [] es ≡ []
unfolding end_of from
meeting_none es = rw (below_zero es) refl

-- where the meeting entries begin, the run goes on
run_from_met : (run es met : List EntryIndex) (e : EntryIndex) → IsRunIn Rewrite run → AreTableEntries es → 0 < length run → overlap run es ≡ e ∷ met → RisesFrom e.index (from e.index run)
run_from_met run es met e r h l m =
    let s = start_of es in
    let x = start_of run in
    let front = take (x + length run - s) es in
    let is : drop (x - s) front ≡ e ∷ met = sym (meeting_is Rewrite run es h r l) ∙ m in
    let n : length front - (x - s) ≡ length (e ∷ met) = sym (length-drop (x - s) front) ∙ ap length is in
    let c = length-take (x + length run - s) es in
    let rise : RisesFrom (s + (x - s)) (e ∷ met) = subst (λ ys. RisesFrom (s + (x - s)) ys) is (RisesFrom-drop (x - s) s front (RisesFrom-take (x + length run - s) s es (sound_rising es h)) (omega arith)) in
    let k : x + (e.index - x) ≡ e.index = omega arith in
    let rr = RisesFrom-drop (e.index - x) x run (run_rising Rewrite run r) (omega arith) in
    rw (from_is e.index x run (run_rising Rewrite run r)) (rw k at rr)

pub moved_by_index : (gate : Option ℕ) (run es after met : List EntryIndex) (e : EntryIndex) (i : ℕ) → IsRunIn Rewrite run → AreTableEntries es →
    overlap run es ≡ e ∷ met → entries_after_rewrite gate run es ≡ Some after →
    entry_at i after ≡ cond (leb e.index i && ltb i (e.index + moved_count gate run es)) (entry_at i run) (entry_at i es)
moved_by_index gate run es after met e i r h m f =
    let is = accepted _ (with_places run e.index (moved_count gate run es) es) after (ap (rewritten_from gate run es) (sym m) ∙ f) in
    subst (λ xs. entry_at i xs ≡ cond (leb e.index i && ltb i (e.index + moved_count gate run es)) (entry_at i run) (entry_at i es)) is.1
    (at_places i e.index (moved_count gate run es) run es (run_from_met run es met e r h (some run m) m))
  where
    some : (run : List EntryIndex) → overlap run es ≡ e ∷ met → 0 < length run
    some [] m = absurd (none m)
      where
        none : overlap [] es ≡ e ∷ met → ⊥
        none m = let k = ap length (sym (meeting_none es) ∙ m) in omega arith
    some (x ∷ run) m = omega arith

pub unmoved : (gate : Option ℕ) (run es : List EntryIndex) → overlap run es ≡ [] → entries_after_rewrite gate run es ≡ Some es
unmoved gate run es m = ap (rewritten_from gate run es) m

same_indexes : (s : ℕ) (a b : List EntryIndex) → RisesFrom s a → RisesFrom s b → length a ≡ length b → indexes_of a ≡ indexes_of b
same_indexes s [] [] h k e = refl
same_indexes s [] (y ∷ b) h k e = absurd (omega arith)
same_indexes s (x ∷ a) [] h k e = absurd (omega arith)
same_indexes s (x ∷ a) (y ∷ b) h k e =
    let rest = same_indexes (suc s) a b h.1 k.1 (omega arith) in
    rw (h.0, k.0, rest) refl

-- an old entry or one of the run
abbrev IsEither : List EntryIndex → List EntryIndex → EntryIndex → Type 0
IsEither before run e = Contains before e ⊎ Contains run e

pub none_moved : (run es : List EntryIndex) → MovesPlacesAlone run es es
none_moved run es = record {
  indexes = refl;
  entries = All-weaker (Contains es) (IsEither es run) (λ e h. inl h) es (All-contains_itself es);
}

-- m places of the run are put behind the first entries
some_moved : (run es : List EntryIndex) (at skipped count m : ℕ) → RisesFrom (start_of es) es →
    RisesFrom (start_of es + at) (places_of run skipped count) → at + length (places_of run skipped count) ≤ length es →
    m ≤ length (places_of run skipped count) → MovesPlacesAlone run es (take at es ++ take m (places_of run skipped count) ++ drop (at + m) es)
some_moved run es at skipped count m h r l k =
    let s = start_of es in
    let places = places_of run skipped count in
    let na : length (take at es) ≡ at = length-take-le at es (omega arith) in
    let nb : length (take m places) ≡ m = length-take-le m places k in
    let ab = take at es ++ take m places in
    let nab : length ab ≡ at + m = length-append (take at es) (take m places) ∙ omega arith in
    let rise_ab : RisesFrom s ab = RisesFrom-append s (take at es) (take m places) (RisesFrom-take at s es h) (rw na (RisesFrom-take m (s + at) places r)) in
    let rise : RisesFrom s (ab ++ drop (at + m) es) = RisesFrom-append s ab (drop (at + m) es) rise_ab (rw nab (RisesFrom-drop (at + m) s es h (omega arith))) in
    let n : length (ab ++ drop (at + m) es) ≡ length es = length-append ab (drop (at + m) es) ∙ omega (arith, length-drop (at + m) es) in
    let old : All (IsEither es run) es = All-weaker (Contains es) (IsEither es run) (λ e g. inl g) es (All-contains_itself es) in
    let new : All (IsEither es run) run = All-weaker (Contains run) (IsEither es run) (λ e g. inr g) run (All-contains_itself run) in
    record {
      indexes = same_indexes s (ab ++ drop (at + m) es) es rise h n;
      entries = All-append (IsEither es run) ab (drop (at + m) es)
          (All-append (IsEither es run) (take at es) (take m places) (All-take (IsEither es run) at es old)
          (All-take (IsEither es run) m places
          (All-take (IsEither es run) (skipped + count - skipped) (drop skipped run) (All-drop (IsEither es run) skipped run new))))
          (All-drop (IsEither es run) (at + m) es old);
    }

-- a rewriting that meets the entries so, and isn't refused
pub moved_alone : (gate : Option ℕ) (run es : List EntryIndex) (at skipped count : ℕ) → AreTableEntries es → RewritesAt gate run es at skipped count →
    MovesPlacesAlone run es (take at es ++ take (moves_of gate run es at skipped count) (places_of run skipped count) ++ drop
    (at + moves_of gate run es at skipped count) es)
moved_alone gate run es at skipped count h f =
    let places = places_of run skipped count in
    let part = drop at (take (at + length places) es) in
    some_moved run es at skipped count (moves_of gate run es at skipped count) (sound_rising es h) f.rising f.within
    (omega (arith, f.within, prefix_len-le-length (may_move gate) part, length-drop at (take (at + length places) es), length-take-le (at + length places) es f.within))

pub key_stays : (key : List ℕ) (keys : Keys) → MovesKeyAlone key keys keys
key_stays key keys = record { values = λ k. refl; files = λ k d. refl }

same_key : (k key : List ℕ) → eq_by_cmp (slice_cmp nat_cmp) k key ≡ true → k ≡ key
same_key k key e = slice_cmp-IsAntisymmetric nat_cmp-IsAntisymmetric k key (equal _ e)

pub key_moves : (key : List ℕ) (keys : Keys) (file : FileId) → MovesKeyAlone key keys (with_moved keys key file)
key_moves key keys file = at (finite.get keys key) refl
  where
    get_put : (s : Stored) (k : List ℕ) → finite.get (finite.insert keys key (record { value = s.value; file = file })) k ≡ cond (eq_by_cmp (slice_cmp nat_cmp) k key) (Some (record { value = s.value; file = file })) (finite.get keys k)
    get_put s k = finite.get-insert nat_list_cmp_total keys key (record { value = s.value; file = file }) k

    value : (s : Stored) (k : List ℕ) → finite.get keys key ≡ Some s → (b : Bool) → eq_by_cmp (slice_cmp nat_cmp) k key ≡ b → value_at (finite.insert keys key (record { value = s.value; file = file })) k ≡ value_at keys k
    value s k is true t = rw (get_put s k, t, same_key k key t, is) refl
    value s k is false t = rw (get_put s k, t) refl

    other : (s : Stored) (k : List ℕ) → k ≢ key → (b : Bool) → eq_by_cmp (slice_cmp nat_cmp) k key ≡ b → file_at (finite.insert keys key (record { value = s.value; file = file })) k ≡ file_at keys k
    other s k d true t = absurd (d (same_key k key t))
    other s k d false t = rw (get_put s k, t) refl

    at : (o : Option Stored) → finite.get keys key ≡ o → MovesKeyAlone key keys (moved_to file keys key o)
    at None is = key_stays key keys
    at (Some s) is = record {
      values = λ k. value s k is (eq_by_cmp (slice_cmp nat_cmp) k key) refl;
      files = λ k d. other s k d (eq_by_cmp (slice_cmp nat_cmp) k key) refl;
    }
