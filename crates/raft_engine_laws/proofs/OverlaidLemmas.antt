-- What a recovery of both queues gives, beside the kept entries.
use Rattle.raft_engine_laws.proofs.Common.{◌≡◌, ℕ, ◌<◌, ◌≤◌, Bool, true, false, cond, not, ◌||◌, List, [], ◌∷◌, ◌++◌, Option, Some, None, refl, sym, ap, subst, ◌∙◌, arith, append-nil, ◌&&◌, ◌==◌, nat_lt, nat_le, nat_tests, EntryIndex, Append, Rewrite, IsRun, end_of, is_under}
use Rattle.raft_engine_laws.proofs.Common.{entries_within, has_clean, greatest_compaction, least_cut, is_unjoined, rewritten_within, Step, placed_in, RewrittenInFront, AreMoved, AreCovered, is_index_spoken, unspoken, IsOver}
use Rattle.raft_engine_laws.proofs.EachLemmas.{Each, each_left, left_each, each_gone, gone_each, end_of-left, ends_at, ends_under, index_weaker, first_end}
use Rattle.raft_engine_laws.proofs.MovedLemmas.{moved_self, moved-append, moved_parts, moved_each, moved_end, moved_none}
use Rattle.raft_engine_laws.proofs.SpokenWords.{spoken_words, unspoken_within, unspoken_cleaned}
use Rattle.raft_engine_laws.proofs.UnspokenLemmas.{same_filter, unspoken-append, unspoken-steps, spoken-append}

covered_word : (a b : Bool) → (a ≡ true → b ≡ true) → not (a || b) ≡ not b
covered_word true b h = sym (ap not (h refl))
covered_word false b h = refl

covered : (some all : List Step) (es : List EntryIndex) → AreCovered some all → unspoken (some ++ all) es ≡ unspoken all es
unfolding unspoken
covered some all es h = same_filter _ _ (λ e. ap not (spoken-append some all e.index) ∙ covered_word (is_index_spoken some e.index) (is_index_spoken all e.index) (h e.index)) es

pub unspoken_covered : (some all : List Step) (es : List EntryIndex) → AreCovered some all → unspoken all (unspoken some es) ≡ unspoken all es
unspoken_covered some all es h = unspoken-steps some all es ∙ covered some all es h

joins : (g c i n f : ℕ) → i ≡ n → n ≤ c → g < n → (nat_le g i && nat_lt i c) ≡ false → n ≤ f → (not (i == c) || nat_lt f c) ≡ false
joins g c i n f a b d e k = grind (arith, nat_tests)

above_floor : (g i : ℕ) (u : Bool) → true ≡ (nat_le g i && u) → g ≤ i
above_floor g i u h = grind (arith, nat_tests)

below_cut : (g i c : ℕ) → true ≡ (nat_le g i && nat_lt i c) → i < c
below_cut g i c h = grind (arith, nat_tests)

-- the entries of the region: those that are kept, what they are beside those that are read (`seen`: what kept steps leave, and their own behind), and the rewritten ones
module _ (content : EntryIndex → List ℕ) (kept untold : List Step) (own seen rewritten es : List EntryIndex)
    (over : IsOver kept own seen) (run : IsRun seen) (moved : AreMoved content es seen) (front : RewrittenInFront es)
    (told : unspoken untold rewritten ≡ placed_in Rewrite es)
    (covers : AreCovered untold kept)
    (spoken : unspoken kept (placed_in Append es) ≡ []) where
  -- what kept steps leave of the kept entries, they leave of the rewritten ones
  left_same : unspoken kept es ≡ unspoken kept rewritten
  left_same =
      ap (unspoken kept) front
      ∙ unspoken-append kept (placed_in Rewrite es) (placed_in Append es)
      ∙ ap (λ l. unspoken kept (placed_in Rewrite es) ++ l) spoken
      ∙ append-nil (unspoken kept (placed_in Rewrite es))
      ∙ ap (unspoken kept) (sym told)
      ∙ unspoken_covered untold kept rewritten covers

  parts : (a : List EntryIndex) × (b : List EntryIndex) × (es ≡ a ++ b) × AreMoved content a (unspoken kept seen) × AreMoved content b own
  parts = moved_parts content es (unspoken kept seen) own (subst (AreMoved content es) over.split moved)

  prefix_left : unspoken kept parts.0 ≡ parts.0
  prefix_left = left_each kept parts.0 (moved_each content (λ i. is_index_spoken kept i ≡ false) parts.0 (unspoken kept seen) parts.3 (each_left kept seen))

  back_gone : unspoken kept parts.1 ≡ []
  back_gone = gone_each kept parts.1 (moved_each content (λ i. is_index_spoken kept i ≡ true) parts.1 own parts.4 (each_gone kept own over.spoken))

  -- so that is the front of the kept entries
  front_is : parts.0 ≡ unspoken kept rewritten
  front_is =
      sym (append-nil parts.0)
      ∙ ap (λ l. l ++ []) (sym prefix_left)
      ∙ ap (λ l. unspoken kept parts.0 ++ l) (sym back_gone)
      ∙ sym (unspoken-append kept parts.0 parts.1)
      ∙ ap (unspoken kept) (sym parts.2)
      ∙ left_same

  es_moved : AreMoved content es (unspoken kept rewritten ++ own)
  es_moved =
      subst (λ l. AreMoved content l (unspoken kept rewritten ++ own)) (sym parts.2)
      (moved-append content parts.0 (unspoken kept rewritten) parts.1 own (subst (AreMoved content parts.0) front_is (moved_self content parts.0)) parts.4)

  -- ---- the join

  word : (i : ℕ) (b : Bool) (cut : Option ℕ) → has_clean kept ≡ false → is_index_spoken kept i ≡ b → least_cut kept ≡ cut → not b ≡ (nat_le (greatest_compaction kept) i && is_under cut i)
  word i b cut c s k = ap not (sym s) ∙ spoken_words kept i c ∙ ap (λ o. nat_le (greatest_compaction kept) i && is_under o i) k

  seen_ends : (n : ℕ) → end_of (unspoken kept seen) ≡ n → n ≤ end_of rewritten
  seen_ends n e =
      let k : end_of parts.0 ≡ end_of (unspoken kept seen) = moved_end content parts.0 (unspoken kept seen) parts.3 in
      let l : end_of parts.0 ≡ end_of (unspoken kept rewritten) = ap end_of front_is in
      let m = end_of-left kept rewritten in
      omega (arith, e, k, l, m)

  -- where own entries and what is left are there, the rewritten ones reach the cut, and the own ones begin there
  joined_some : (cut : ℕ) (x : EntryIndex) (xs : List EntryIndex) (f : EntryIndex) (back : List EntryIndex) → has_clean kept ≡ false → least_cut kept ≡ Some cut → unspoken kept seen ≡ x ∷ xs → own ≡ f ∷ back
      → (not (f.index == cut) || nat_lt (end_of rewritten) cut) ≡ false
  joined_some cut x xs f back c k e o =
      let each : Each (λ i. is_index_spoken kept i ≡ false) (x ∷ xs) = subst (Each (λ i. is_index_spoken kept i ≡ false)) e (each_left kept seen) in
      let gone : Each (λ i. is_index_spoken kept i ≡ true) (f ∷ back) = each_gone kept (f ∷ back) (ap (unspoken kept) (sym o) ∙ over.spoken) in
      let whole : IsRun (x ∷ xs ++ f ∷ back) = subst IsRun (over.split ∙ ap (λ l. l ++ own) e ∙ ap (λ l. x ∷ xs ++ l) o) run in
      let at : end_of (x ∷ xs) ≡ f.index = ends_at x.index (x ∷ xs) f back (refl, whole) (omega arith) in
      joins (greatest_compaction kept) cut f.index (end_of (x ∷ xs)) (end_of rewritten) (sym at)
      (ends_under cut (x ∷ xs) (index_weaker (λ i. is_index_spoken kept i ≡ false) (λ i. i < cut) (λ i s. below_cut (greatest_compaction kept) i cut (word i false (Some cut) c s k)) (x ∷ xs) each))
      (let l : greatest_compaction kept ≤ x.index = above_floor (greatest_compaction kept) x.index (is_under (Some cut) x.index) (word x.index false (Some cut) c each.0 k) in let m = first_end x xs in omega (arith, l, m))
      (sym (word f.index true (Some cut) c gone.0 k))
      (seen_ends (end_of (x ∷ xs)) (ap end_of e))

  nothing : (b : Bool) (l : List EntryIndex) → l ≡ [] → cond b [] l ≡ l
  nothing true l e = sym e
  nothing false l e = refl

  pub joined : has_clean kept ≡ false → rewritten_within (greatest_compaction kept) (least_cut kept) own rewritten ≡ unspoken kept rewritten
  joined c = by_cut own refl (least_cut kept) refl ∙ sym (unspoken_within kept rewritten c)
    where
      within : List EntryIndex
      within = entries_within (greatest_compaction kept) (least_cut kept) rewritten

      by_cut : (o : List EntryIndex) → own ≡ o → (cut : Option ℕ) → least_cut kept ≡ cut → cond (is_unjoined cut (end_of rewritten) o) [] within ≡ within
      by_cut o e None k = refl
      by_cut [] e (Some cut) k = refl
      by_cut (f ∷ back) e (Some cut) k = by_left (unspoken kept seen) refl
        where
          by_left : (l : List EntryIndex) → unspoken kept seen ≡ l → cond (not (f.index == cut) || nat_lt (end_of rewritten) cut) [] within ≡ within
          by_left [] s = nothing (not (f.index == cut) || nat_lt (end_of rewritten) cut) within (sym (unspoken_within kept rewritten c) ∙ sym front_is ∙ moved_none content parts.0 (subst (AreMoved content parts.0) s parts.3))
          by_left (x ∷ xs) s = ap (λ b. cond b [] within) (joined_some cut x xs f back c k s e)

  -- a recovery gives the kept entries, but for places that moved
  pub overlaid_moved : AreMoved content es (cond (has_clean kept) own (rewritten_within (greatest_compaction kept) (least_cut kept) own rewritten ++ own))
  overlaid_moved = go (has_clean kept) refl
    where
      go : (b : Bool) → has_clean kept ≡ b → AreMoved content es (cond b own (rewritten_within (greatest_compaction kept) (least_cut kept) own rewritten ++ own))
      go true c = subst (λ l. AreMoved content es (l ++ own)) (unspoken_cleaned kept rewritten c) es_moved
      go false c = subst (λ l. AreMoved content es (l ++ own)) (sym (joined c)) es_moved

  -- what a recovery gives: what kept steps leave of the rewritten entries, and their own behind
  pub overlaid_is : cond (has_clean kept) own (rewritten_within (greatest_compaction kept) (least_cut kept) own rewritten ++ own) ≡ unspoken kept rewritten ++ own
  overlaid_is = go (has_clean kept) refl
    where
      go : (b : Bool) → has_clean kept ≡ b → cond b own (rewritten_within (greatest_compaction kept) (least_cut kept) own rewritten ++ own) ≡ unspoken kept rewritten ++ own
      go true c = sym (ap (λ l. l ++ own) (unspoken_cleaned kept rewritten c))
      go false c = ap (λ l. l ++ own) (joined c)
