-- Of files that engines wrote an opening tells nothing at once.
use Rattle.raft_engine.proofs.Common.{◌≡◌, List, [], ◌∷◌, ◌++◌, sym, ap, ◌∙◌, subst, AllByRecursion, Append, Rewrite, Version, Item, Ask, Begin, Found, NumberedBytes, ask, FilesJoin, FoundFilesJoin, KeptEngine, FollowEachOther, IsFirstLife, IsLeftToldNothing, IsNextLife}
use Rattle.raft_engine.proofs.Common.{IsNothingTold, Life, OwnFilesAreToldNothing, at_stop, IsOpened, asks_that_tell, FoundFilesAreReady}
use Rattle.raft_engine.proofs.FoundContents.{all_asked, asked, made}
use Rattle.raft_engine.proofs.JoinedLemmas.{joined_told}

-- what was asked first is so in one way
record AreSame (a b c d : Ask) : Type 0 where
  pub later : a ≡ c
  pub first : b ≡ d

no_ask : (x : Ask) (xs : List Ask) (a b : Ask) → [] ≡ xs ++ a ∷ b ∷ [] → ⊥
no_ask x [] a b e = absurd cc
no_ask x (y ∷ xs) a b e = absurd cc

one_first : (xs ys : List Ask) (a b c d : Ask) → xs ++ a ∷ b ∷ [] ≡ ys ++ c ∷ d ∷ [] → AreSame a b c d
one_first [] [] a b c d e = record { later = cc; first = cc }
one_first (x ∷ xs) (y ∷ ys) a b c d e = one_first xs ys a b c d cc
one_first [] (y ∷ []) a b c d e = absurd cc
one_first [] (y ∷ z ∷ ys) a b c d e = absurd (no_ask y ys c d cc)
one_first (x ∷ []) [] a b c d e = absurd cc
one_first (x ∷ z ∷ xs) [] a b c d e = absurd (no_ask x xs a b cc)

-- an engine that began its first files found none
first_join : (version : Version) (life : Life version) → IsFirstLife version life → FoundFilesJoin version life.asks
first_join version life f since append rewrite e =
    let same = one_first f.since since (ask Rewrite (Begin 1)) (ask Append (Begin 1)) (ask Rewrite (Found rewrite)) (ask Append (Found append)) (sym f.asked ∙ e) in
    let is : Begin 1 ≡ Found append = ap (λ (a : Ask). a.act) same.first in absurd cc

found_same : (files others : List NumberedBytes) → ask Append (Found files) ≡ ask Append (Found others) → files ≡ others
found_same files others e = let is : Found files ≡ Found others = ap (λ (a : Ask). a.act) e in cc

found_same_rewrite : (files others : List NumberedBytes) → ask Rewrite (Found files) ≡ ask Rewrite (Found others) → files ≡ others
found_same_rewrite files others e = let is : Found files ≡ Found others = ap (λ (a : Ask). a.act) e in cc

-- and one that was opened found those that a stop of the one before left
next_join : (version : Version) (before life : Life version) → IsNextLife version before life → FoundFilesJoin version before.asks → FoundFilesJoin version life.asks
next_join version before life f join since append rewrite e =
    let same = one_first f.since since (ask Rewrite (Found f.rewrite)) (ask Append (Found f.append)) (ask Rewrite (Found rewrite)) (ask Append (Found append)) (sym f.asked ∙ e) in
    subst (λ (files : List NumberedBytes). FilesJoin version files rewrite) (found_same f.append append same.first)
    (subst (λ (files : List NumberedBytes). FilesJoin version f.append files) (found_same_rewrite f.rewrite rewrite same.later)
    ((at_stop before).joined join f.append f.rewrite f.append_left f.rewrite_left))

module _ (ready : FoundFilesAreReady) (version : Version) where
  opened_nothing : (append rewrite : List NumberedBytes) → FilesJoin version append rewrite → (engine : KeptEngine) → IsOpened version append rewrite engine → IsNothingTold version append rewrite engine.asks
  opened_nothing append rewrite join engine o =
      let w = o.read.are_wanted in
      let m = made ready version append rewrite engine o in
      let none : w.told.items ≡ [] =
      joined_told version w.append_left w.rewrite_left engine.accessor w.told engine.untold w.recovered (join w.recovered.appended w.recovered.rewritten m.append_held m.rewrite_held) in
      record {
        append_missing = w.append_missing;
        rewrite_missing = w.rewrite_missing;
        append_left = w.append_left;
        rewrite_left = w.rewrite_left;
        append_ready = w.append_ready;
        rewrite_ready = w.rewrite_ready;
        asked = all_asked ready version append rewrite engine o ∙ ap (λ (items : List Item). asks_that_tell version w.seq w.told items ++ asked ready version append rewrite engine o) none;
      }

  life_nothing : (life : Life version) → FoundFilesJoin version life.asks → IsLeftToldNothing version life
  life_nothing life join append rewrite append_left rewrite_left engine o =
      opened_nothing append rewrite ((at_stop life).joined join append rewrite append_left rewrite_left) engine o

  all_nothing : (life : Life version) (later : List (Life version)) → FoundFilesJoin version life.asks → FollowEachOther version life later → AllByRecursion (IsLeftToldNothing version) (life ∷ later)
  all_nothing life [] join follow = (life_nothing life join, tt)
  all_nothing life (next ∷ later) join follow = (life_nothing life join, all_nothing next later (next_join version life next follow.0 join) follow.1)

pub own_files_nothing : FoundFilesAreReady → OwnFilesAreToldNothing
own_files_nothing ready version life later first follow = all_nothing ready version life later (first_join version life first) follow
