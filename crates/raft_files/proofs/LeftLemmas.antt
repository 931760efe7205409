-- What may be left of files.
use Rattle.raft_files.proofs.Common.{◌≡◌, ℕ, ◌≤◌, List, [], ◌∷◌, drop, inl, inr, refl, sym, ap, ◌∙◌, arith, append-nil, subst, FileBlockHandle, LogQueue, Append, Rewrite, Act, Put, Begin, Sync, Unsynced, Delete, Cut, Found, Read, Ask, ask, acts_on, NumberedBytes, begun}
use Rattle.raft_files.proofs.Common.{deletions, synced_deletions, files_of, MayStand, IsLeftOf}

all_stand : (acts : List Act) → MayStand acts (begun acts)
all_stand [] = refl
all_stand (Put bytes ∷ acts) = inr record { front = bytes; rest = []; split = sym (append-nil bytes); put = refl }
all_stand (Begin seq ∷ acts) = inr refl
all_stand (Sync ∷ acts) = refl
all_stand (Delete ∷ acts) = all_stand acts
all_stand (Cut len ∷ acts) = inr refl
all_stand (Found files ∷ acts) = refl
all_stand (Read place bytes ∷ acts) = all_stand acts
all_stand (Unsynced ∷ acts) = all_stand acts

fewer : (acts : List Act) → synced_deletions acts ≤ deletions acts
fewer [] = omega arith
fewer (Put bytes ∷ acts) = fewer acts
fewer (Begin seq ∷ acts) = fewer acts
fewer (Sync ∷ acts) = omega arith
fewer (Delete ∷ acts) = let le : synced_deletions acts ≤ deletions acts = fewer acts in omega (arith, le)
fewer (Cut len ∷ acts) = fewer acts
fewer (Found files ∷ acts) = omega arith
fewer (Read place bytes ∷ acts) = fewer acts
fewer (Unsynced ∷ acts) = fewer acts

pub whole_left : (queue : LogQueue) (asked : List Ask) → IsLeftOf queue asked (files_of queue asked)
whole_left queue asked = record {
  standing = begun (acts_on queue asked);
  stands = all_stand (acts_on queue asked);
  gone = deletions (acts_on queue asked);
  at_least = fewer (acts_on queue asked);
  at_most = omega arith;
  left = refl;
}

synced_acts : (acts : List Act) (standing files : List NumberedBytes) (gone : ℕ) → standing ≡ begun acts → deletions acts ≤ gone → gone ≤ deletions acts → files ≡ drop gone standing → files ≡ drop (deletions acts) (begun acts)
synced_acts acts standing files gone s lo hi left = let e : gone ≡ deletions acts = omega (arith, lo, hi) in left ∙ ap (λ n. drop n standing) e ∙ ap (drop (deletions acts)) s

pub synced_left : (queue : LogQueue) (asked : List Ask) (files : List NumberedBytes) → IsLeftOf queue (ask queue Sync ∷ asked) files → files ≡ files_of queue asked
synced_left Append asked files l = synced_acts (acts_on Append asked) l.standing files l.gone l.stands l.at_least l.at_most l.left
synced_left Rewrite asked files l = synced_acts (acts_on Rewrite asked) l.standing files l.gone l.stands l.at_least l.at_most l.left

none_gone : (files : List NumberedBytes) → drop 0 files ≡ files
none_gone [] = refl
none_gone (f ∷ files) = refl

found_acts : (found standing files : List NumberedBytes) (gone : ℕ) → standing ≡ found → gone ≤ 0 → files ≡ drop gone standing → files ≡ found
found_acts found standing files gone s most left = let e : gone ≡ 0 = omega (arith, most) in left ∙ ap (λ n. drop n standing) e ∙ none_gone standing ∙ s

pub found_left : (queue : LogQueue) (asked : List Ask) (found files : List NumberedBytes) → IsLeftOf queue (ask queue (Found found) ∷ asked) files → files ≡ found
found_left Append asked found files l = found_acts found l.standing files l.gone l.stands l.at_most l.left
found_left Rewrite asked found files l = found_acts found l.standing files l.gone l.stands l.at_most l.left

pub put_left : (queue : LogQueue) (asked : List Ask) (bytes : List ℕ) (files : List NumberedBytes) → IsLeftOf queue asked files → IsLeftOf queue (ask queue (Put bytes) ∷ asked) files
put_left Append asked bytes files l = record { standing = l.standing; stands = inl l.stands; gone = l.gone; at_least = l.at_least; at_most = l.at_most; left = l.left }
put_left Rewrite asked bytes files l = record { standing = l.standing; stands = inl l.stands; gone = l.gone; at_least = l.at_least; at_most = l.at_most; left = l.left }

of_read : (queue other : LogQueue) (asked : List Ask) (place : FileBlockHandle) (bytes : List ℕ) (files : List NumberedBytes) → IsLeftOf queue (ask other (Read place bytes) ∷ asked) files → IsLeftOf queue asked files
of_read Append Append asked place bytes files l = record { standing = l.standing; stands = l.stands; gone = l.gone; at_least = l.at_least; at_most = l.at_most; left = l.left }
of_read Append Rewrite asked place bytes files l = record { standing = l.standing; stands = l.stands; gone = l.gone; at_least = l.at_least; at_most = l.at_most; left = l.left }
of_read Rewrite Append asked place bytes files l = record { standing = l.standing; stands = l.stands; gone = l.gone; at_least = l.at_least; at_most = l.at_most; left = l.left }
of_read Rewrite Rewrite asked place bytes files l = record { standing = l.standing; stands = l.stands; gone = l.gone; at_least = l.at_least; at_most = l.at_most; left = l.left }

pub read_left : (queue : LogQueue) (asked : List Ask) (place : FileBlockHandle) (bytes : List ℕ) (files : List NumberedBytes) → IsLeftOf queue (ask place.id.queue (Read place bytes) ∷ asked) files → IsLeftOf queue asked files
read_left queue asked place bytes files l = of_read queue place.id.queue asked place bytes files l

pub unsynced_left : (queue : LogQueue) (asked : List Ask) (files : List NumberedBytes) → IsLeftOf queue (ask queue Unsynced ∷ asked) files → IsLeftOf queue asked files
unsynced_left Append asked files l = record { standing = l.standing; stands = l.stands; gone = l.gone; at_least = l.at_least; at_most = l.at_most; left = l.left }
unsynced_left Rewrite asked files l = record { standing = l.standing; stands = l.stands; gone = l.gone; at_least = l.at_least; at_most = l.at_most; left = l.left }

pub other_left : (queue other : LogQueue) (asked : List Ask) (act : Act) (files : List NumberedBytes) → acts_on queue (ask other act ∷ asked) ≡ acts_on queue asked → IsLeftOf queue (ask other act ∷ asked) files → IsLeftOf queue asked files
other_left queue other asked act files e l = record {
  standing = l.standing;
  stands = subst (λ acts. MayStand acts l.standing) e l.stands;
  gone = l.gone;
  at_least = subst (λ acts. synced_deletions acts ≤ l.gone) e l.at_least;
  at_most = subst (λ acts. l.gone ≤ deletions acts) e l.at_most;
  left = l.left;
}
