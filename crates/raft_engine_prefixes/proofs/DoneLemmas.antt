-- What a disk leaves is what may be left of what is done to a queue.
use Rattle.raft_engine_prefixes.proofs.Common.{◌≡◌, ℕ, ◌<◌, ◌≤◌, List, [], ◌++◌, length, take, inl, inr, refl, sym, ap, ◌∙◌, subst, arith, length-append, AllByRecursion, cases_lt, take-map, drop-map, length-map, nil_from_length, drop_all, LogQueue, Version, Event, Act, Ask}
use Rattle.raft_engine_prefixes.proofs.Common.{acts_on, NumberedBytes, begun, deletions, synced_deletions, IsLeftOf, Deed, written, synced, deleted, synced_deleted, in_files_from, from_none, whole_stands, synced_low, all_gone, FilesHoldTorn, numbers, AreRisingFrom}
use Rattle.raft_engine_prefixes.proofs.Common.{AreConsecutive, AreBelow, AreDone, HoldLeft}
use Rattle.raft_engine_prefixes.proofs.PrefixLemmas.{all_held}
use Rattle.raft_engine_prefixes.proofs.RestLemmas.{RestBehind, rest_behind}
use Rattle.raft_engine_prefixes.proofs.NumberLemmas.{first_stand, rising_prefix, consecutive_prefix, consecutive_drop, below_prefix, below_drop, below_take, IsBetween, between}
use Rattle.raft_engine_prefixes.proofs.EventLemmas.{from_both, from_twice, files_low, files_high, StandFrom, prefix_stands}

module _ (queue : LogQueue) (version : Version) (asked : List Ask) (deeds : List Deed) (files : List NumberedBytes)
    (d : AreDone queue version (acts_on queue asked) deeds) (l : IsLeftOf queue asked files) where
  abbrev acts : List Act
  acts = acts_on queue asked

  -- ---- files were begun

  module _ (some : deletions acts < length (begun acts)) where
    r : RestBehind queue version acts (in_files_from d.first (synced deeds)) (in_files_from d.first (written deeds)) files l.gone
    r = rest_behind queue version asked (in_files_from d.first (synced deeds)) (in_files_from d.first (written deeds)) files d.put some l

    b : IsBetween (synced_deleted deeds) (deleted deeds) l.gone (numbers (begun acts))
    b = between d.first (synced_deleted deeds) (deleted deeds) (synced_deletions acts) (deletions acts) l.gone (numbers (begun acts)) d.rising d.synced_gone d.gone (synced_low deeds) l.at_least l.at_most
        (subst (λ (n : ℕ). deletions acts < n) (sym (length-map (begun acts) (λ (f : NumberedBytes). f.0))) some)

    s : StandFrom d.first deeds (r.deleted ++ r.rest)
    s = prefix_stands d.first deeds (r.deleted ++ r.rest) r.is_front.more r.is_front.lost r.is_front.least r.is_front.split

    rising : AreRisingFrom b.number (numbers files)
    rising =
        let f = first_stand acts l.standing l.stands in
        subst (AreRisingFrom b.number) (drop-map (λ (f : NumberedBytes). f.0) l.gone l.standing ∙ ap numbers (sym l.left))
        (below_drop b.number d.first l.gone (numbers l.standing)
        (below_prefix b.number l.gone (numbers l.standing) f.0 (subst (AreBelow b.number l.gone) f.1 b.below))
        (rising_prefix d.first (numbers l.standing) f.0 (subst (AreRisingFrom d.first) f.1 d.rising)))

    consecutive : AreConsecutive (numbers files)
    consecutive =
        let f = first_stand acts l.standing l.stands in
        subst AreConsecutive (drop-map (λ (f : NumberedBytes). f.0) l.gone l.standing ∙ ap numbers (sym l.left))
        (consecutive_drop l.gone (numbers l.standing) (consecutive_prefix (numbers l.standing) f.0 (subst AreConsecutive f.1 d.consecutive)))

    left : r.rest ≡ in_files_from b.number s.standing
    left =
        let up : d.first ≤ b.number = let i = d.begins in let j = b.at_least in omega (arith, i, j) in
        let low = subst (AllByRecursion (λ (m : ℕ). m < b.number)) (take-map (λ (f : NumberedBytes). f.0) l.gone (begun acts)) (below_take b.number l.gone (numbers (begun acts)) b.below) in
        sym (sym (from_twice d.first b.number s.standing up) ∙ ap (in_files_from b.number) s.is ∙ from_both b.number r.deleted r.rest
        ∙ ap (λ (h : List Event). h ++ in_files_from b.number r.rest) (files_low queue version b.number (take l.gone (begun acts)) r.deleted low r.of_deleted)
        ∙ files_high queue version b.number files r.rest rising r.held)

    files_left : HoldLeft queue version deeds files
    files_left = record {
      standing = s.standing;
      left = r.rest;
      is_left = record { stands = s.stands; gone = b.number; may_go = record { at_least = b.at_least; at_most = b.at_most }; left = left };
      rising = rising;
      consecutive = consecutive;
      held = r.held;
    }

  -- ---- no file was begun

  module _ (none : length (begun acts) ≡ 0) where
    no_files : files ≡ []
    no_files =
        let f = first_stand acts l.standing l.stands in
        let n = ap length f.1 ∙ length-append (numbers l.standing) f.0 in
        let a = length-map (begun acts) (λ (f : NumberedBytes). f.0) in
        let b = length-map l.standing (λ (f : NumberedBytes). f.0) in
        l.left ∙ drop_all l.gone l.standing (omega (arith, n, a, b, none))

    no_batches : in_files_from d.first (written deeds) ≡ []
    no_batches = subst (λ (fs : List NumberedBytes). FilesHoldTorn queue version fs (in_files_from d.first (written deeds))) (nil_from_length (begun acts) none)
        (all_held queue version acts (in_files_from d.first (synced deeds)) (in_files_from d.first (written deeds)) d.put)

    nothing_left : HoldLeft queue version deeds files
    nothing_left = record {
      standing = written deeds;
      left = [];
      is_left = record {
        stands = whole_stands deeds;
        gone = deleted deeds;
        may_go = all_gone deeds;
        left =
            let up : d.first ≤ deleted deeds = let i = d.begins in let j = synced_low deeds in omega (arith, i, j) in
            sym (sym (from_twice d.first (deleted deeds) (written deeds) up) ∙ ap (in_files_from (deleted deeds)) no_batches ∙ from_none (deleted deeds));
      };
      rising = subst (λ (fs : List NumberedBytes). AreRisingFrom (deleted deeds) (numbers fs)) (sym no_files) tt;
      consecutive = subst (λ (fs : List NumberedBytes). AreConsecutive (numbers fs)) (sym no_files) tt;
      held = subst (λ (fs : List NumberedBytes). FilesHoldTorn queue version fs []) (sym no_files) refl;
    }

pub left_of_done : (queue : LogQueue) (version : Version) (asked : List Ask) (deeds : List Deed) (files : List NumberedBytes) → AreDone queue version (acts_on queue asked) deeds → IsLeftOf queue asked files
    → HoldLeft queue version deeds files
left_of_done queue version asked deeds files d l =
    let stays = d.stays in
    elim (cases_lt 0 (length (begun (acts_on queue asked)))) [
      | inl some ↦ files_left queue version asked deeds files d l (omega (arith, stays, some))
      | inr none ↦ nothing_left queue version asked deeds files d l (omega (arith, none))
    ]
