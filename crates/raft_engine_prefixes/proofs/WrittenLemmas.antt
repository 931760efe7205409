-- What a write puts.
use Rattle.raft_engine_prefixes.proofs.Common.{◌≡◌, ◌≢◌, ℕ, ◌+◌, ◌-◌, ◌^◌, ◌<◌, ◌≤◌, List, [], ◌∷◌, ◌++◌, length, take, drop, inl, inr, refl, sym, ap, ◌∙◌, subst, arith, append_assoc, append-nil, length-append, cases_lt, drop_all, drop_at, drop-take, length-drop, length-take}
use Rattle.raft_engine_prefixes.proofs.Common.{length-take-le, take_all, take-append-drop, take-take, signature_in, FileBlockHandle, LogQueue, Version, Part, IsBatchAt, StandBetween, Item, AreInBytes, IsBatchOf, encoded_length, log_batch_bytes, AreInRange, log_batch_length}
use Rattle.raft_engine_prefixes.proofs.Common.{batch_inside, written_stands, Event, NumberedBytes, put_behind, last_of, bytes_before, HoldsFrom, IsUnreadableAt, batch_none, batch_unique, with_bytes, written_event, each_join, each_cut, each_single, held_after, FilesHold}
use Rattle.raft_engine_prefixes.proofs.Common.{whole_file, IsBroken, IsBrokenOff, written_broken, AreBatchesPut, ArePutFrom, IsBrokenWhereItEnds}
use Rattle.raft_engine_prefixes.proofs.BatchPartLemmas.{end_unreadable}
use Rattle.raft_engine_prefixes.proofs.DamageLemmas.{end_broken}
use Rattle.raft_engine_prefixes.proofs.TornLemmas.{with_all, stands_as, one_file}

-- bytes behind others, up to an end
behind_old : (n : ℕ) (old bytes : List ℕ) → drop (length old) (take n (old ++ bytes)) ≡ take (n - length old) bytes
behind_old n old bytes =
    elim (cases_lt n (length old)) [
      | inl less ↦
          let all = length-append old bytes in
          let long = length-take-le n (old ++ bytes) (omega (arith, all, less)) in
          drop_all (length old) (take n (old ++ bytes)) (omega (arith, long, less)) ∙ sym (ap (λ (k : ℕ). take k bytes) (let none : n - length old ≡ 0 = omega (arith, less) in none))
      | inr more ↦
          ap (λ (m : ℕ). drop (length old) (take m (old ++ bytes))) (let k : n ≡ length old + (n - length old) = omega (arith, more) in k)
          ∙ drop-take (length old) (n - length old) (old ++ bytes) ∙ ap (take (n - length old)) (drop_at old bytes (length old) refl)
    ]

left_over : (k : ℕ) (xs : List ℕ) → k < length xs → drop k xs ≢ []
left_over k xs less e = let n = sym (length-drop k xs) ∙ ap length e in absurd (omega (arith, n, less))

module _ (queue : LogQueue) (version : Version) where
  -- what is put behind the last file's bytes
  put_last : (closed : List NumberedBytes) (last : NumberedBytes) (bytes : List ℕ) (more : List Event)
      → ArePutFrom (whole_file queue version (last.0, last.1 ++ bytes)) (length last.1) more → AreBatchesPut queue version bytes (closed ++ last ∷ []) more
  put_last [] last bytes more t = t
  put_last (c ∷ []) last bytes more t = t
  put_last (c ∷ d ∷ closed) last bytes more t = put_last (d ∷ closed) last bytes more t

  module _ (last : NumberedBytes) (handle : FileBlockHandle) (items : List Item) (entry_bytes : List ℕ)
      (batch : IsBatchOf items entry_bytes) (in_range : AreInRange items) (in_bytes : AreInBytes items) (some : items ≢ []) (short : encoded_length items entry_bytes < 2 ^ 56)
      (file : handle.id ≡ record { queue = queue; seq = last.0 }) (place : handle.offset ≡ length last.1) where
    abbrev part : Part
    part = whole_file queue version last

    abbrev bytes : List ℕ
    bytes = log_batch_bytes (signature_in version last.0) items entry_bytes

    abbrev event : Event
    event = written_event part handle items entry_bytes

    -- the batch stands from the old end to the new one
    stands : HoldsFrom (with_bytes part bytes) (length last.1) (event ∷ [])
    stands =
        let first : drop (length last.1) (last.1 ++ bytes) ≡ bytes ++ [] = drop_at last.1 bytes (length last.1) refl ∙ sym (append-nil bytes) in
        let at : handle.offset ≡ 0 + length last.1 = omega (arith, place) in
        let all : length last.1 + encoded_length items entry_bytes ≡ length (last.1 ++ bytes) =
        ap (λ (n : ℕ). length last.1 + n) (sym (log_batch_length (signature_in version last.0) items entry_bytes)) ∙ sym (length-append last.1 bytes) in
        (refl, (length last.1 + encoded_length items entry_bytes, written_stands (with_bytes part bytes) (length last.1) handle items entry_bytes [] batch in_range in_bytes some short file at first, all))

    abbrev all : Part
    all = with_bytes part bytes

    all_long : length (last.1 ++ bytes) ≡ length last.1 + length bytes
    all_long = length-append last.1 bytes

    -- the end is within the batch
    cut_within : (n : ℕ) → n ≤ length (last.1 ++ bytes) → IsUnreadableAt (bytes_before all n) (length last.1) → IsBrokenOff (bytes_before all n) (length last.1)
    cut_within n few none =
        elim (cases_lt n (length last.1 + length bytes)) [
          | inl less ↦
              let k = n - length last.1 in
              subst (IsBroken (signature_in version last.0)) (sym (behind_old n last.1 bytes))
              (elim (cases_lt k (length bytes)) [
                | inl some_left ↦ written_broken bytes (take k bytes) (drop k bytes) (signature_in version last.0) (signature_in version last.0) items entry_bytes batch in_range short refl
                    (sym (take-append-drop k bytes)) (left_over k bytes some_left)
                | inr none_left ↦ inl (let long = length-take k bytes in omega (arith, long, less, none_left))
              ])
          | inr most ↦ absurd (batch_none (bytes_before all n) (length last.1) event.items stands.1.0 none
              (subst (λ (xs : List ℕ). IsBatchAt (with_all all xs) (length last.1) event.items stands.1.0) (sym (take_all n (last.1 ++ bytes) (let l = all_long in omega (arith, l, most)))) stands.1.1))
        ]

    -- the end is behind the batch
    cut_behind : (n at next : ℕ) (b : List Item) (bs : List (List Item)) → n ≤ length (last.1 ++ bytes) → IsBatchAt (bytes_before all n) (length last.1) b next → StandBetween (bytes_before all n) next at bs
        → at ≡ length (take n (last.1 ++ bytes))
    cut_behind n at next b bs few first rest = go bs rest
      where
        long : length (take n (last.1 ++ bytes)) ≡ n
        long = length-take-le n (last.1 ++ bytes) few

        within : next ≤ n
        within = let m = batch_inside (bytes_before all n) (length last.1) b next first in let l = long in omega (arith, m.1, l)

        same : next ≡ stands.1.0
        same = (batch_unique all (length last.1) b event.items next stands.1.0
            (stands_as (bytes_before all n) (last.1 ++ bytes) (length last.1) next b first (sym (take-take next n (last.1 ++ bytes) within))) stands.1.1).1

        ends : next ≡ length (take n (last.1 ++ bytes))
        ends = let all_read : stands.1.0 ≡ length (last.1 ++ bytes) = stands.1.2 in let s = same in let l = long in let w = within in omega (arith, all_read, s, l, w, few)

        go : (bs : List (List Item)) → StandBetween (bytes_before all n) next at bs → at ≡ length (take n (last.1 ++ bytes))
        go [] e = sym e ∙ ends
        go (c ∷ cs) more = let m = batch_inside (bytes_before all n) next c more.0 more.1 in let e = ends in absurd (omega (arith, m.0, m.1, e))

    -- wherever a crash ends the batch
    written_where_it_ends : IsBrokenWhereItEnds all (length last.1)
    written_where_it_ends n at [] few here none =
        subst (IsBrokenOff (bytes_before all n)) here (cut_within n few (subst (IsUnreadableAt (bytes_before all n)) (sym here) none))
    written_where_it_ends n at (b ∷ bs) few more none = end_broken (bytes_before all n) at (cut_behind n at more.0 b bs few more.1 more.2)

    pub written_put : (closed : List NumberedBytes) → AreBatchesPut queue version bytes (closed ++ last ∷ []) (event ∷ [])
    written_put closed =
        let n = length (last.1 ++ bytes) in
        put_last closed last bytes (event ∷ [])
        (record {
          held = record {
            at = n;
            inside = omega arith;
            held = subst (λ (xs : List ℕ). HoldsFrom (with_all part xs) (length last.1) (event ∷ [])) (sym (take_all n (last.1 ++ bytes) (omega arith))) stands;
            torn = end_unreadable (with_bytes part bytes) n refl;
          };
          broken = written_where_it_ends;
        })

    pub written_held : (closed : List NumberedBytes) (h : List Event) → FilesHold queue version (closed ++ last ∷ []) h
        → FilesHold queue version (put_behind bytes (closed ++ last ∷ [])) (h ++ event ∷ [])
    written_held closed h held =
        let Whole = λ (file : NumberedBytes) (g : List Event). HoldsFrom (whole_file queue version file) 0 g in
        let r = each_cut Whole closed (last ∷ []) h held in
        let longer = held_after part bytes 0 r.rest (event ∷ []) (one_file queue version last r.rest r.rest_held) stands in
        subst (λ (fs : List NumberedBytes). FilesHold queue version fs (h ++ event ∷ [])) (sym (last_of (λ (b : List ℕ). b ++ bytes) closed last))
        (subst (λ (g : List Event). FilesHold queue version (closed ++ (last.0, last.1 ++ bytes) ∷ []) g)
        (sym (ap (λ (g : List Event). g ++ event ∷ []) r.split ∙ append_assoc r.first r.rest (event ∷ [])))
        (each_join Whole closed ((last.0, last.1 ++ bytes) ∷ []) r.first (r.rest ++ event ∷ []) r.first_held (each_single Whole (last.0, last.1 ++ bytes) (r.rest ++ event ∷ []) longer)))
