-- What proofs of this crate import of std, of the definitions and of the crates below, in one place.
pub use Rattle.std.proofs.Common.{All, Bool, Err, IfErr, IfOk, IsPermutation, IsTrue, List, None, Ok, Option, Result, Some, Vec, [], add-one, ap, append-nil, append_assoc, arith, codes, cond, decimal, drop, drop-drop, false, get_or}
pub use Rattle.std.proofs.Common.{get_or-drop, if◌then◌else◌, inl, inr, length, length-append, length-drop, map, max, min, nat_eq, option_map, refl, reverse, rules, string_bytes, subst, suc, sym, take, take-append-drop, true, vec_len, zero}
pub use Rattle.std.proofs.Common.{ℕ, ◌*◌, ◌++◌, ◌+◌, ◌-◌, ◌<◌, ◌==◌, ◌^◌, ◌↔◌, ◌∙◌, ◌∷◌, ◌≡◌, ◌≢◌, ◌≤◌, ◌⊎◌}
pub use Rattle.std.proofs.Math.Seq.{take-append-add}
pub use Rattle.std.proofs.lemmas.Bool.{cases_lt, cond-false, cond-true}
pub use Rattle.std.proofs.lemmas.Bool.Decides.{Decides-eqb, nat_tests}
pub use Rattle.std.proofs.lemmas.List.{drop-append-le, drop-take, drop_all, drop_at, drop_more, get_or_at, length-map, length-reverse, length-take-le, map-append, nil_from_length, reverse-append, reverse-reverse, take-take, take_all}
pub use Rattle.std.proofs.lemmas.List.{take_more}
pub use Rattle.std.proofs.lemmas.List.Elements.{All-append, All-from_recursion, All-push, recursion_from_All}
pub use Rattle.std.proofs.lemmas.List.Recursion.{is_sum_by}
pub use Rattle.std.proofs.lemmas.List.Sorted.{All-permutation, IsNonDecreasingBy-from_sort_by_key, sum_by-IsPermutation}
pub use Rattle.std.proofs.lemmas.Result.{IfErr-weaker, IfOk-weaker, on_ok_weaker}
pub use Rattle.std.specs.Prelude.{flat_map, not}
pub use Rattle.raft_history.proofs.StretchOfHistory.{apart_back, apart_front, of_back, of_both, of_front, size-append, small_back, small_front, sound_back, sound_front}
pub use Rattle.raft_history.proofs.WaitingLemmas.{records-append}
pub use Rattle.raft_history.proofs.Words.{records_in_history}
pub use Rattle.raft_records.proofs.BatchLemmas.{one_batch}
pub use Rattle.raft_records.proofs.FrameLemmas.{header_one, log_batch_length}
pub use Rattle.raft_records.proofs.FramedAt.{IsFramedAt, framed_at}
pub use Rattle.raft_records.proofs.ItemLemmas.{same_length}
pub use Rattle.raft_records.proofs.Names.{entries_place, part_signature, place_between}
pub use Rattle.raft_records.proofs.PartLemmas.{batch_inside, written_stands}
pub use Rattle.raft_tickets.proofs.DrawingLemmas.{below_more, one_fewer}
pub use Rattle.raft_tickets.proofs.WeightLemmas.{weigh-append}
pub use Rattle.raft_replay.proofs.Passed.{on_passed, or_passed}
pub use Rattle.raft_replay.specs.Common.{AllByRecursion, Apart, AreBelow, AreCutFrom, AreDone, AreHeldInTurn, AreInOrder, AreIndexAndTails, AreOfQueue, ArePartsOf, ArePlansNext, AreWaiting, BatchesMeet, Bor, CannotBeRead, CannotFollow}
pub use Rattle.raft_replay.specs.Common.{CannotFollowAt, CannotMerge, CompressionType, Content, Context, CoverOnce, Draw, EachHolds, EntryIndex, Error, Event, FileBlockHandle, FileId, FileRange, Gives, Global, GoneOn, HasEnded, HasFaultAt}
pub use Rattle.raft_replay.specs.Common.{HasHeader, HasNoFront, HasRefusal, HasReplayed, HoldsFrom, IsBack, IsBatchAt, IsContent, IsCorruption, IsDone, IsFramed, IsItem, IsItemBatch, IsMerged, IsNonDecreasingBy, IsOfQueue, IsOpenRefusal}
pub use Rattle.raft_replay.specs.Common.{IsPiece, IsPieceOf, IsPlaced, IsReached, IsReadable, IsReplayed, IsSeatOf, IsSequence, IsSmall, IsStoodFor, IsTail, IsUnderway, IsUnreadableAt, IsVarint, IsWork, Item, LogFileContext, LogQueue}
pub use Rattle.raft_replay.specs.Common.{Merges, OpType, Part, Piece, Plan, RegionStep, SegmentsAreOf, SegmentsHold, Sound, StandBetween, StandForEach, StandInTurn, StandsFor, Step, StopsAmong, StopsByFault, StopsIn, Suits, TicketSeat}
pub use Rattle.raft_replay.specs.Common.{Tickets, Version, Waiting, Worked, WrittenBatchIsHeld, bytes_before, bytes_of_parts, bytes_of_segments, checksum_bytes, command, cons_option, content_step, cost, count_below, cover_count, covers}
pub use Rattle.raft_replay.specs.Common.{encoded_length, end_of_content, entries, event, histories_in_turn, history_in, is_reserved, joined_bytes, leaves, log_batch_bytes, occurrences, once_below, pair, pair_step, part_of, pieces_in}
pub use Rattle.raft_replay.specs.Common.{place_text, placed_content, placed_item, queue_text, records_in, rest_of, signature_in, steps_of_items, switches, tail_of, weigh, with_bytes, written_event}
