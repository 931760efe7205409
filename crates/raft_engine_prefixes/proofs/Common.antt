-- What proofs of this crate import of std, of the definitions and of the crates below, in one place.
pub use Rattle.std.proofs.Common.{Bool, Contains, List, None, Option, Some, [], ap, append-nil, append_assoc, arith, cond, drop, false, filter, get_or, inl, inr, length, length-append, map, max, option_map, refl, slice_index_or, subst, suc, sym, take, true, zero, ℕ, ◌++◌, ◌+◌}
pub use Rattle.std.proofs.Common.{◌-◌, ◌<◌, ◌^◌, ◌∙◌, ◌∷◌, ◌≡◌, ◌≢◌, ◌≤◌, ◌⊎◌}
pub use Rattle.std.proofs.Math.Seq.{take-append-add}
pub use Rattle.std.proofs.lemmas.Bool.{cases_lt, false≢true}
pub use Rattle.std.proofs.lemmas.Bool.Decides.{nat_tests}
pub use Rattle.std.proofs.lemmas.List.{drop-append-le, drop-drop, drop-map, drop-take, drop_all, drop_at, length-drop, length-map, length-take, length-take-le, map-append, nil_from_length, take-append-drop, take-append-le, take-map, take-take, take_all, take_at}
pub use Rattle.std.proofs.lemmas.List.Elements.{Contains-append_right, filter-append}
pub use Rattle.std.proofs.lemmas.Option.{cond_some}
pub use Rattle.std.specs.List.{AllByRecursion, concat}
pub use Rattle.std.specs.Option.{option_and_then}
pub use Rattle.std.specs.Prelude.{nat_le, ◌==◌}
pub use Rattle.raft_base.specs.Runs.{end_of}
pub use Rattle.raft_base.specs.Signature.{signature_in}
pub use Rattle.raft_base.specs.declared.compression_type.CompressionType.{CompressionType}
pub use Rattle.raft_base.specs.declared.entry_index.EntryIndex.{EntryIndex}
pub use Rattle.raft_base.specs.declared.errors.Error.{Error}
pub use Rattle.raft_base.specs.declared.pipe_log.FileBlockHandle.{FileBlockHandle}
pub use Rattle.raft_base.specs.declared.pipe_log.FileId.{FileId}
pub use Rattle.raft_base.specs.declared.pipe_log.LogQueue.{LogQueue}
pub use Rattle.raft_base.specs.declared.pipe_log.LogQueue.TheVariants.{Append, Rewrite}
pub use Rattle.raft_base.specs.declared.pipe_log.Version.{Version}
pub use Rattle.raft_codec.specs.Reading.{HasNoFront, HasOneFront}
pub use Rattle.raft_engine_laws.proofs.ContentLemmas.{added_bytes, block_stands}
pub use Rattle.raft_engine_laws.proofs.CrashLemmas.{all_gone, from_more, from_none, synced_low, whole_stands}
pub use Rattle.raft_engine_laws.proofs.SafeCrashes.{lose_nothing}
pub use Rattle.raft_engine_laws.specs.Contents.{HaveBytes, bytes_of}
pub use Rattle.raft_engine_laws.specs.Crashes.{Crash, Deed, IsSafe, IsSynced, LoseNothing, Write, deleted, synced, synced_deleted, written}
unfoldable pub use Rattle.raft_engine_laws.specs.Crashes.{in_files_from}
pub use Rattle.raft_engine_laws.specs.Records.{Records}
pub use Rattle.raft_files.proofs.HeldLemmas.{length_on_last}
pub use Rattle.raft_files.proofs.LastLemmas.{last_of}
pub use Rattle.raft_files.specs.Asks.{Act, Ask, Begin, Cut, Delete, Found, Put, Read, Sync, Unsynced, acts_on, ask, is_same_queue}
pub use Rattle.raft_files.specs.Disk.{IsAnyPut, IsLeftOf, IsLeftUnordered, MayStand, MayStandUnordered, NumberedBytes, begun, cut_last, deletions, files_of, on_last, put_behind, synced_deletions, synced_files}
pub use Rattle.raft_files.specs.Places.{IsNext, bytes_at, stretch_of}
pub use Rattle.raft_history.proofs.EachStepLemmas.{each_step_of}
pub use Rattle.raft_history.proofs.EffectLemmas.{each-append, each_filter, each_left, each_right, each_weaker}
pub use Rattle.raft_history.proofs.Words.{with_step}
pub use Rattle.raft_history.specs.Batches.{BatchSteps, Event, batches}
pub use Rattle.raft_history.specs.BothQueues.{IsReadingOfBoth}
pub use Rattle.raft_history.specs.Effects.{is_named, steps_of}
pub use Rattle.raft_history.specs.Histories.{last_from}
pub use Rattle.raft_history.specs.RegionSteps.{RegionStep, Tables, content_step, pair_step, steps_of_items}
pub use Rattle.raft_records.proofs.BatchLemmas.{one_batch}
pub use Rattle.raft_records.proofs.BufferLemmas.{header_len}
pub use Rattle.raft_records.proofs.FrameLemmas.{header_one, log_batch_length, readable}
pub use Rattle.raft_records.proofs.ItemLemmas.{same_length}
pub use Rattle.raft_records.proofs.Names.{part_signature}
pub use Rattle.raft_records.proofs.PartLemmas.{batch_inside, written_stands}
pub use Rattle.raft_records.specs.Entries.{Tile, with_lengths}
pub use Rattle.raft_records.specs.FilePart.{IsBatchAt, Part, StandBetween}
pub use Rattle.raft_records.specs.Framing.{IsFramed}
pub use Rattle.raft_records.specs.Grammar.{end_behind, end_of_content, tail_of}
pub use Rattle.raft_records.specs.Group.{is_reserved}
pub use Rattle.raft_records.specs.Item.{AreInBytes, Content, Item, command, entries, pair}
pub use Rattle.raft_records.specs.ItemBatch.{FitTogether, FitsBehind, IsItemBatch, checksum_bytes, end_of_items, item_batch_bytes, placed_content, placed_item, with_offsets_from}
pub use Rattle.raft_records.specs.LogBatch.{IsBatchOf, IsReadable, encoded_length, entry_block, entry_place, header_bytes, item_offset, log_batch_bytes}
pub use Rattle.raft_records.specs.Range.{AreInRange}
pub use Rattle.raft_records.specs.declared.key_value.OpType.{OpType}
pub use Rattle.raft_recover.specs.Files.{FilesHold, whole_file}
pub use Rattle.raft_replay.proofs.MachineOrderLemmas.{each_cut, each_join, each_single}
pub use Rattle.raft_replay.proofs.SegmentLemmas.{batch_none, batch_unique, part_unique, same_event}
pub use Rattle.raft_replay.proofs.WrittenPartLemmas.{held_after}
pub use Rattle.raft_replay.specs.Cuts.{bytes_before}
pub use Rattle.raft_replay.specs.Segments.{AreHeldInTurn, HoldsFrom}
pub use Rattle.raft_replay.specs.Stops.{IsUnreadableAt}
pub use Rattle.raft_replay.specs.WrittenParts.{with_bytes, written_event}
pub use Rattle.raft_table.proofs.MarkEntries.{same_some}
unfoldable pub use Rattle.raft_table.specs.Marks.{entries_within}
pub use Rattle.raft_table.specs.Overlay.{greatest_compaction, has_clean, is_unjoined, kept_if, least_cut, overlaid_table, overlay, rewritten_within}
pub use Rattle.raft_table.specs.Start.{entries_after_replay, leaves_hole}
pub use Rattle.raft_table.specs.Steps.{AtomicGroup, Clean, Compact, Del, Run, Step, Truncate, after, after_step, table_of}
pub use Rattle.raft_table.specs.Table.{Table}
unfoldable pub use Rattle.raft_table.specs.TableEntries.{below, from}
pub use Rattle.raft_tail.proofs.BrokenLemmas.{written_broken}
pub use Rattle.raft_tail.specs.Tails.{IsBroken, IsBrokenOff}
pub use Rattle.raft_engine_prefixes.specs.AnyTails.{BeginWithSynced, FilesBeginWith, FilesHoldPrefix, IsUnforgedLeftOf, PrefixesAreUnforged}
pub use Rattle.raft_engine_prefixes.specs.Contents.{AddedEntriesAreTold, AreBothTold, AreBothTrueReads, AreTold, AreToldByFiles, AreToldByReads, AreToldByWritten, AreTrueReads, HaveContents, KeepsBytes, ReadEntryIsTold, TellContents, TellSoundContents, WrittenEntryIsTold}
pub use Rattle.raft_engine_prefixes.specs.Contents.{bytes_in, content_at, content_of, placed_entries}
pub use Rattle.raft_engine_prefixes.specs.Done.{AreBelow, AreConsecutive, AreDone, AreDoneWhole, AreRisingFrom, Follows, HoldLeft, HoldRecords, LastFileIsNext, WrittenBatchIsDone, numbers}
pub use Rattle.raft_engine_prefixes.specs.EntryPlaces.{EachEntryAmong, EachEntryIn, EachEntryOf, EndsWithin, EntriesEndWithin, EntriesOfTablesStand, LeftFilesEndWithin, PlacesStand, StandsAt, WrittenEndWithin}
pub use Rattle.raft_engine_prefixes.specs.Prefixes.{AreBatchesPut, AreFirstOf, ArePut, ArePutFrom, ArePutWhole, HoldPrefixWith, HoldRestOfPrefix, IsBrokenWhereItEnds, IsPrefixWith, PutsGoOn, WrittenBatchIsPut}
pub use Rattle.raft_engine_prefixes.specs.TornTails.{AreUndamaged, FilesHoldTorn, FoundUndamaged, HoldsTornFrom, IsDamagedAt, NoneIsDamaged, ReadableFrontStops, StopsAt}
