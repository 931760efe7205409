-- What the contracts of this crate import of std, of the crates below and of the definitions, in one place.
pub use Rattle.std.specs.Cmp.{partial_equiv_from_equiv}
pub use Rattle.std.specs.List.{AllByRecursion, concat, flat_map}
pub use Rattle.std.specs.Option.{option_map}
pub use Rattle.std.specs.Slice.Iter.{iter_rest}
pub use Rattle.std.specs.Vec.{vec_capacity, vec_len}
pub use Rattle.std.specs.Vec.Iter.{into_iter_items, into_iter_len}
pub use Rattle.byteorder.specs.Endian.{little_bytes}
pub use Rattle.raft_base.specs.Runs.{IsConsecutive, entries_of_block}
pub use Rattle.raft_base.specs.Signature.{signature_in, signature_of}
pub use Rattle.raft_base.specs.declared.compression_type.CompressionType.{CompressionType}
pub use Rattle.raft_base.specs.declared.compression_type.CompressionType.TheVariants.{None as uncompressed}
pub use Rattle.raft_base.specs.declared.entry_index.EntryIndex.{EntryIndex}
pub use Rattle.raft_base.specs.declared.pipe_log.FileBlockHandle.{FileBlockHandle}
pub use Rattle.raft_base.specs.declared.pipe_log.Version.TheVariants.{V2}
pub use Rattle.raft_codec.specs.Fixed.{IsBig}
pub use Rattle.raft_codec.specs.Reading.{HasNoFront, HasOneFront, Reads}
pub use Rattle.raft_codec.specs.Varint.{varint}
pub use Rattle.raft_records.specs.Buffer.{IsHeld, IsUnsealed, entry_bytes_in}
pub use Rattle.raft_records.specs.DecodedIn.{AreDecodedIn, IsDecodedIn}
pub use Rattle.raft_records.specs.Entries.{AreWritable, RunOn, Tile, entry_between, entry_with_index, strings_in, with_lengths}
pub use Rattle.raft_records.specs.EntryBlock.{HasEntryBlock, IsBlockFault, IsPlaceIn}
pub use Rattle.raft_records.specs.Faults.{IsAnyCorruption, IsByteStringFault, IsCommandFault, IsContentFault, IsEntriesFault, IsEntriesRefusal, IsItemFault, IsItemRefusal, IsKeyValueFault, IsMemory, IsMemoryOrMessage, IsOpTypeFault}
pub use Rattle.raft_records.specs.Faults.{IsPairRefusal, IsTailFault, IsTailsFault, OneRefuses}
pub use Rattle.raft_records.specs.FilePart.{AreBatchesUpTo, IsNext, IsNextFault, IsPartRefusal, Part, WrittenBatchStands, part_of}
pub use Rattle.raft_records.specs.Framing.{IsFramed, IsFramedWith, LogBatchIsSpelled}
pub use Rattle.raft_records.specs.Grammar.{AreTails, IsByteString, IsCommand, IsContent, IsEntries, IsItem, IsKeyValue, IsTail, end_behind, end_of_content, op_type_byte, tail_of}
pub use Rattle.raft_records.specs.Group.{IsGroupMarkerFault, IsGroupMarkerRead, IsKeyRefusal, IsMessageRefusal, IsRunning, IsStatusFault, group_marker_item, is_reserved, marker_byte, marker_of, reserved_key, status_byte}
pub use Rattle.raft_records.specs.Header.{IsEntryBlockFault, IsEntryBlockOf, IsHeader, IsHeaderFault, IsLentBlockFault}
pub use Rattle.raft_records.specs.Item.{AreInBytes, IsInBytes, Item, Pair, bare, bare_entry, bare_pair, command, command_item, content_of, entries, entries_item, item_of, pair, pair_item, pair_of}
pub use Rattle.raft_records.specs.ItemBatch.{AreItems, AreItemsFault, CanRaise, CanRaiseContent, FitTogether, FitsBehind, HasSeal, IsDecoded, IsEncoded, IsItemBatch, IsItemBatchFault, IsSealFault, checksum_bytes, entry_bytes_of}
pub use Rattle.raft_records.specs.ItemBatch.{entry_lengths, first_entry, item_batch_bytes, no_checksum, placed_item, raised_entry, raised_item, signed_crc, with_offsets_from}
pub use Rattle.raft_records.specs.Lines.{AppendsFront, IsIoError, IsNoItemBatch, IsPrintFault, IsTextOf, IsWriteFailure, Prints, bytes_text, content_text, entries_text, last_line, line_of, pair_text}
pub use Rattle.raft_records.specs.LogBatch.{AreEqual, IsAddFault, IsBatchOf, IsBytesFault, IsLogBatch, IsReadable, IsSealedStage, approximate_length, empty_batch, encoded, encoded_length, entry_block, entry_place, header_bytes, is_open}
pub use Rattle.raft_records.specs.LogBatch.{item_offset, log_batch_bytes, sealed, stage_number, with_batch, with_entries_added, with_item}
pub use Rattle.raft_records.specs.Range.{AreInRange, IsContentInRange, IsInRange}
pub use Rattle.raft_records.specs.ReadBatch.{content_shown, item_shown, items_shown, spans_of, spans_taken}
pub use Rattle.raft_records.specs.ReadWords.{AreEntriesRead, AreHeldAs, AreTailsRead, IsChange, IsContentRead, IsHeldAs, IsItemRead, change_of, content_made, reached, span_of}
pub use Rattle.raft_records.specs.Sizes.{HaveSmallNumbers, at_most_usize, command_size, entries_size, item_batch_size, item_size, pair_size}
pub use Rattle.raft_records.specs.Spelling.{IsWritable, IsWritablePair, Keeps, byte_string, command_bytes, content_bytes, entries_bytes, item_bytes, pair_bytes, tails_bytes}
pub use Rattle.raft_records.specs.Written.{ItemBatchIsSpelled, ItemIsSpelled}
pub use Rattle.raft_records.specs.declared.atomic_group.AtomicGroupStatus.TheVariants.{Begin, End, Middle}
pub use Rattle.raft_records.specs.declared.command.Command.{Command}
pub use Rattle.raft_records.specs.declared.key_value.OpType.TheVariants.{Del, Put}
