-- What proofs of this crate import of std, of the definitions and of the crates below, and their names for what definitions say in place.
pub use Rattle.std.proofs.Common.{Bool, Err, Global, IfErr, IfSome, IsTrue, List, None, Ok, OnErr, OnOk, Option, Result, Some, Vec, [], ap, append_assoc, arith, codes, drop, eqb, get_or, if◌then◌else◌, inl, inr, length, map, min}
pub use Rattle.std.proofs.Common.{option_and_then, option_map, refl, rules, set, slice_index_or, string_bytes, subst, suc, sym, take, true, zero, ℕ, ◌%◌, ◌&&◌, ◌*◌, ◌++◌, ◌+◌, ◌-◌, ◌/◌, ◌<◌, ◌^◌, ◌↔◌, ◌∙◌, ◌∷◌, ◌≡◌, ◌≢◌, ◌≤◌, ◌⊎◌}
pub use Rattle.std.proofs.KnownBytes.{Appends-trans}
pub use Rattle.std.proofs.Math.Bool.{and-true}
pub use Rattle.std.proofs.Math.ListN.{drop_of_length-le}
pub use Rattle.std.proofs.Math.Numerals.{add-one}
pub use Rattle.std.proofs.Math.Seq.{drop-cons, take-add, take-append_seam, take-length}
pub use Rattle.std.proofs.lemmas.Bool.{leb-true, ltb-true}
pub use Rattle.std.proofs.lemmas.Grind.{common_steps}
pub use Rattle.std.proofs.lemmas.List.{append-nil, append_cancel_left, at_drop_more, drop-append-le, drop-drop, drop-take, drop_all, drop_at, drop_more, get_or-map, get_or_at, get_or_default, length-append, length-drop, length-map}
pub use Rattle.std.proofs.lemmas.List.{length-set, length-take-le, length_push, map-append, map-id, map-set, nil_from_length, set_at, take-append-drop, take-append-le, take_all, take_at, take_more, take_rest}
pub use Rattle.std.proofs.lemmas.List.Edits.{map_over_more}
pub use Rattle.std.proofs.lemmas.Map.Text.{is_eq-slice_cmp}
pub use Rattle.std.proofs.lemmas.Nat.{xor_of_32}
pub use Rattle.std.proofs.lemmas.Result.{IfErr-weaker}
pub use Rattle.std.specs.Bool.{Decides, one_answer}
pub use Rattle.std.specs.Cmp.{first_so, second_so, unsigned_Decides}
pub use Rattle.std.specs.Cmp.Lexicographic.{pointwise, pointwise_decides}
pub use Rattle.std.specs.FinMap.{nat_cmp-IsAntisymmetric, slice_cmp-IsAntisymmetric}
pub use Rattle.std.specs.Fmt.{decimal}
pub use Rattle.std.specs.Int.Bits.{xor_assoc, xor_self, xor_zero_l, xor_zero_r}
pub use Rattle.std.specs.Io.KnownBytes.{Appends}
pub use Rattle.std.specs.List.{AllByRecursion, AllZip, concat, each_same, flat_map, slice_get}
pub use Rattle.std.specs.Ordering.{is_eq}
pub use Rattle.std.specs.Prelude.{bit_xor, nat_eq}
pub use Rattle.std.specs.Result.{IsErrAnd}
pub use Rattle.std.specs.Vec.{vec_capacity, vec_len}
pub use Rattle.std.specs.declared.cmp.Ordering.{Ordering}
pub use Rattle.byteorder.specs.Endian.{big_bytes, little_bytes}
pub use Rattle.raft_base.proofs.ConsecutiveLemmas.{IsConsecutiveFrom, consecutive_from, from_first, from_start, started}
pub use Rattle.raft_base.specs.Compression.{IsCompressionFault, compression_byte}
pub use Rattle.raft_base.specs.Corruption.{IsCorruption}
pub use Rattle.raft_base.specs.NoEntry.{no_entry}
pub use Rattle.raft_base.specs.Runs.{IsConsecutive, entries_of_block}
pub use Rattle.raft_base.specs.Signature.{signature_of}
pub use Rattle.raft_base.specs.declared.compression_type.CompressionType.{CompressionType}
pub use Rattle.raft_base.specs.declared.compression_type.CompressionType.TheVariants.{None as uncompressed}
pub use Rattle.raft_base.specs.declared.entry_index.EntryIndex.{EntryIndex}
pub use Rattle.raft_base.specs.declared.errors.Error.{Error}
pub use Rattle.raft_base.specs.declared.pipe_log.FileBlockHandle.{FileBlockHandle}
pub use Rattle.raft_base.specs.declared.pipe_log.FileId.{FileId}
unfoldable pub use Rattle.raft_checksum.specs.Checksum.{crc32_of}
pub use Rattle.raft_codec.proofs.FixedLemmas.{IsReadAgain-big_bytes, IsReadAgain-little_bytes}
pub use Rattle.raft_codec.proofs.ReadingLemmas.{no_first, no_second, no_tagged, pair_one_front, reads_as, reads_pair, reads_tagged, second_at, tagged_at, tagged_one_front, tagged_same}
pub use Rattle.raft_codec.proofs.SequenceLemmas.{fault_after, reads_more, sequence_one_front, state_after-push, stuck}
pub use Rattle.raft_codec.proofs.VarintLemmas.{septets_last, short_below, short_is_read, varint_one_front, varint_some, varint_spells, varint_within}
pub use Rattle.raft_codec.specs.Fixed.{IsBig, IsLittle}
pub use Rattle.raft_codec.specs.Reading.{HasNoFront, HasOneFront, IsFollowedBy, IsSequence, IsSequenceFault, IsTagged, Reads, state_after}
pub use Rattle.raft_codec.specs.Varint.{IsVarint}
unfoldable pub use Rattle.raft_codec.specs.Varint.{varint}
pub use Rattle.raft_records.proofs.Names.{entries_place, part_signature, place_between}
pub use Rattle.raft_records.specs.Buffer.{IsEncodedAs, IsHeld, IsHeldAt, IsShortAt, IsUnsealed, entry_bytes_in}
pub use Rattle.raft_records.specs.DecodedIn.{AreDecodedIn, IsDecodedIn, IsPlaceInFile}
pub use Rattle.raft_records.specs.Entries.{RunOn, Tile, entry_between, entry_with_index, strings_in, with_lengths}
pub use Rattle.raft_records.specs.Faults.{IsContentFault, IsEntriesFault, IsItemFault, IsKeyValueFault, IsMemory, IsTailFault, IsTailsFault}
pub use Rattle.raft_records.specs.FilePart.{AreBatchesUpTo, IsBatchAt, IsNext, IsNextFault, Part, StandBetween, part_of}
pub use Rattle.raft_records.specs.Framing.{IsFramed, IsFramedWith}
pub use Rattle.raft_records.specs.Grammar.{AreIndexAndTails, AreTails, IsByteString, IsCommand, IsContent, IsEntries, IsItem, IsKeyValue, IsPairOf, IsTail, end_behind, end_of_content, op_type_byte, tail_of}
pub use Rattle.raft_records.specs.Group.{IsGroupMarkerFault, IsGroupMarkerRead, group_marker_item, marker_byte, marker_of, reserved_key, status_byte, status_of}
unfoldable pub use Rattle.raft_records.specs.Group.{is_reserved}
pub use Rattle.raft_records.specs.Header.{IsEntryBlockOf, IsHeader, IsHeaderNumbersFault, IsOffsetFault}
pub use Rattle.raft_records.specs.Item.{command_item, AreInBytes, Content, IsInBytes, Item, Pair, bare, bare_content, bare_entry, command, content_of, entries, entries_item, item_of, pair, pair_item, pair_of, written_value}
pub use Rattle.raft_records.specs.ItemBatch.{AreItems, AreItemsFault, CanRaise, CanRaiseContent, FitTogether, FitsBehind, HasSeal, IsChecksumFault, IsDecoded, IsEncoded, IsItemBatch, IsItemBatchFault, IsKeptBeside, checksum_bytes}
pub use Rattle.raft_records.specs.ItemBatch.{end_of_items, entry_bytes_of, entry_lengths, first_entry, no_checksum, placed_content, placed_item, raised_content, raised_entry, raised_item, signed_crc, with_offsets_from}
unfoldable pub use Rattle.raft_records.specs.ItemBatch.{item_batch_bytes}
pub use Rattle.raft_records.specs.Lines.{AppendsFront, IsNoItemBatch, IsPrintFault, IsTextOf, content_text, entries_text, last_line, line_of}
pub use Rattle.raft_records.specs.LogBatch.{Batch, IsBatchOf, IsLaidOut, IsLogBatch, IsReadable, IsSealedStage, Stage, approximate_length, encoded, encoded_length, entry_block, entry_place, is_open, item_offset, log_batch_bytes, sealed}
pub use Rattle.raft_records.specs.LogBatch.{unsealed_bytes, with_batch, with_entries_added}
unfoldable pub use Rattle.raft_records.specs.LogBatch.{header_bytes}
pub use Rattle.raft_records.specs.LogBatchModel.{stage_of}
pub use Rattle.raft_records.specs.Range.{AreInRange, HasIndex, HasLength, IsContentInRange, IsInRange}
pub use Rattle.raft_records.specs.ReadBatch.{content_shown, item_shown, items_shown, spans_of, spans_taken}
pub use Rattle.raft_records.specs.ReadWords.{AreEntriesRead, AreHeldAs, AreTailsRead, IsChange, IsContentRead, IsHeldAs, IsItemRead, Reached, change_of, content_made, reached, span_of}
pub use Rattle.raft_records.specs.Same.{same_content, same_item, same_items, same_pair}
pub use Rattle.raft_records.specs.Sizes.{AreSmallIndexes, HasSmallIndexes, HaveSmallNumbers, at_most_usize, content_size, entries_size, item_batch_size, item_size, items_size, value_length}
pub use Rattle.raft_records.specs.Spelling.{IsWritableWith, Keeps, byte_string, command_bytes, content_bytes, entries_bytes, item_bytes, pair_bytes, run_bytes, tails_bytes, value_bytes}
pub use Rattle.raft_records.specs.declared.atomic_group.AtomicGroupStatus.{AtomicGroupStatus}
pub use Rattle.raft_records.specs.declared.command.Command.{Command}
pub use Rattle.raft_records.specs.declared.command.Command.TheVariants.{Clean, Compact, Truncate}
pub use Rattle.raft_records.specs.declared.key_value.KeyValue.{KeyValue}
pub use Rattle.raft_records.specs.declared.key_value.OpType.{OpType}
pub use Rattle.raft_records.specs.declared.key_value.OpType.TheVariants.{Del, Put}
pub use Rattle.raft_records.specs.declared.log_batch.BufState.{BufState}
pub use Rattle.raft_records.specs.declared.log_item.LogItem.{LogItem}
pub use Rattle.raft_records.specs.declared.log_item.LogItemContent.{LogItemContent}
pub use Rattle.raft_records.specs.declared.read_batch.ReadContent.{ReadContent}
pub use Rattle.raft_records.specs.declared.read_batch.ReadItem.{ReadItem}

-- the index and the offset behind an entry
abbrev pub behind_entry : ℕ × ℕ → EntryIndex → ℕ × ℕ
behind_entry at e = (at.0 + 1, tail_of e)

-- the entry bytes up to the end of an item
abbrev pub behind_item : ℕ → Item → ℕ
behind_item s item = end_of_content s item.content

-- an entry at this place
abbrev pub placed_entry : FileBlockHandle → CompressionType → EntryIndex → EntryIndex
placed_entry handle compression e = record e { entries = Some handle; compression_type = compression }

-- what is said of this region
abbrev pub item_with : ℕ → Content → Item
item_with region content = record { raft_group_id = region; content = content }

-- what holds of the error that a `?` returns
pub at_exit : {T E : Type 0} {Q P : E → Type 0} (r : Result T E) → IsErrAnd r Q → ((y : E) → Q y → P y) → IfErr r P
at_exit (Ok x) h rest = absurd h
at_exit (Err y) h rest = rest y h
