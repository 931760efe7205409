-- What proofs of this crate import of std, of the definitions and of the crates below, in one place.
pub use Rattle.std.proofs.Common.{Bool, Err, IfOk, IsTrue, List, None, Ok, Option, Result, Some, [], ap, append-nil, append_assoc, arith, bit_xor, drop, false, inl, inr, length, length-append, map, nat_eq, not, refl, subst, sym, take, true, ℕ, ◌%◌, ◌++◌, ◌+◌, ◌-◌, ◌/◌, ◌<◌, ◌^◌}
pub use Rattle.std.proofs.Common.{◌↔◌, ◌∙◌, ◌∷◌, ◌≡◌, ◌≢◌, ◌≤◌, ◌⊎◌}
pub use Rattle.std.proofs.lemmas.Bool.{cases_lt, eq-eqb, eqb-true}
pub use Rattle.std.proofs.lemmas.List.{append_cancel_left, drop-append-le, drop_at, length-drop, length_push, take-append-drop, take-append-le, take_at}
pub use Rattle.std.proofs.lemmas.Nat.{xor_of_32}
pub use Rattle.std.specs.Int.Bits.{xor_assoc, xor_self, xor_zero_l}
pub use Rattle.std.specs.List.{flat_map}
pub use Rattle.std.specs.Option.{MatchOption}
pub use Rattle.byteorder.specs.Endian.{little_bytes}
pub use Rattle.raft_base.specs.Signature.{signature_in, signature_of}
pub use Rattle.raft_base.specs.declared.compression_type.CompressionType.{CompressionType}
pub use Rattle.raft_base.specs.declared.compression_type.CompressionType.TheVariants.{None as uncompressed}
pub use Rattle.raft_base.specs.declared.entry_index.EntryIndex.{EntryIndex}
pub use Rattle.raft_base.specs.declared.pipe_log.FileId.{FileId}
pub use Rattle.raft_base.specs.declared.pipe_log.Version.{Version}
pub use Rattle.raft_base.specs.declared.pipe_log.Version.TheVariants.{V1, V2}
pub use Rattle.raft_checksum.specs.Checksum.{crc32_of}
pub use Rattle.raft_codec.proofs.FixedLemmas.{IsReadAgain-little_bytes}
pub use Rattle.raft_codec.proofs.ReadingLemmas.{no_second, pair_one_front}
pub use Rattle.raft_codec.proofs.SequenceLemmas.{sequence_one_front}
pub use Rattle.raft_codec.proofs.VarintLemmas.{varint_one_front}
pub use Rattle.raft_codec.specs.Fixed.{IsBig, IsLittle}
pub use Rattle.raft_codec.specs.Reading.{HasNoFront, HasOneFront, IsSequence, Reads}
pub use Rattle.raft_codec.specs.Varint.{IsVarint, varint}
pub use Rattle.raft_records.proofs.BatchLemmas.{counted_read, end_push, no_more_items, one_more_item}
pub use Rattle.raft_records.proofs.BufferLemmas.{header_len}
pub use Rattle.raft_records.proofs.ContentLemmas.{command_content, entries_content, item_one_front, item_read, no_content, no_entries, pair_content}
pub use Rattle.raft_records.proofs.EntryLemmas.{AreReadSoFar, end_is, entries_read, no_count, no_first_index, no_more_tails, no_run, no_tail, no_tails, one_more_tail, run_read}
pub use Rattle.raft_records.proofs.FrameLemmas.{count_le, header_one, log_batch_length}
pub use Rattle.raft_records.proofs.HeaderLemmas.{header_read, offset_in_header, offset_past_end, too_short_for_header, unknown_type}
pub use Rattle.raft_records.proofs.ItemLemmas.{same_length}
pub use Rattle.raft_records.proofs.PartLemmas.{batch_inside, cut_short, no_header, no_item_batch}
pub use Rattle.raft_records.proofs.SealLemmas.{all_four, four}
pub use Rattle.raft_records.proofs.WrittenLemmas.{batch_spelled}
pub use Rattle.raft_records.specs.Entries.{entry_between}
pub use Rattle.raft_records.specs.FilePart.{HasHeader, Part}
pub use Rattle.raft_records.specs.Grammar.{AreTails, IsCommand, IsItem, IsKeyValue, IsTail, end_of_content}
pub use Rattle.raft_records.specs.Header.{IsHeader}
pub use Rattle.raft_records.specs.Item.{Item, bare, command, entries, pair}
pub use Rattle.raft_records.specs.ItemBatch.{AreItems, IsItemBatch, checksum_bytes, end_of_items, placed_item, signed_crc}
unfoldable pub use Rattle.raft_records.specs.ItemBatch.{item_batch_bytes}
pub use Rattle.raft_records.specs.LogBatch.{IsBatchOf, IsLaidOut, IsReadable, encoded_length, entry_block, header_bytes, item_offset, log_batch_bytes, unsealed_bytes}
pub use Rattle.raft_records.specs.Range.{AreInRange}
pub use Rattle.raft_records.specs.Spelling.{item_bytes}
pub use Rattle.raft_tail.specs.Passing.{AreCounted, BeginsWhole, ContentPasses, EntriesPass, IsItemSigner, IsSigner, ItemPasses, Passes, TailsPass}
pub use Rattle.raft_tail.specs.Tails.{AreWhole, IsBroken, IsElsewhere, IsNowhere, IsSignedFor, IsSoundAt, in_file}
