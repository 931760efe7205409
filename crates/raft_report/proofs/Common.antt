-- What proofs of this crate import of std, of the definitions and of the crates below, in one place.
pub use Rattle.std.proofs.Common.{Bool, List, MatchBool, MatchOption, None, Option, Some, [], ap, append-nil, append_assoc, arith, codes, decimal, drop, false, inl, inr, map, option_copied, refl, rules, slice_get, string_bytes, subst, sym, true, ℕ, ◌++◌, ◌+◌, ◌∙◌, ◌∷◌, ◌≡◌, ◌≢◌}
pub use Rattle.std.proofs.lemmas.List.{drop_all, drop_more}
pub use Rattle.std.proofs.lemmas.List.Sorted.{IsNonDecreasingBy-from_sort_by_key, IsPermutation-map, IsPermutation-sym, IsPermutation-trans}
pub use Rattle.std.proofs.lemmas.Result.{on_ok_weaker}
pub use Rattle.std.specs.List.{flat_map}
pub use Rattle.hex.specs.Hex.{encode_lower}
unfoldable pub use Rattle.serde_json.proofs.OnLiterals.{serde_json_on_literals}
pub use Rattle.serde_json.specs.Data.{Data, Members, array, boolean, member, no_members, null, number, object, string}
pub use Rattle.serde_json.specs.View.{items_of}
pub use Rattle.serde_json.specs.Written.{comma_if, compact_text, items_text, members_text}
pub use Rattle.raft_accessor.specs.Accessor.{Accessor}
unfoldable pub use Rattle.raft_base.specs.Runs.{end_of}
pub use Rattle.raft_base.specs.declared.entry_index.EntryIndex.{EntryIndex}
pub use Rattle.raft_base.specs.declared.errors.Error.{Error}
pub use Rattle.raft_base.specs.declared.pipe_log.LogQueue.{LogQueue}
pub use Rattle.raft_base.specs.declared.pipe_log.LogQueue.TheVariants.{Append, Rewrite}
pub use Rattle.raft_listing.specs.Dumped.{Adds, MarksGroup, has_index}
pub use Rattle.raft_listing.specs.LossWords.{loss_words}
pub use Rattle.raft_listing.specs.Missing.{missing_between}
pub use Rattle.raft_listing.specs.ReadBlocks.{IsReadOf}
pub use Rattle.raft_listing.specs.Reasons.{reason_text}
pub use Rattle.raft_listing.specs.declared.blocks.BytesOfEntry.{BytesOfEntry}
pub use Rattle.raft_listing.specs.declared.blocks.BytesOfEntry.TheVariants.{Lost, Read}
pub use Rattle.raft_listing.specs.declared.damage.Damage.{Damage}
pub use Rattle.raft_listing.specs.declared.damage.Loss.{Loss}
pub use Rattle.raft_listing.specs.declared.scan.FileScan.{FileScan}
pub use Rattle.raft_listing.specs.declared.selection.Selection.{Selection}
pub use Rattle.raft_reading.specs.declared.queue_files.FileSize.{FileSize}
pub use Rattle.raft_records.specs.FilePart.{Part}
pub use Rattle.raft_recover.proofs.OrderLemmas.{images_rise}
pub use Rattle.raft_records.specs.Item.{Item, Pair, item_of, pair_of}
pub use Rattle.raft_records.specs.declared.atomic_group.AtomicGroupStatus.{AtomicGroupStatus}
pub use Rattle.raft_table.specs.Counts.{live}
pub use Rattle.raft_table.specs.TableEntries.{start_of}
pub use Rattle.raft_report.specs.JsonData.{MemberList, count, json_line, list_of, members_of, object_of}
pub use Rattle.raft_report.specs.JsonItems.{AreEntryData, AreItemLines, IsChangeData, IsContentsMember, IsEntriesData, IsEntryData, IsSelectedItemLine, block_member, bytes_member, change_data, entries_data, entries_member, entry_data, group_member, index_members, item_data}
pub use Rattle.raft_report.specs.JsonItems.{key_member, last_index, length_member, lost_entry_data, op_member, place_data, read_data, value_member}
pub use Rattle.raft_report.specs.JsonLines.{damage_data, first_of, kept_data, key_value_data, last_of, live_in, lost_data, missing_data, missing_files_json, missing_json, no_files_data, queue_data, regions_of, scan_data, table_back, table_front, table_json, totals_data, unreadable_data}
pub use Rattle.raft_report.specs.JsonLines.{use_data, uses_json}
pub use Rattle.raft_report.specs.JsonPieces.{AreJoined, AreTrailed, IsTextOf, item_back, item_front, member_text, place_front, trailed}
pub use Rattle.raft_report.specs.declared.uses.FileUse.{FileUse}
