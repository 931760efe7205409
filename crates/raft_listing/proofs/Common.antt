-- What proofs of this crate import of std, of the definitions and of the crates below, in one place.
pub use Rattle.std.proofs.Common.{Err, IfNone, IfSome, IsAscii, IsUtf8, List, MatchOption, None, Ok, OnOk, Option, Result, Some, [], ap, append-nil, append_assoc, arith, codes, drop, encode_utf8, encode_utf8_all, false, filter, if◌then◌else◌, inl, inr, is_ok, leb, length, map}
pub use Rattle.std.proofs.Common.{min, refl, rules, slice_get, string_bytes, subst, suc, sym, true, zero, ℕ, ◌++◌, ◌+◌, ◌-◌, ◌<◌, ◌^◌, ◌↔◌, ◌∙◌, ◌∷◌, ◌≡◌, ◌≢◌, ◌≤◌, ◌⊎◌}
pub use Rattle.std.proofs.lemmas.Bool.Decides.{leb_tells}
pub use Rattle.std.proofs.lemmas.List.{drop_all, drop_more, nil_from_length}
pub use Rattle.std.proofs.lemmas.Result.{on_ok_weaker}
pub use Rattle.std.proofs.lemmas.Str.{IsUtf8-from_ascii, IsUtf8-past_char, chars-nil, chars_past_char}
pub use Rattle.std.specs.List.{AllByRecursion}
pub use Rattle.std.specs.Str.Iter.{chars_rest}
pub use Rattle.raft_base.specs.Signature.{signature_in}
pub use Rattle.raft_base.specs.declared.entry_index.EntryIndex.{EntryIndex}
pub use Rattle.raft_base.specs.declared.errors.Error.{Error}
pub use Rattle.raft_codec.specs.Reading.{HasNoFront}
pub use Rattle.raft_records.specs.FilePart.{HasHeader, IsNextFault, Part}
pub use Rattle.raft_records.specs.Group.{marker_byte}
pub use Rattle.raft_records.specs.Item.{Item, Pair, item_of, pair_of}
pub use Rattle.raft_records.specs.LogBatch.{IsReadable}
pub use Rattle.raft_records.specs.declared.atomic_group.AtomicGroupStatus.{AtomicGroupStatus}
pub use Rattle.raft_records.specs.declared.atomic_group.AtomicGroupStatus.TheVariants.{Begin, End, Middle}
pub use Rattle.raft_listing.specs.Dumped.{Adds, AreContents, AreEntryLines, AreItemTexts, HasBytes, IsEntriesText, IsEntryShown, IsMetText, IsPairText, IsPrintable, IsSelectedLine, IsSelectedText, IsShown, IsValueText, MarksGroup, damage_line, entries_line, file_words, has_one}
pub use Rattle.raft_listing.specs.Dumped.{lost_text, op_words, status_words}
pub use Rattle.raft_listing.specs.LossWords.{loss_words}
pub use Rattle.raft_listing.specs.ReadBlocks.{AreBytesShown, IsReadOf}
pub use Rattle.raft_listing.specs.Reasons.{in_line, reason_text, unbroken}
pub use Rattle.raft_listing.specs.ScanSums.{IsDamage, IsDeadEnd, IsSummedUp, is_batch}
pub use Rattle.raft_listing.specs.Scanned.{AreLost, AreSaidOf, AreSaidOfEntries, IsScanned, batches_after, read_after, unseen_after}
pub use Rattle.raft_listing.specs.SoundParts.{CanBeRead, IsLossOf}
pub use Rattle.raft_listing.specs.Stretches.{IsItemSaid, IsLossIn, IsTakenIn, said_of_stretch, stretch_of}
pub use Rattle.raft_listing.specs.Walks.{AreVisited, EndsByHeader, EndsNowhere, HasWalked, IsMet, IsVisited, IsWalkFrom, Met, batch, damage}
pub use Rattle.raft_listing.specs.declared.blocks.BytesOfEntry.{BytesOfEntry}
pub use Rattle.raft_listing.specs.declared.blocks.BytesOfEntry.TheVariants.{Lost, Read}
pub use Rattle.raft_listing.specs.declared.damage.Damage.{Damage}
pub use Rattle.raft_listing.specs.declared.damage.Loss.{Loss}
pub use Rattle.raft_listing.specs.declared.scan.FileScan.{FileScan}
pub use Rattle.raft_listing.specs.declared.scan.Stretch.{Stretch}
pub use Rattle.raft_listing.specs.declared.selection.Selection.{Selection}
