-- What proofs of this crate import of std, of the definitions and of the crates below, in one place.
pub use Rattle.std.proofs.Common.{List, Ordering, [], add-one, ap, append_assoc, arith, bit_xor, drop, get_or, inl, inr, length, negsuc, pos, refl, set, subst, suc, sym, take, w16, w32, w64, zero, ℕ, ℤ, ◌%◌, ◌*◌, ◌++◌, ◌+ℤ◌, ◌+◌, ◌-◌, ◌/◌}
pub use Rattle.std.proofs.Common.{◌<◌, ◌^◌, ◌∙◌, ◌∷◌, ◌≡◌, ◌≤◌}
pub use Rattle.std.proofs.Math.Arith.{mod-mul}
pub use Rattle.std.proofs.Math.Facts.{Fits-of_z}
pub use Rattle.std.proofs.Math.Nat.{div-one, mod-eq_of_lt, mod-lt, mul-le-mul_left, mul-le-mul_right, one-le-pow, pow-le-pow_right, pow-suc, pow-succ'}
pub use Rattle.std.proofs.Math.Seq.{take-append_seam}
pub use Rattle.std.proofs.lemmas.Bool.{cases_lt}
pub use Rattle.std.proofs.lemmas.Bool.Decides.{nat_tests}
pub use Rattle.std.proofs.lemmas.Cmp.{ranked}
pub use Rattle.std.proofs.lemmas.Int.{ints, to_z-of_z}
pub use Rattle.std.proofs.lemmas.List.{append-nil, append_cancel_left, drop_more, get_or-take, get_or_past, length-append, length-drop, length-take, length-take-le, take-append-drop, take_all, take_more, take_more_set, take_rest}
pub use Rattle.std.proofs.lemmas.Nat.{be_bytes_2, be_bytes_4, be_bytes_8, le_bytes_2, le_bytes_4, le_bytes_8, pow-add, shl_whole}
pub use Rattle.std.specs.Cmp.{nat_cmp_is}
pub use Rattle.std.specs.Cmp.Lexicographic.{slice_cmp}
pub use Rattle.std.specs.Int.{Width, byte_at, byte_len, cast_signed, cast_unsigned, from_be_bytes, from_le_bytes}
pub use Rattle.std.specs.Int.Bits.{xor_assoc, xor_comm, xor_self, xor_shifted, xor_zero_r}
pub use Rattle.std.specs.Ordering.{int_cmp, nat_cmp, ordering_then}
pub use Rattle.std.specs.Prelude.{FitsSigned}
pub use Rattle.byteorder.specs.Endian.{big_bytes, big_number, little_bytes, little_number}
pub use Rattle.byteorder.specs.Numbers.{big_number-reads_back, length-bytes_high_first, length-bytes_low_first, little_number-reads_back}
pub use Rattle.raft_codec.specs.Fixed.{IsBig, IsLittle, IsReadAgain, IsSpelledBy, complement, i64_bytes, i64_desc_bytes, sign_flipped, signed_le_bytes, u64_desc_bytes}
pub use Rattle.raft_codec.specs.Reading.{HasNoFront, HasOneFront, IsFollowedBy, IsSequence, IsSequenceFault, IsTagged, Reads, state_after}
pub use Rattle.raft_codec.specs.Varint.{AllContinue, EndsEarly, IsContinued, IsShortVarint, IsTooLong, IsVarint, base_128}
unfoldable pub use Rattle.raft_codec.specs.Varint.{septets_of, varint}
pub use Rattle.raft_codec.specs.Zigzag.{zigzag}
