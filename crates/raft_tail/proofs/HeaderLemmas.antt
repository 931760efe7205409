-- On headers that are looked at.
use Rattle.raft_tail.proofs.Common.{◌≡◌, ◌≢◌, ℕ, ◌/◌, ◌%◌, ◌<◌, ◌≤◌, ◌⊎◌, List, inl, inr, uncompressed, IsBig, HasNoFront, Reads, header_read, offset_in_header, offset_past_end, unknown_type, HasHeader, IsHeader}

pub header_seen : {bytes behind rest : List ℕ} {first second : ℕ} → Reads (IsBig 8) bytes behind first → Reads (IsBig 8) behind rest second →
    first % 256 ≡ 0 → second ≤ first / 256 → 16 ≤ second → HasHeader bytes second (first / 256)
header_seen {bytes} {behind} {rest} {first} {second} a b type inside behind_header =
    record { compression = uncompressed; rest = rest; header = header_read bytes behind rest first second uncompressed a b type inside behind_header }

pub no_header_seen : {bytes behind rest : List ℕ} {first second : ℕ} → Reads (IsBig 8) bytes behind first → Reads (IsBig 8) behind rest second →
    (first % 256 ≢ 0) ⊎ (first / 256 < second) ⊎ (second < 16) → HasNoFront IsHeader bytes
no_header_seen {bytes} {behind} {rest} {first} {second} a b (inl type) = unknown_type bytes behind rest first second a b type
no_header_seen {bytes} {behind} {rest} {first} {second} a b (inr (inl past)) = offset_past_end bytes behind rest first second a b past
no_header_seen {bytes} {behind} {rest} {first} {second} a b (inr (inr low)) = offset_in_header bytes behind rest first second a b low
