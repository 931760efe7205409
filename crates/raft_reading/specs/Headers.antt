-- Where headers lead, and which bytes decide whether a batch stands in front.
use Rattle.std.specs.Prelude.{◌≡◌, ◌⊎◌, ℕ, ◌+◌, ◌<◌, ◌≤◌, List, [], ◌∷◌, length, drop}
use Rattle.raft_records.specs.FilePart.{HasHeader}

-- headers of batches of these lengths stand one after the other, from the first byte up to the second
abbrev pub StandHeaders : List ℕ → ℕ → List ℕ → ℕ → Type 0
StandHeaders bytes from [] end = from ≡ end
StandHeaders bytes from (len ∷ lens) end =
    ((offset : ℕ) × HasHeader (drop from bytes) offset len) × StandHeaders bytes (from + len) lens end

-- headers lead from the first of the bytes up to this one
abbrev pub HeadersLead : List ℕ → ℕ → Type 0
HeadersLead bytes end = (lens : List ℕ) × StandHeaders bytes 0 lens end

-- no header in front says of a batch that it is whole in these bytes
abbrev pub NoneIsWhole : List ℕ → Type 0
NoneIsWhole bytes = (offset len : ℕ) → HasHeader bytes offset len → length bytes < len

-- no more bytes, at most so many, make the batch in front whole: there are none; or a header would stand in front, and doesn't; or its batch is longer
abbrev pub IsHopeless : List ℕ → ℕ → Type 0
IsHopeless bytes left =
    (left ≡ 0) ⊎ ((16 ≤ length bytes) × ((offset len : ℕ) → HasHeader bytes offset len → length bytes + left < len))
