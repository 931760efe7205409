-- Keys with their values, as plain data.
use Rattle.std.specs.Prelude.{ℕ, ◌-◌, ◌^◌, Bool, true, false, List, [], ◌∷◌, ◌++◌, filter, length, flat_map, Option, Some, None}
use Rattle.std.specs.Cmp.Lexicographic.{slice_cmp}
use Rattle.std.specs.List.Sorted.{IsPermutation, IsSortedBy}
use Rattle.std.specs.Ordering.{is_lt, nat_cmp}
use Rattle.raft_base.specs.declared.pipe_log.LogQueue.TheVariants.{Append, Rewrite}
use Rattle.raft_table.specs.KeyValues.{Keys, pairs_up_to}
use Rattle.raft_table.specs.Scan.{is_between}
use Rattle.raft_ffi.specs.Rooms.{IsCopied}

-- the length of each key and of its value, in turn
abbrev pub lengths_of : List (List ℕ × List ℕ) → List ℕ
lengths_of pairs = flat_map (λ p. length p.0 ∷ length p.1 ∷ []) pairs

-- the bytes of each key and of its value, in turn
abbrev pub bytes_of : List (List ℕ × List ℕ) → List ℕ
bytes_of pairs = flat_map (λ p. p.0 ++ p.1) pairs

-- the lengths and the bytes of pairs were found
pub record ArePairsIn (pairs : List (List ℕ × List ℕ)) (old_lens new_lens : List ℕ) (count : ℕ) (old_bytes new_bytes : List ℕ) (len : ℕ) : Type 0 where
  pub lens : IsCopied (lengths_of pairs) old_lens new_lens count
  pub bytes : IsCopied (bytes_of pairs) old_bytes new_bytes len

-- a bound that the flag says is there
abbrev pub bound_in : Bool → List ℕ → Option (List ℕ)
bound_in false key = None
bound_in true key = Some key

-- the pairs in append files, of any number of 64 bits, and those in rewrite files
abbrev pub pairs_of_both : Keys → List (List ℕ × List ℕ)
pairs_of_both keys = pairs_up_to Append (Some (2 ^ 64 - 1)) keys ++ pairs_up_to Rewrite None keys

-- no pair's key is below that of the pair before
abbrev pub AreInKeyOrder : List (List ℕ × List ℕ) → Type 0
AreInKeyOrder pairs = IsSortedBy (λ a b. is_lt (slice_cmp nat_cmp a.0 b.0)) pairs

-- the pairs whose key is at or above the first bound and below the second, in the order of the keys
pub record AreScanned (start : List ℕ) (end : Option (List ℕ)) (keys : Keys) (pairs : List (List ℕ × List ℕ)) : Type 0 where
  pub all : IsPermutation (filter (λ p. is_between (Some start) end p.0) (pairs_of_both keys)) pairs
  pub rising : AreInKeyOrder pairs

-- the pairs between two bounds were found, in the order of the keys
pub record AreScannedIn (start : List ℕ) (end : Option (List ℕ)) (keys : Keys) (old_lens new_lens : List ℕ) (count : ℕ) (old_bytes new_bytes : List ℕ) (len : ℕ) : Type 0 where
  pub pairs : List (List ℕ × List ℕ)
  pub scanned : AreScanned start end keys pairs
  pub found : ArePairsIn pairs old_lens new_lens count old_bytes new_bytes len
