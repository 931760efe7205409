-- What a refusal says of a run that leaves a hole.
use Rattle.std.specs.Prelude.{ℕ, List, ◌++◌, codes}
use Rattle.std.specs.Fmt.{decimal}

-- the region, what is known of where the run starts, in words and by an index, and the end of the entries
abbrev pub hole_text_from : ℕ → List ℕ → ℕ → ℕ → List ℕ
hole_text_from region words index end =
    codes "region " ++ (decimal region ++ (codes ": a run from " ++ (words ++ (decimal index ++ (codes " on leaves a hole behind the entries, which end before index " ++ decimal end)))))

-- a run of a region from this index on, after entries with this end
abbrev pub hole_text : ℕ → ℕ → ℕ → List ℕ
hole_text region start end = hole_text_from region (codes "index ") start end

-- a run of which is known alone that it starts above this index
abbrev pub hole_text_above : ℕ → ℕ → ℕ → List ℕ
hole_text_above region below end = hole_text_from region (codes "above index ") below end
