use Rattle.raft_recover.proofs.Common.{◌≡◌, ◌++◌, codes, string_bytes, drop, flat_map, region_text, cleaned_text}
use Rattle.raft_recover.proofs.recovered.append_cleaned_regions.Given as goal

-- the text so far and the regions that are left make up the whole
abbrev pub invariant-loop-region : goal.invariant-loop-region
invariant-loop-region l =
    string_bytes l.text ++ flat_map region_text (drop l.region-index l.regions) ≡ (string_bytes l.fn.text ++ codes "cleaned") ++ cleaned_text l.regions
