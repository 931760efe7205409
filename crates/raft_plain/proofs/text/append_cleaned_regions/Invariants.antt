use Rattle.raft_plain.proofs.Common.{◌≡◌, ◌++◌, drop, flat_map, codes, string_bytes, cleaned_text, region_text}
use Rattle.raft_plain.proofs.text.append_cleaned_regions.Given as goal

-- the text so far and the regions that are left make up the whole
abbrev pub invariant-loop-region : goal.invariant-loop-region
invariant-loop-region l =
    string_bytes l.text ++ flat_map region_text (drop l.region-index l.cleaned) ≡ (string_bytes l.fn.text ++ codes "cleaned") ++ cleaned_text l.cleaned
