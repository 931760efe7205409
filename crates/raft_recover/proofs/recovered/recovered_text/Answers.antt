use Rattle.raft_recover.proofs.Common.{map, IsPermutation-map, IsPermutation-sym, IsPermutation-trans}
use Rattle.raft_recover.proofs.OrderLemmas.{images_rise, three_parts}
use Rattle.raft_recover.proofs.recovered.recovered_text.Goals as goal

pub returns-clause-ok : goal.returns-clause-ok
returns-clause-ok c =
    let moved = IsPermutation-map (λ t. t.now) c.in_ok-tables.tables.items c.sort_by_region.new.tables.items c.sort_by_region.ensures.moved in
    let lines = rw (c.as_slice.ensures.value) at c.in_ok-append_tables.ensures in
    let cleaned = rw (c.cleaned_regions.ensures) at c.in_ok-append_cleaned_regions.ensures in
    let live = rw (c.stats.ensures) at c.in_ok-append_live_counts.ensures in
    record {
      tables = map (λ t. t.now) c.sort_by_region.new.tables.items;
      by_region = record {
        all = IsPermutation-trans _ _ _ (IsPermutation-sym _ _ moved) c.in_ok-tables.ensures.tables;
        rising = images_rise (λ t. t.now) (λ t. t.region_id) c.sort_by_region.new.tables.items c.sort_by_region.ensures.rises;
      };
      lines = three_parts _ _ _ _ _ _ _ c.new-text.ensures.bytes lines cleaned live;
    }
