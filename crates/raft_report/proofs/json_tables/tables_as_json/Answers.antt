use Rattle.raft_report.proofs.Common.{◌++◌, ◌∙◌, ℕ, List, ap, map, flat_map, json_line, table_json, totals_data, images_rise, IsPermutation-map, IsPermutation-sym, IsPermutation-trans}
use Rattle.raft_report.proofs.json_tables.tables_as_json.Goals as goal

pub returns-clause-ok : goal.returns-clause-ok
returns-clause-ok c =
    let moved = IsPermutation-map (λ t. t.now) c.in_ok-tables.tables.items c.sort_by_region.new.tables.items c.sort_by_region.ensures.moved in
    let lines = rw (c.as_slice.ensures.value) at c.in_ok-append_json_tables.ensures in
    record {
      tables = map (λ t. t.now) c.sort_by_region.new.tables.items;
      by_region = record {
        all = IsPermutation-trans _ _ _ (IsPermutation-sym _ _ moved) c.in_ok-tables.ensures.tables;
        rising = images_rise (λ t. t.now) (λ t. t.region_id) c.sort_by_region.new.tables.items c.sort_by_region.ensures.rises;
      };
      lines =
          c.in_ok-append_json_totals.ensures
          ∙ ap (λ (t : List ℕ). t ++ json_line (totals_data c.args.accessor.now))
          (lines ∙ ap (λ (t : List ℕ). t ++ flat_map table_json (map (λ t. t.now) c.sort_by_region.new.tables.items)) c.new-text.ensures.bytes);
    }
