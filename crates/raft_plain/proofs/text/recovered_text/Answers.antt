use Rattle.raft_plain.proofs.Common.{◌≡◌, ◌++◌, ◌-◌, ap, ◌∙◌, arith, decimal, codes, string_bytes, three_parts, all_tables}
use Rattle.raft_plain.proofs.TextLemmas.{tables_are_all, tables_rise}
use Rattle.raft_plain.proofs.text.recovered_text.Goals as goal

pub returns : goal.returns
returns c =
    let r = c.args.recovered.now in
    let same : r.rewrite ≡ r.rewrite - 0 = omega arith in
    record {
      tables = all_tables r.regions;
      by_region = record { all = tables_are_all r.regions.entries c.append_regions.ensures.ordered; rising = tables_rise r.regions.entries c.append_regions.ensures.ordered };
      lines = three_parts _ _ _ _ _ _ _ c.new-text.ensures.bytes c.in_ok-append_regions.ensures.lines (rw (c.as_slice.ensures.value) at c.in_ok-append_cleaned_regions.ensures)
          (c.in_ok-append_live_counts.ensures ∙ ap (λ n. string_bytes c.append_cleaned_regions.new.text ++ (codes "live " ++ decimal r.append ++ codes " " ++ decimal n ++ codes "\n")) same);
    }
