use Rattle.raftlog.proofs.regions.print_all_regions.Goals as goal

pub returns-in-Text-clause-printed : goal.returns-in-Text-clause-printed
returns-in-Text-clause-printed g c = rw c.in-Text.is c.print_text_regions.ensures.printed

pub returns-in-Json-clause-printed : goal.returns-in-Json-clause-printed
returns-in-Json-clause-printed g c = rw c.in-Json.is c.print_json_regions.ensures.printed

pub returns-in-Text-clause-cut_short : goal.returns-in-Text-clause-cut_short
returns-in-Text-clause-cut_short g c = rw c.in-Text.is c.print_text_regions.ensures.cut_short

pub returns-in-Json-clause-cut_short : goal.returns-in-Json-clause-cut_short
returns-in-Json-clause-cut_short g c = rw c.in-Json.is c.print_json_regions.ensures.cut_short
