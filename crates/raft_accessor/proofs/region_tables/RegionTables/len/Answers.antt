use Rattle.std.proofs.Common.{sym, ap, ◌∙◌}
use Rattle.std.specs.FinMap as finite
use Rattle.raft_accessor.proofs.TotalSums.{len-from}
use Rattle.raft_accessor.proofs.region_tables.RegionTables.len.Goals as goal

pub returns : goal.returns
returns c = c.len.ensures.len ∙ sym (len-from c.self.inside.tables.entries c.len.ensures.unique) ∙ ap (λ m. finite.len m) c.self.view_is
