use Rattle.raft_accessor.proofs.Common.{Some, sym, ap, ◌∙◌, option_copied}
use Rattle.raft_accessor.proofs.RegionTablesLemmas.{get-shown}
use Rattle.raft_accessor.proofs.region_tables.RegionTables.get.Goals as goal

pub returns-in-Some-clause-value : goal.returns-in-Some-clause-value
returns-in-Some-clause-value c = ap Some c.get-in-Some.ensures ∙ sym (ap option_copied c.in-Some.is) ∙ c.get.ensures.value ∙ sym (get-shown c.self.inside c.args.self.now c.args.id c.self.view_is)

pub returns-in-None-clause-value : goal.returns-in-None-clause-value
returns-in-None-clause-value c = sym (ap option_copied c.in-None.is) ∙ c.get.ensures.value ∙ sym (get-shown c.self.inside c.args.self.now c.args.id c.self.view_is)
