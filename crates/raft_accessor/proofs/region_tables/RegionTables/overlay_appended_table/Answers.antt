use Rattle.std.proofs.Common.{inl, inr}
use Rattle.raft_accessor.proofs.TableJoinLemmas.{put_over_by, not_put}
use Rattle.raft_accessor.proofs.region_tables.RegionTables.overlay_appended_table.Goals as goal

pub returns : goal.returns
returns c = elim c.update_and_keep.ensures.changed [
  | inl ch ↦ put_over_by c.args.mark.now c.args.appended c.args.self.now c.args.id c.args.stats.now c.update_and_keep.result c.update_and_keep.new.self c.update_and_keep.new.stats
      ch.table.now ch.left.now ch.stats.now ch.shows.0 ch.leaves.0 ch.shows.1 ch.met.0 c.update_and_keep.ensures.there c.update_and_keep.ensures.one
      c.update_and_keep.ensures.recounted
  | inr e ↦ not_put c.args.mark.now _ c.args.self.now c.args.id c.args.stats.now c.update_and_keep.result c.update_and_keep.new.self c.update_and_keep.new.stats e.0 c.update_and_keep.ensures.one c.update_and_keep.ensures.recounted
]
