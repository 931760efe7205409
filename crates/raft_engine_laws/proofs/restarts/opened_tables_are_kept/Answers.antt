use Rattle.raft_engine_laws.proofs.OpenedFiles.{opened}
use Rattle.raft_engine_laws.proofs.restarts.opened_tables_are_kept.Goals as goal

pub returns : goal.returns
returns c = λ content append rewrite found cleaned e sound_append sound_rewrite both sound next plain removals told. opened content append rewrite found cleaned sound_append sound_rewrite both sound e next plain removals told
