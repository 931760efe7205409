use Rattle.raft_engine_laws.proofs.Common.{[]}
use Rattle.raft_engine_laws.proofs.OpenedFiles.{nothing_again}
use Rattle.raft_engine_laws.proofs.openings.a_second_opening_needs_to_tell_nothing.Goals as goal

pub returns : goal.returns
returns c = λ append rewrite found cleaned e sound_append sound_rewrite both sound next plain removals told others again too. nothing_again (λ x. []) append rewrite found cleaned sound_append sound_rewrite both sound e next plain removals told others again too
