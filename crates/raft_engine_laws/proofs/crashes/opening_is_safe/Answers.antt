use Rattle.raft_engine_laws.proofs.Common.{[], table_of, batches, steps_of, steps_on, steps_of_items}
use Rattle.std.specs.FinMap as finite
use Rattle.raft_engine_laws.proofs.SafeOpenings.{base, safe_told, while_told, at_first, safe_at_once, safe_later, safe_mixed, while_mixed}
use Rattle.raft_engine_laws.proofs.crashes.opening_is_safe.Goals as goal

pub returns-clause-told : goal.returns-clause-told
returns-clause-told c = λ append rewrite found cleaned e sound_append sound_rewrite apart both sound next plain removals told. (
  base append rewrite found cleaned sound_append sound_rewrite apart both sound,
  λ content. safe_told append rewrite found cleaned sound_append sound_rewrite apart both sound content e next plain removals told,
  λ content. while_told append rewrite found cleaned sound_append sound_rewrite apart both sound content e next plain removals told,
  λ content. at_first append rewrite found cleaned sound_append sound_rewrite apart both sound content,
)

pub returns-clause-nothing : goal.returns-clause-nothing
returns-clause-nothing c = λ append rewrite found cleaned sound_append sound_rewrite apart both sound none. (
  base append rewrite found cleaned sound_append sound_rewrite apart both sound,
  λ content. safe_at_once append rewrite found cleaned sound_append sound_rewrite apart both sound content none,
)

pub returns-clause-later : goal.returns-clause-later
returns-clause-later c = λ append rewrite found cleaned sound_append sound_rewrite apart both sound untold later. (
  base append rewrite found cleaned sound_append sound_rewrite apart both sound,
  λ content. safe_later append rewrite found cleaned sound_append sound_rewrite apart both sound content untold later,
)

pub returns-clause-mixed : goal.returns-clause-mixed
returns-clause-mixed c = λ append rewrite found cleaned e sound_append sound_rewrite apart both sound next plain untold each. (
  base append rewrite found cleaned sound_append sound_rewrite apart both sound,
  λ content. safe_mixed append rewrite found cleaned sound_append sound_rewrite apart both sound content e next plain untold each,
  λ content. while_mixed append rewrite found cleaned sound_append sound_rewrite apart both sound content e next plain untold each,
  λ content. at_first append rewrite found cleaned sound_append sound_rewrite apart both sound content,
)
