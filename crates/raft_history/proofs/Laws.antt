-- The lemmas that the laws of this crate state, for the search.
use Rattle.raft_history.proofs.ContextLaws.{agree}
use Rattle.raft_history.proofs.KnownLemmas.{steps_across, known-groups_in}
use Rattle.raft_history.proofs.MergeLaws.{named_across, named-one}
use Rattle.raft_history.proofs.MoreLemmas.{steps-one, groups_in-append, groups_in-one}
use Rattle.raft_history.proofs.NewLaws.{new_exact}
use Rattle.raft_history.proofs.QueueLemmas.{wholes_in_queue}
use Rattle.raft_history.proofs.ReadItemLemmas.{items_in, items_in_file}
use Rattle.raft_history.proofs.ReadingLemmas.{reading_by_region, reading_refused}
use Rattle.raft_history.proofs.ShiftLemmas.{incomplete_changes_nothing}
use Rattle.raft_history.proofs.StretchLemmas.{wholes_differ, effects_are, effects_unique}
use Rattle.raft_history.proofs.StretchOfHistory.{small_front, small_back, sound_front, sound_back, apart_front, apart_back, of_front, of_back}
use Rattle.raft_history.proofs.WaitingLemmas.{merged_waiting}
use Rattle.raft_history.proofs.WithoutMarkers.{named-steps, plain_apart, plain_steps}

pub ruleset effect_laws = (incomplete_changes_nothing, wholes_differ, named-steps, named_across, named-one, steps_across, steps-one, plain_apart, plain_steps, effects_are, effects_unique, groups_in-append, groups_in-one, known-groups_in)

pub ruleset context_laws = (agree, new_exact, wholes_in_queue, merged_waiting)

pub ruleset history_laws = (items_in, reading_by_region, reading_refused, items_in_file, small_front, small_back, sound_front, sound_back, apart_front, apart_back, of_front, of_back)
