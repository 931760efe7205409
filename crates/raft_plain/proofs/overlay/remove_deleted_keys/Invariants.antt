use Rattle.raft_plain.proofs.Common.{◌≡◌, false, drop, map, without, deleted_of, has_clean, step_shown, keys_shown}
use Rattle.std.specs.FinSet as finset
use Rattle.raft_plain.proofs.overlay.remove_deleted_keys.Given as goal

abbrev pub invariant-loop-step : goal.invariant-loop-step
invariant-loop-step l = record {
  uncleaned : has_clean (map (λ s. step_shown s.now) (drop l.step-index l.steps)) ≡ false;
  left : without (deleted_of finset.empty (map (λ s. step_shown s.now) (drop l.step-index l.steps))) (keys_shown l.keys) ≡ without (deleted_of finset.empty (map (λ s. step_shown s.now) l.steps)) (keys_shown l.fn.keys);
}
