use Rattle.raft_plain.proofs.Common.{sym, ap, ◌∙◌, map, drop_of_length-le, without, deleted_of, step_shown, keys_shown}
use Rattle.std.specs.FinSet as finset
use Rattle.raft_plain.proofs.OverlayLemmas.{without_none}
use Rattle.raft_plain.proofs.overlay.remove_deleted_keys.Goals as goal

pub returns : goal.returns
returns c =
    sym (without_none (keys_shown c.loop-step.keys))
    ∙ ap (λ ss. without (deleted_of finset.empty (map (λ s. step_shown s.now) ss)) (keys_shown c.loop-step.keys)) (sym (drop_of_length-le c.args.steps.now c.loop-step-test.false))
    ∙ c.loop-step.invariant.left
