use Rattle.raft_plain.proofs.Common.{◌≡◌, List, Option, Some, sym, ap, ◌∙◌, map, region_step_shown, RegionStep, OpenStretch, carried_stretch, with_stretch, stretch_shown, stretches_shown}
use Rattle.std.specs.Prelude.{option_map}
use Rattle.std.specs.FinMap as finite
use Rattle.raft_plain.proofs.WaitLemmas.{wait_put}
use Rattle.raft_plain.proofs.groups.apply_marker.Goals as goal

pub returns-in_ok-insert-in-Begin-clause-waiting : goal.returns-in_ok-insert-in-Begin-clause-waiting
returns-in_ok-insert-in-Begin-clause-waiting c =
    rw (c.in-Some.is, c.in-Begin.is)
    (wait_put (stretches_shown c.args.waiting) c.take_stretch-own.result.1 c.insert.new.self c.in-Some.group (record { first_seq = c.args.seq; steps = c.args.steps })
    c.take_stretch-own.ensures.ordered c.insert.ensures.ordered c.take_stretch-own.ensures.others c.in_ok-insert-in-Begin.ensures.entries)

pub returns-in_ok-insert-in-Some-own-clause-waiting : goal.returns-in_ok-insert-in-Some-own-clause-waiting
returns-in_ok-insert-in-Some-own-clause-waiting c =
    let m = stretches_shown c.args.waiting in
    let old : finite.get m c.in-Some.group ≡ Some (stretch_shown c.in-Some-own.stretch) = sym c.take_stretch-own.ensures.own ∙ ap (option_map stretch_shown) c.in-Some-own.is in
    rw (c.in-Some.is, c.in-Middle.is)
    (wait_put m c.take_stretch-own.result.1 c.insert-in-Some-own.new.self c.in-Some.group (record { first_seq = c.in-Some-own.stretch.first_seq; steps = c.in_ok-steps-in-Some-own.steps })
    c.take_stretch-own.ensures.ordered c.insert-in-Some-own.ensures.ordered c.take_stretch-own.ensures.others c.in_ok-insert-in-Some-own.ensures.entries
    ∙ ap (λ (l : List RegionStep). finite.insert m c.in-Some.group (record { first_seq = c.in-Some-own.stretch.first_seq; steps = l })) c.in_ok-steps-in-Some-own.ensures
    ∙ ap (λ (x : Option OpenStretch). with_stretch m c.in-Some.group (carried_stretch x (map region_step_shown c.args.steps.items))) (sym old))
