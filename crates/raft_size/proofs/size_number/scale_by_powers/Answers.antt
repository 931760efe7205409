use Rattle.std.proofs.Common.{◌∙◌}
use Rattle.raft_size.proofs.SizeScalingLemmas.{scaled_down, scaled_up}
use Rattle.raft_size.proofs.size_number.scale_by_powers.Goals as goal

pub returns-then-up-down : goal.returns-then-up-down
returns-then-up-down c = c.divide_by_power.ensures ∙ scaled_down c.args.value c.args.up c.args.down c.if-up-down.true

pub returns-else-up-down : goal.returns-else-up-down
returns-else-up-down c = c.multiply_by_power.ensures ∙ scaled_up c.args.value c.args.up c.args.down c.if-up-down.false
