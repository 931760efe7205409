use Rattle.std.proofs.Common.{◌^◌, ◌≤◌, sym, arith}
use Rattle.raft_size.proofs.SizeScalingLemmas.{pow-le, pow_pos, lowered_away}
use Rattle.raft_size.proofs.size_number.divide_by_power.Goals as goal

pub pow-requires : goal.pow-requires
pow-requires c =
    let below : 10 ^ c.args.power ≤ 10 ^ 37 = pow-le c.args.power 37 (omega arith) in
    omega arith

pub nonzero_div-value : goal.nonzero_div-value
nonzero_div-value c = omega (arith, pow_pos c.args.power)

pub returns-else-power-lt37 : goal.returns-else-power-lt37
returns-else-power-lt37 c = sym (lowered_away c.args.value c.args.power c.requires c.if-power-lt37.false)
