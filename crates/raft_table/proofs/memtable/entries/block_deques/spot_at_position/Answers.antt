use Rattle.raft_table.proofs.Facts.{◌<◌, ◌+◌, ◌-◌, ◌≡◌, arith, subst, IsAt, blocks_shown, nat_tests, starts_of, deque_len, starts_kept}
use Rattle.raft_table.proofs.memtable.entries.block_deques.spot_at_position.Goals.{Else-is_empty}
use Rattle.raft_table.proofs.memtable.entries.block_deques.spot_at_position.Goals as goal

starts : (c : Else-is_empty) → c.args.starts.now.items ≡ starts_of c.args.first (blocks_shown c.args.blocks.now.items)
starts c =
    let p : 0 < deque_len c.args.starts.now = grind (arith, nat_tests) in
    starts_kept c.args.first (blocks_shown c.args.blocks.now.items) c.args.starts.now.items c.requires.starts (omega (arith, c.args.starts.now.ok))

pub find_spot-requires : goal.find_spot-requires
find_spot-requires c = (c.args.first, blocks_shown c.args.blocks.now.items, starts (goal.at.find_spot-requires c).Else-is_empty, omega arith, omega (arith, c.requires.within.0))

pub returns : goal.returns
returns c =
    subst (λ z. IsAt z (blocks_shown c.args.blocks.now.items) c.find_spot.result.0 c.find_spot.result.1) (let e : c.args.first + c.args.at - c.args.first ≡ c.args.at = omega arith in e)
    (c.find_spot.ensures c.args.first (blocks_shown c.args.blocks.now.items) (starts (goal.at.returns c).Else-is_empty) (omega arith) (omega (arith, c.requires.within.0)))
