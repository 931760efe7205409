use Rattle.raft_opening.proofs.Common.{refl, arith, ℕ, List, subst, AreNamed}
use Rattle.raft_opening.proofs.OnceLemmas.{last_torn, last_whole}
use Rattle.raft_opening.proofs.last_file.replay_last.Goals as goal

pub returns-in_default : goal.returns-in_default
returns-in_default g c =
    let named = subst (λ (begins : List ℕ). AreNamed c.args.file.now.id begins c.in_ok-damaged.damaged.items) c.as_slice.ensures.value c.in_ok-damaged.ensures.ok in
    last_whole (g.S.ReadFiles.gives c.args.source.now c.args.file.now.id) c.args.mode c.args.file.now c.args.len g.M.ReplayMachine.stands_for g.M.ReplayMachine.stands_exactly c.args.machine.now c.replay_prefix.new.machine c.in_ok-read.read c.in_ok-read.ensures
    c.in_ok-damaged.damaged named c.in_default.is

pub read_tail-requires : goal.read_tail-requires
read_tail-requires g c = let p = c.in_ok-read.ensures in let ends = p.ends in let inside = p.inside in (record { shared = λ x b o. c.type_bounds.sync-S.shared x b o }, omega (arith, ends, inside))

pub returns : goal.returns
returns g c =
    let named = subst (λ (begins : List ℕ). AreNamed c.args.file.now.id begins c.in_ok-damaged.damaged.items) c.as_slice.ensures.value c.in_ok-damaged.ensures.ok in
    last_torn (g.S.ReadFiles.gives c.args.source.now c.args.file.now.id) c.args.mode c.args.file.now c.args.len g.M.ReplayMachine.stands_for g.M.ReplayMachine.stands_exactly c.args.machine.now c.replay_prefix.new.machine c.in_ok-read.read c.in_ok-read.ensures
    c.in_ok-damaged.damaged named c.in-Some.error c.in-Some.is c.in_ok-rest.rest c.in_ok-rest.ensures _ refl c.in_ok-check_rest.ensures.tolerated c.in_ok-check_rest.ensures.of_version
