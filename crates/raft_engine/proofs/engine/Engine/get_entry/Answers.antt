use Rattle.raft_engine.proofs.Common.{rules, ◌≡◌, List, Some, sym, entry_at, Ask, table_in}
use Rattle.raft_engine.proofs.KeptMoves.{kept_read}
use Rattle.raft_engine.proofs.ReadKept.{got_content, read_only, unread_only}
use Rattle.raft_engine.proofs.engine.Engine.get_entry.Goals as goal

pub invariant_of-self : goal.invariant_of-self
invariant_of-self g c =
    let e = c.self.inside in
    let old : List Ask = g.F.EngineFiles.asked e.files in
    let new : List Ask = g.F.EngineFiles.asked c.read_one_entry.new.files in
    kept_read c.moves_are_stored.ensures.read e.version old e.append e.rewrite e.untold e.accessor e.intact c.self.invariant new (unread_only _ _ old new _ c.in_err-bytes.ensures.err)

pub invariant_of-self-2 : goal.invariant_of-self-2
invariant_of-self-2 g c =
    let e = c.self.inside in
    let old : List Ask = g.F.EngineFiles.asked e.files in
    let new : List Ask = g.F.EngineFiles.asked c.read_one_entry.new.files in
    kept_read c.moves_are_stored.ensures.read e.version old e.append e.rewrite e.untold e.accessor e.intact c.self.invariant new (read_only _ _ old new c.in_ok-bytes.ensures.ok)

pub returns-clause-contents : goal.returns-clause-contents
returns-clause-contents g c =
    let old : List Ask = g.F.EngineFiles.asked c.self.inside.files in
    let new : List Ask = g.F.EngineFiles.asked c.read_one_entry.new.files in
    let is : Some c.in-Some.entry ≡ entry_at c.args.index (table_in c.args.self.now c.args.region).entries = search rules in
    got_content c.told_contents_are_those_that_were_added.ensures.read _ c.in-Some.entry c.in_ok-bytes.bytes.items old new (sym is) c.in_ok-bytes.ensures.ok
