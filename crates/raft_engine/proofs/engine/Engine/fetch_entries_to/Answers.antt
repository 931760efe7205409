use Rattle.raft_engine.proofs.Common.{rules, ◌≡◌, List, [], Some, length, map, subst, sym, EntryIndex, Ask, AreFetched, KeptEngine, AreReadByBlocks}
use Rattle.std.specs.FinMap as finite
use Rattle.raft_engine.proofs.KeptMoves.{kept_read}
use Rattle.raft_engine.proofs.ReadKept.{fetched, no_table_fetched, none_fetched, of_range, pushed_bytes, read_only, unread_only}
use Rattle.raft_engine.proofs.engine.Engine.fetch_entries_to.Goals as goal

pub returns-in_default-clause-ok : goal.returns-in_default-clause-ok
returns-in_default-clause-ok g c =
    let e = c.self.inside in
    let before = map (λ bytes. bytes.items) c.args.entries.now.items in
    subst (λ (o : KeptEngine). AreFetched c.args.region c.args.begin c.args.end c.args.max_size 0 before before o o) c.self.view_is
    (no_table_fetched c.told_contents_are_those_that_were_added.ensures.read c.args.region c.args.begin c.args.end c.args.max_size before
    (record { version = e.version; asks = g.F.EngineFiles.asked e.files; untold = e.untold; accessor = e.accessor; intact = e.intact }) c.in_default.ensures.value)

pub returns-then-is_empty-clause-ok : goal.returns-then-is_empty-clause-ok
returns-then-is_empty-clause-ok g c =
    let e = c.self.inside in
    let before = map (λ bytes. bytes.items) c.args.entries.now.items in
    let es : List EntryIndex = c.fetch_entries_to.new.vec.items in
    let none : es ≡ [] = search rules in
    let there : finite.get e.accessor.tables c.args.region ≡ Some c.in-Some.table.now = sym c.in-Some.ensures.value in
    let range = of_range c.args.region c.args.begin c.args.end c.args.max_size _ c.in-Some.table.now c.new-indexes.result.items es there c.new-indexes.ensures.items c.in_ok-fetch_entries_to.ensures.ok in
    subst (λ (o : KeptEngine). AreFetched c.args.region c.args.begin c.args.end c.args.max_size 0 before before o o) c.self.view_is
    (none_fetched c.told_contents_are_those_that_were_added.ensures.read c.args.region c.args.begin c.args.end c.args.max_size before
    (record { version = e.version; asks = g.F.EngineFiles.asked e.files; untold = e.untold; accessor = e.accessor; intact = e.intact }) es none range)

pub invariant_of-self : goal.invariant_of-self
invariant_of-self g c =
    let e = c.self.inside in
    let old : List Ask = g.F.EngineFiles.asked e.files in
    let new : List Ask = g.F.EngineFiles.asked c.read_entries.new.files in
    kept_read c.moves_are_stored.ensures.read e.version old e.append e.rewrite e.untold e.accessor e.intact c.self.invariant new (unread_only _ _ old new _ c.in_err-found.ensures.err)

pub invariant_of-self-in_err-append : goal.invariant_of-self-in_err-append
invariant_of-self-in_err-append g c =
    let e = c.self.inside in
    let old : List Ask = g.F.EngineFiles.asked e.files in
    let new : List Ask = g.F.EngineFiles.asked c.read_entries.new.files in
    kept_read c.moves_are_stored.ensures.read e.version old e.append e.rewrite e.untold e.accessor e.intact c.self.invariant new (read_only _ _ old new c.in_ok-found.ensures.ok)

pub invariant_of-self-2 : goal.invariant_of-self-2
invariant_of-self-2 g c =
    let e = c.self.inside in
    let old : List Ask = g.F.EngineFiles.asked e.files in
    let new : List Ask = g.F.EngineFiles.asked c.read_entries.new.files in
    kept_read c.moves_are_stored.ensures.read e.version old e.append e.rewrite e.untold e.accessor e.intact c.self.invariant new (read_only _ _ old new c.in_ok-found.ensures.ok)

pub returns-clause-ok : goal.returns-clause-ok
returns-clause-ok g c =
    let e = c.self.inside in
    let old : List Ask = g.F.EngineFiles.asked e.files in
    let new : List Ask = g.F.EngineFiles.asked c.read_entries.new.files in
    let es : List EntryIndex = c.fetch_entries_to.new.vec.items in
    let strings = map (λ bytes. bytes.items) c.in_ok-found.found.items in
    let before = map (λ bytes. bytes.items) c.args.entries.now.items in
    let after = map (λ bytes. bytes.items) c.append.new.self.items in
    let there : finite.get e.accessor.tables c.args.region ≡ Some c.in-Some.table.now = sym c.in-Some.ensures.value in
    let range = of_range c.args.region c.args.begin c.args.end c.args.max_size _ c.in-Some.table.now c.new-indexes.result.items es there c.new-indexes.ensures.items c.in_ok-fetch_entries_to.ensures.ok in
    let counted : c.len.result ≡ length es = search rules in
    let r : AreReadByBlocks es strings old new = subst (λ (l : List EntryIndex). AreReadByBlocks l strings old new) c.as_slice.ensures.value c.in_ok-found.ensures.ok in
    subst (λ (o : KeptEngine). AreFetched c.args.region c.args.begin c.args.end c.args.max_size c.len.result before after o
    (record { version = e.version; asks = new; untold = e.untold; accessor = e.accessor; intact = e.intact })) c.self.view_is
    (fetched c.told_contents_are_those_that_were_added.ensures.read c.args.region c.args.begin c.args.end c.args.max_size c.len.result before
    (record { version = e.version; asks = old; untold = e.untold; accessor = e.accessor; intact = e.intact })
    (record { version = e.version; asks = new; untold = e.untold; accessor = e.accessor; intact = e.intact })
    es strings after range counted r (pushed_bytes c.args.entries.now.items c.in_ok-found.found.items c.append.new.self.items c.in_ok-append.ensures.items))
