use Rattle.raft_accessor.proofs.Common.{false≢true, sym, ◌∙◌}
use Rattle.raft_accessor.proofs.KnownExtentLemmas.{first_noted, other_noted}
use Rattle.raft_accessor.proofs.known_extents.KnownExtents.insert.Goals as goal

pub returns-then-not-is_first-clause-ok : goal.returns-then-not-is_first-clause-ok
returns-then-not-is_first-clause-ok c =
    other_noted c.args.id c.args.extent c.args.self.now.first c.args.self.now.others.entries c.insert.new.self.entries
    (λ h. false≢true (sym c.if-not-is_first.true ∙ c.is_first.ensures.1 h)) c.in_ok-insert.ensures.updates.0

pub returns-clause-ok : goal.returns-clause-ok
returns-clause-ok c =
    first_noted c.args.id c.args.extent c.args.self.now.first c.args.self.now.others.entries (c.is_first.ensures.0 c.if-not-is_first.false)
