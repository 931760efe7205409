use Rattle.raft_recover.proofs.Common.{Vec, ap, ◌∙◌, Global, Part}
use Rattle.raft_recover.proofs.ShareLemmas.{share_ended}
use Rattle.raft_recover.proofs.shares.end_share.Goals as goal

pub returns-clause-same : goal.returns-clause-same
returns-clause-same c =
    share_ended c.args.last.now c.replace.result c.args.last.now.items c.replace.new.dest.items c.args.shares.now.items c.push.new.self.items c.in_ok-push.ensures.items
    (ap (λ (v : Vec Part Global). v.items) c.replace.ensures.value) (ap (λ (v : Vec Part Global). v.items) c.replace.ensures.after ∙ c.new.ensures.items)
