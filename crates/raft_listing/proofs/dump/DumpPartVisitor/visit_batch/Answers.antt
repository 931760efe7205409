use Rattle.raft_listing.proofs.Common.{◌≡◌, ◌++◌, List, ℕ, map, refl, sym, subst, ap, ◌∙◌, on_ok_weaker, item_of, batch}
use Rattle.raft_listing.proofs.dump.DumpPartVisitor.visit_batch.Goals as goal

pub returns-clause-ok : goal.returns-clause-ok
returns-clause-ok g c =
    let added = c.in_ok-append_batch.ensures.ok in
    let all : c.as_bytes.result.now ≡ added.text = c.as_bytes.ensures.value ∙ added.behind ∙ ap (λ (t : List ℕ). t ++ added.text) c.new-text.ensures.bytes in
    on_ok_weaker c.write_whole.result
    (λ written. ((c.as_bytes.result.now, subst (g.F.DumpForm.says c.args.self.now.selection c.args.part.now c.args.at (batch (map item_of c.args.items.now) c.args.next)) (sym all) added.is_text, written), refl, refl)) c.write_whole.ensures.ok
