use Rattle.raft_listing.proofs.Common.{◌≡◌, ◌++◌, List, ℕ, refl, sym, subst, ap, ◌∙◌, on_ok_weaker, damage}
use Rattle.raft_listing.proofs.dump.DumpPartVisitor.visit_damage.Goals as goal

pub returns-clause-ok : goal.returns-clause-ok
returns-clause-ok g c =
    let added = c.in_ok-append_damage.ensures in
    let all : c.as_bytes.result.now ≡ added.text = c.as_bytes.ensures.value ∙ added.behind ∙ ap (λ (t : List ℕ). t ++ added.text) c.new-text.ensures.bytes in
    on_ok_weaker c.write_whole.result
    (λ written. ((c.as_bytes.result.now, subst (g.F.DumpForm.says c.args.self.now.selection c.args.part.now c.args.at (damage c.args.next c.args.reason)) (sym all) added.is_text, written), refl, refl)) c.write_whole.ensures.ok
