use Rattle.raft_inspect.proofs.Common.{◌≡◌, ◌++◌, ◌∙◌, ℕ, List, ap, subst, on_err_weaker, on_ok_weaker, on_passed, inl, inr, Appends, AppendsFront, scan_lines}
use Rattle.raft_inspect.proofs.PrintedLemmas.{keeps_same}
use Rattle.raft_inspect.proofs.check.print_scan.Goals as goal

pub returns-clause-ok : goal.returns-clause-ok
returns-clause-ok g c =
    let lines = scan_lines c.args.form c.args.queue c.args.last c.args.scan.now in
    let all : c.as_str.result.now ≡ lines = c.as_str.ensures.value ∙ c.in_ok-append_scan_in_form.ensures ∙ ap (λ (t : List ℕ). t ++ lines) c.new-text.ensures.bytes in
    on_ok_weaker c.write_text.result
    (λ written. subst (λ (t : List ℕ). Appends (g.W.Write.contents c.args.out.now) (g.W.Write.contents c.write_text.new.out) t) all written)
    c.write_text.ensures.ok

pub returns-clause-cut_short : goal.returns-clause-cut_short
returns-clause-cut_short g c =
    let lines = scan_lines c.args.form c.args.queue c.args.last c.args.scan.now in
    let all : c.as_str.result.now ≡ lines = c.as_str.ensures.value ∙ c.in_ok-append_scan_in_form.ensures ∙ ap (λ (t : List ℕ). t ++ lines) c.new-text.ensures.bytes in
    on_err_weaker c.write_text.result
    (λ front. inr (subst (λ (t : List ℕ). AppendsFront (g.W.Write.contents c.args.out.now) (g.W.Write.contents c.write_text.new.out) t) all front))
    c.write_text.ensures.err

pub returns-in_err-append_scan_in_form-clause-cut_short : goal.returns-in_err-append_scan_in_form-clause-cut_short
returns-in_err-append_scan_in_form-clause-cut_short g c = on_passed _ _ c.from_residual.ensures.1 (inl (keeps_same _))
