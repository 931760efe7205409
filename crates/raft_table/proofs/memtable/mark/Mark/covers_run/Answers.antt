use Rattle.raft_table.proofs.Facts.{◌≡◌, ℕ, ◌<◌, true, false, Some, sym, ap, refl, ◌∙◌, arith, MatchBool, nat_tests, LogQueue, Mark, fresh, joined_at, nat_lt, run_covered}
use Rattle.raft_table.proofs.memtable.mark.Mark.covers_run.Goals as goal

some : (n : ℕ) → nat_lt 0 n ≡ true → 0 < n
some n e = grind (arith, nat_tests)

abbrev Stays : Mark → ℕ → ℕ → Type 0
Stays m end start = (queue : LogQueue) → joined_at queue end m (record fresh { reach = Some start; cut = Some start }) ≡ m

pub returns : goal.returns
returns c =
    let reach = ap (λ (m : Mark). m.reach) (sym c.self.view_is) ∙ c.in-Some-Some.is-0 in
    let cut = ap (λ (m : Mark). m.cut) (sym c.self.view_is) ∙ c.in-Some-Some.is-1 in
    elim (nat_lt 0 c.args.end) as (λ b. nat_lt 0 c.args.end ≡ b → MatchBool b (Stays c.args.self.now c.args.end c.args.start) (Unit {0})) [
      | true ↦ λ e q. run_covered q c.args.end c.args.start _ _ c.args.self.now reach cut c.if-start-cut.false c.if-end-start.false (some c.args.end e)
      | false ↦ λ e. tt
    ] refl
