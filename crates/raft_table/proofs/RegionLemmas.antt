-- Tables over older ones where their marks stand for steps.
use Rattle.raft_table.proofs.Common.{◌≡◌, ℕ, Bool, true, false, cond, ◌||◌, List, Option, Some, refl, ap, subst, ◌∙◌, is_some, option_map, LogQueue, IsRunOver, Mark, keys_over, atomic_group_over, table_over, is_there_over, table_over_older}
use Rattle.raft_table.proofs.Common.{Stands, Step, table_of, AreSteps, IsTableOf, Table}
use Rattle.raft_table.proofs.MarkRuns.{table_after}
use Rattle.raft_table.proofs.MarkTables.{applied-some, some_there, table_of-there, none_over}

-- what a newer mark makes of entries that it isn't refused over
pub stands_run : (q : LogQueue) (id : ℕ) (n : Mark) (u t : Option Table) (rs : List Step) → AreSteps rs → IsTableOf id (table_of id t) → Stands q id n u rs → IsRunOver q n (table_of id u) (table_of id t)
stands_run q id n u t rs good h k = λ es e.
    let x : Table = record (table_of id t) { entries = es; keys = keys_over n (table_of id u).keys (table_of id t).keys; atomic_group = atomic_group_over n (table_of id u).atomic_group (table_of id t).atomic_group } in
    let over : table_over q n (table_of id u)
    (table_of id t) ≡ Some x = ap (option_map
    (λ ys. record (table_of id t) {
      entries = ys;
      keys = keys_over n (table_of id u).keys (table_of id t).keys;
      atomic_group = atomic_group_over n (table_of id u).atomic_group (table_of id t).atomic_group;
    })) e in
    let w = table_after q id t (some_there (is_there_over n u t) x) rs good h (k.every t h ∙ applied-some q id n u t x over) in
    (subst (IsTableOf id) (table_of-there id (is_there_over n u t) x (λ none. none_over q id n u t x h none over)) w).run

own_there : (b c : Bool) → cond b true (true || c) ≡ true
own_there true c = refl
own_there false c = refl

-- an own table that is there over one that may be absent
pub applied_own : (q : LogQueue) (id : ℕ) (n : Mark) (u w : Table) (t : Option Table) → table_over q n u (table_of id t) ≡ Some w → table_over_older q id n (Some u) t ≡ Some (Some w)
applied_own q id n u w t e = applied-some q id n (Some u) t w e ∙ ap (λ b. Some (some_there b w)) (own_there n.cleaned (is_some t))
