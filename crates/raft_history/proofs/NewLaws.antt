-- A new context stands exactly for the empty history.
use Rattle.raft_history.proofs.Common.{◌≡◌, ◌+◌, ◌≤◌, arith, [], refl, sym, ap, subst, ◌∙◌, is_some, unwrap_or, nat_cmp, LogQueue, fresh, new_context, RegionStandsFor, AreExact, IsExactFor, records_in, no_regions, region_in, table_records}
use Rattle.raft_history.proofs.Common.{all_records, waiting_records, WaitingGroup, groups_in, held_steps}
use Rattle.std.specs.FinMap as finite
use Rattle.raft_history.proofs.ContextLaws.{no_steps, exact_accepted}
use Rattle.raft_history.proofs.ReadLemmas.{holds_none}
use Rattle.raft_history.proofs.TotalLemmas.{total-none}
use Rattle.raft_history.proofs.WithoutMarkers.{named-steps}

no_groups : finite.empty ≡ groups_in []
unfolding groups_in
no_groups = refl

none_held : all_records finite.empty + waiting_records finite.empty ≤ 0
none_held = omega (arith, total-none table_records, total-none (λ (g : WaitingGroup). records_in (held_steps g)))

blank : (q : LogQueue) → AreExact q no_regions []
blank q = record {
  each = λ r. subst (RegionStandsFor q r (region_in no_regions r)) (sym (no_steps r)) (holds_none q r (region_in no_regions r) (ap (λ m. unwrap_or m fresh) (finite.get-empty nat_cmp r)) (finite.get-empty nat_cmp r));
  marked = λ r. ap is_some (finite.get-empty nat_cmp r) ∙ sym ((named-steps r []).1 (no_steps r));
}

pub new_exact : IsExactFor new_context []
new_exact = record {
  stands = record {
    files = refl;
    groups = no_groups;
    few = none_held;
    stands = λ q u. record { sound = record { files = tt; items = tt; markers = tt; accepted = exact_accepted q no_regions [] (blank q) }; cleaned = refl; append = λ e. blank _ };
  };
  regions = λ q u. blank q;
}
