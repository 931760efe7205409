use Rattle.raft_plain.proofs.Common.{◌≡◌, Some, None, refl, sym, ap, subst, ◌∙◌, map, option_map, has_clean, overlaid_table, overlay, step_shown, table_shown}
use Rattle.raft_plain.proofs.OverlayLemmas.{both_overlaid}
use Rattle.raft_plain.proofs.overlay.overlay_region.Goals as goal

pub returns-in-Some : goal.returns-in-Some
returns-in-Some c =
    let id = c.args.id in
    let ss = map (λ s. step_shown s.now) c.as_slice-in-Some.result.now in
    let a = Some (table_shown id c.in-Some.newer) in
    let r = option_map (table_shown id) c.args.older in
    rw c.in-Some.is
    (subst (λ l. Some (table_shown id c.in_ok-both-in-Some.both) ≡ overlaid_table id l a r) (ap (λ l. map (λ s. step_shown s.now) l) c.as_slice-in-Some.ensures.value ∙ c.in_ok-own.ensures)
    (both_overlaid id ss a r (table_shown id c.in_ok-both-in-Some.both)
    (ap (λ l. has_clean (map (λ s. step_shown s.now) l)) (c.as_slice-in-Some.ensures.value ∙ sym c.as_slice.ensures.value) ∙ sym c.has_clean.ensures ∙ c.if-has_clean.false) refl
    (c.in_ok-both-in-Some.ensures id ∙ ap (overlay ss (table_shown id c.in-Some.newer)) (c.region_or_empty-older.ensures id))))

pub returns-in-Some-older : goal.returns-in-Some-older
returns-in-Some-older c =
    let id = c.args.id in
    let ss = map (λ s. step_shown s.now) c.as_slice-in-Some-older.result.now in
    let r = Some (table_shown id c.in-Some-older.older) in
    rw (c.in-None.is, c.in-Some-older.is)
    (subst (λ l. Some (table_shown id c.in_ok-both-in-Some-older.both) ≡ overlaid_table id l None r) (ap (λ l. map (λ s. step_shown s.now) l) c.as_slice-in-Some-older.ensures.value ∙ c.in_ok-own.ensures)
    (both_overlaid id ss None r (table_shown id c.in_ok-both-in-Some-older.both)
    (ap (λ l. has_clean (map (λ s. step_shown s.now) l)) (c.as_slice-in-Some-older.ensures.value ∙ sym c.as_slice.ensures.value) ∙ sym c.has_clean.ensures ∙ c.if-has_clean.false) refl
    (c.in_ok-both-in-Some-older.ensures id ∙ ap (λ t. overlay ss t (table_shown id c.in-Some-older.older)) (c.region_or_empty-newer.ensures id))))
