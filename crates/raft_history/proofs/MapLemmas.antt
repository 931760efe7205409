-- Maps under numbers: one key written or taken away.
use Rattle.raft_history.proofs.Common.{◌≡◌, ◌⊎◌, ℕ, Bool, true, false, cond, eqb, ◌||◌, Option, Some, None, refl, ap, ◌∙◌, inl, inr, is_some, unwrap_or, nat_cmp, eq_by_cmp, nat_cmp_total, eqb-true, Mark, fresh, Table, MarkedRegions}
use Rattle.raft_history.proofs.Common.{MarkedRegion, region_in, with_region, Tables, with_table}
use Rattle.std.specs.FinMap as finite
use Rattle.raft_history.proofs.KnownLemmas.{tied}
pub use Rattle.raft_history.proofs.StepListLemmas.{eqb_self}

abbrev pub IsOther : ℕ → ℕ → Type 0
IsOther q r = (eqb q r ≡ false) × (eq_by_cmp nat_cmp q r ≡ false)

-- a region is the given one, or another
pub by_region : (q r : ℕ) → (q ≡ r) ⊎ IsOther q r
by_region q r = go (eqb q r) refl
  where
    go : (b : Bool) → eqb q r ≡ b → (q ≡ r) ⊎ IsOther q r
    go true e = inl (eqb-true q r e)
    go false e = inr (e, tied q r ∙ e)

module _ {X : Type 0} where
  pub get_own : (m : finite.FinMap nat_cmp X) (id : ℕ) (x : X) → finite.get (finite.insert m id x) id ≡ Some x
  get_own m id x = finite.get-insert nat_cmp_total m id x id ∙ ap (λ b. cond b (Some x) (finite.get m id)) (tied id id ∙ eqb_self id)

  pub get_other : (m : finite.FinMap nat_cmp X) (id q : ℕ) (x : X) → eq_by_cmp nat_cmp q id ≡ false → finite.get (finite.insert m id x) q ≡ finite.get m q
  get_other m id q x f = finite.get-insert nat_cmp_total m id x q ∙ ap (λ b. cond b (Some x) (finite.get m q)) f

  pub get_gone : (m : finite.FinMap nat_cmp X) (id : ℕ) → finite.get (finite.remove m id) id ≡ None
  get_gone m id = finite.get-remove nat_cmp_total m id id ∙ ap (λ b. cond b None (finite.get m id)) (tied id id ∙ eqb_self id)

  pub get_left : (m : finite.FinMap nat_cmp X) (id q : ℕ) → eq_by_cmp nat_cmp q id ≡ false → finite.get (finite.remove m id) q ≡ finite.get m q
  get_left m id q f = finite.get-remove nat_cmp_total m id q ∙ ap (λ b. cond b None (finite.get m q)) f

pub with_own : (m : Tables) (r : ℕ) (t : Option Table) → finite.get (with_table m r t) r ≡ t
with_own m r None = get_gone m r
with_own m r (Some t) = get_own m r t

pub with_other : (m : Tables) (r q : ℕ) (t : Option Table) → eq_by_cmp nat_cmp q r ≡ false → finite.get (with_table m r t) q ≡ finite.get m q
with_other m r q None f = get_left m r q f
with_other m r q (Some t) f = get_other m r q t f

pub held_own : (rs : MarkedRegions) (r : ℕ) (x : MarkedRegion) → region_in (with_region rs r x) r ≡ x
held_own rs r x = ap (λ (m : Option Mark). record { mark = unwrap_or m fresh; table = finite.get (with_table rs.tables r x.table) r })
    (get_own rs.marks r x.mark) ∙ ap (λ (t : Option Table). record { mark = x.mark; table = t }) (with_own rs.tables r x.table)

pub held_other : (rs : MarkedRegions) (r q : ℕ) (x : MarkedRegion) → eq_by_cmp nat_cmp q r ≡ false → region_in (with_region rs r x) q ≡ region_in rs q
held_other rs r q x f = ap (λ (m : Option Mark). record { mark = unwrap_or m fresh; table = finite.get (with_table rs.tables r x.table) q })
    (get_other rs.marks r q x.mark f) ∙ ap (λ (t : Option Table). record { mark = unwrap_or (finite.get rs.marks q) fresh; table = t })
    (with_other rs.tables r q x.table f)

pub marked_with : (rs : MarkedRegions) (r q : ℕ) (x : MarkedRegion) → is_some (finite.get (with_region rs r x).marks q) ≡ (eqb q r || is_some (finite.get rs.marks q))
marked_with rs r q x = ap is_some (finite.get-insert nat_cmp_total rs.marks r x.mark q) ∙ ap (λ b. is_some (cond b (Some x.mark) (finite.get rs.marks q))) (tied q r) ∙ go (eqb q r)
  where
    go : (b : Bool) → is_some (cond b (Some x.mark) (finite.get rs.marks q)) ≡ (b || is_some (finite.get rs.marks q))
    go true = refl
    go false = refl
