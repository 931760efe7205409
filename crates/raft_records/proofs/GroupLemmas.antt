-- On group markers.
use Rattle.raft_records.proofs.Common.{◌≡◌, ◌↔◌, ℕ, ◌<◌, Bool, true, eqb, if◌then◌else◌, List, Option, Some, None, option_map, option_and_then, IsTrue, refl, sym, ap, subst, ◌∙◌, arith, Ordering, is_eq, pointwise, is_eq-slice_cmp}
use Rattle.raft_records.proofs.Common.{nat_cmp-IsAntisymmetric, slice_cmp-IsAntisymmetric, Error, AtomicGroupStatus, Item, reserved_key, is_reserved, status_byte, status_of, group_marker_item, marker_byte, marker_of, IsGroupMarkerRead}
use Rattle.raft_records.proofs.Common.{IsGroupMarkerFault}
use lib.Dec.{T}
use Rattle.std.specs.declared.cmp.Ordering.TheVariants.{Less, Equal, Greater}
use Rattle.raft_records.specs.declared.atomic_group.AtomicGroupStatus.TheVariants.{Begin, Middle, End}

pub one_byte : {a b : ℕ} → Some a ≡ Some b → a ≡ b
one_byte e = cc

status_again : (s : AtomicGroupStatus) → status_of (status_byte s) ≡ Some s
status_again Begin = refl
status_again Middle = refl
status_again End = refl

one_status : (s t : AtomicGroupStatus) → status_byte s ≡ status_byte t → s ≡ t
one_status s t e = let same : Some s ≡ Some t = sym (status_again s) ∙ ap status_of e ∙ status_again t in cc

pub marker_read : (item : Item) (status : AtomicGroupStatus) (read : Option (ℕ × AtomicGroupStatus)) → marker_byte item.content ≡ Some (status_byte status) → IsGroupMarkerRead item read → read ≡ Some (item.raft_group_id, status)
marker_read item status None m r = let e : Some (status_byte status) ≡ None = sym m ∙ r in absurd cc
marker_read item status (Some (id, other)) m r =
    let same : other ≡ status = one_status other status (one_byte (sym r.1 ∙ m)) in
    let group : id ≡ item.raft_group_id = r.0 in
    λ i. Some (group i, same i)

low : (s : AtomicGroupStatus) → status_byte s < 3
low Begin = omega arith
low Middle = omega arith
low End = omega arith

pub marker_accepted : (item : Item) (status : AtomicGroupStatus) (e : Error) → marker_byte item.content ≡ Some (status_byte status) → IsGroupMarkerFault item e → ⊥
marker_accepted item status e m f =
    let same : status_byte status ≡ f.byte = one_byte (sym m ∙ f.marker) in
    absurd (omega (arith, same, f.fault.0, low status))

-- ---- the reserved key as a test

equal : (o : Ordering) → is_eq o ≡ true → o ≡ Equal
equal Less p = absurd (subst T (sym p) tt)
equal Equal p = refl
equal Greater p = absurd (subst T (sym p) tt)

pub reserved_is : (key : List ℕ) → is_reserved key ≡ true → key ≡ reserved_key
unfolding is_reserved
reserved_is key e = slice_cmp-IsAntisymmetric nat_cmp-IsAntisymmetric key reserved_key (equal _ e)

pub is_reserved_key : is_reserved reserved_key ≡ true
unfolding is_reserved
is_reserved_key = refl

pub reserved_by : (key : List ℕ) → pointwise eqb key reserved_key ≡ is_reserved key
unfolding is_reserved
reserved_by key = sym (is_eq-slice_cmp key reserved_key)

pub reserved_test : (key : List ℕ) → IsTrue (is_reserved key) ↔ (key ≡ reserved_key)
reserved_test key = (reserved_is key, λ e. ap is_reserved e ∙ is_reserved_key)

-- ---- the byte of a marker

pub marker_written : (id : ℕ) (status : AtomicGroupStatus) → marker_byte (group_marker_item id status).content ≡ Some (status_byte status)
marker_written id status = ap (λ (b : Bool). if b then Some (status_byte status) else None) is_reserved_key

-- ---- the marker that an item is

abbrev with_status : ℕ → AtomicGroupStatus → ℕ × AtomicGroupStatus
with_status group status = (group, status)

abbrev marker_by : ℕ → Option ℕ → Option (ℕ × AtomicGroupStatus)
marker_by group byte = option_map (with_status group) (option_and_then status_of byte)

pub marker_is : (item : Item) (read : Option (ℕ × AtomicGroupStatus)) → IsGroupMarkerRead item read → marker_of item ≡ read
marker_is item None h = ap (marker_by item.raft_group_id) h
marker_is item (Some (id, status)) h =
    ap (marker_by item.raft_group_id) h.1
    ∙ ap (option_map (with_status item.raft_group_id)) (status_again status)
    ∙ ap (λ (g : ℕ). Some (with_status g status)) (sym h.0)
