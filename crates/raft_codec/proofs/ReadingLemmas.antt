-- What is read of composed spellings, over any spelling.
use Rattle.raft_codec.proofs.Common.{◌≡◌, ℕ, List, ◌∷◌, ◌++◌, refl, sym, ap, ◌∙◌, subst, append_assoc, append_cancel_left, Reads, HasNoFront, IsTagged, IsFollowedBy, HasOneFront}

-- the same bytes are read, seen as another value of another spelling
pub reads_as : {X Y : Type 0} (P : List ℕ → X → Type 0) (Q : List ℕ → Y → Type 0) (x : X) (y : Y) → ((a : List ℕ) → P a x → Q a y) → {bytes rest : List ℕ} → Reads P bytes rest x → Reads Q bytes rest y
reads_as P Q x y f {bytes} {rest} r = record { front = r.front; spells = f r.front r.spells; split = r.split }

-- the fronts of two lists that begin one list
split_behind : (bytes a mid b rest : List ℕ) → bytes ≡ a ++ mid → mid ≡ b ++ rest → bytes ≡ (a ++ b) ++ rest
split_behind bytes a mid b rest e f = e ∙ ap (λ (t : List ℕ). a ++ t) f ∙ sym (append_assoc a b rest)

-- ---- one spelling behind another

pub reads_pair : {X Y : Type 0} (P : List ℕ → X → Type 0) (Q : X → List ℕ → Y → Type 0) (x : X) (y : Y) → {bytes mid rest : List ℕ} → Reads P bytes mid x → Reads (Q x) mid rest y → Reads (λ a (v : Y). IsFollowedBy P Q a x v) bytes rest y
reads_pair P Q x y {bytes} {mid} {rest} r s =
    record {
      front = r.front ++ s.front;
      spells = record { first = r.front; second = s.front; first_spells = r.spells; second_spells = s.spells; split = refl };
      split = split_behind bytes r.front mid s.front rest r.split s.split;
    }

pub no_first : {X Y : Type 0} (P : List ℕ → X → Type 0) (Q : X → List ℕ → Y → Type 0) {bytes : List ℕ} → HasNoFront P bytes → (front rest : List ℕ) (x : X) (y : Y) → IsFollowedBy P Q front x y → bytes ≡ front ++ rest → ⊥
no_first P Q {bytes} none front rest x y p e =
    none p.first (p.second ++ rest) x p.first_spells (e ∙ ap (λ (t : List ℕ). t ++ rest) p.split ∙ append_assoc p.first p.second rest)

-- where the first was read, what is behind it is what is behind the first of any pair
pub second_at : {X Y : Type 0} (P : List ℕ → X → Type 0) (Q : X → List ℕ → Y → Type 0) → HasOneFront P → {bytes mid : List ℕ} {x : X} →
    Reads P bytes mid x → (front rest : List ℕ) (x' : X) (y : Y) → (p : IsFollowedBy P Q front x' y) → bytes ≡ front ++ rest →
    (x ≡ x') × (mid ≡ p.second ++ rest)
second_at P Q one {bytes} {mid} {x} r front rest x' y p e =
    let whole : r.front ++ mid ≡ p.first ++ (p.second ++ rest) = sym r.split ∙ e ∙ ap (λ (t : List ℕ). t ++ rest) p.split ∙ append_assoc p.first p.second rest in
    let same = one r.front p.first mid (p.second ++ rest) x x' r.spells p.first_spells whole in
    (same.1, append_cancel_left p.first mid (p.second ++ rest) (ap (λ (t : List ℕ). t ++ mid) (sym same.0) ∙ whole))

pub no_second : {X Y : Type 0} (P : List ℕ → X → Type 0) (Q : X → List ℕ → Y → Type 0) → HasOneFront P → {bytes mid : List ℕ} {x : X} →
    Reads P bytes mid x → HasNoFront (Q x) mid → (front rest : List ℕ) (x' : X) (y : Y) → IsFollowedBy P Q front x' y → bytes ≡ front ++ rest → ⊥
no_second P Q one {bytes} {mid} {x} r none front rest x' y p e =
    let at = second_at P Q one r front rest x' y p e in
    none p.second rest y (subst (λ (v : _). Q v p.second y) (sym at.0) p.second_spells) at.1

pub pair_one_front : {X Y : Type 0} (P : List ℕ → X → Type 0) (Q : X → List ℕ → Y → Type 0) → HasOneFront P → ((x : X) → HasOneFront (Q x)) →
    (a b more rest : List ℕ) (x x' : X) (y y' : Y) → IsFollowedBy P Q a x y → IsFollowedBy P Q b x' y' → a ++ more ≡ b ++ rest →
    (a ≡ b) × (x ≡ x') × (y ≡ y')
pair_one_front P Q one two a b more rest x x' y y' p q e =
    let read : Reads P (a ++ more) (p.second ++ more) x = record { front = p.first; spells = p.first_spells; split = ap (λ (t : List ℕ). t ++ more) p.split ∙ append_assoc p.first p.second more } in
    let at = second_at P Q one read b rest x' y' q e in
    let second = subst (λ (v : _). Q v q.second y') (sym at.0) q.second_spells in
    let same = two x p.second q.second more rest y y' p.second_spells second at.1 in
    let firsts = one p.first q.first (p.second ++ more) (q.second ++ rest) x x' p.first_spells q.first_spells (sym read.split ∙ e ∙ ap (λ (t : List ℕ). t ++ rest) q.split ∙ append_assoc q.first q.second rest) in
    (p.split ∙ ap (λ (t : List ℕ). t ++ p.second) firsts.0 ∙ ap (λ (t : List ℕ). q.first ++ t) same.0 ∙ sym q.split, at.0, same.1)

-- ---- one byte, and behind it a spelling

pub heads : (x y : ℕ) (xs ys : List ℕ) → x ∷ xs ≡ y ∷ ys → (x ≡ y) × (xs ≡ ys)
heads x y xs ys e = (cc, cc)

pub reads_tagged : {X : Type 0} (tag : ℕ) (P : List ℕ → X → Type 0) (x : X) → {bytes rest : List ℕ} → Reads P bytes rest x → Reads (IsTagged tag P) (tag ∷ bytes) rest x
reads_tagged tag P x {bytes} {rest} r = record { front = tag ∷ r.front; spells = (r.front, refl, r.spells); split = ap (λ (t : List ℕ). tag ∷ t) r.split }

pub tagged_at : {X : Type 0} (tag first : ℕ) (P : List ℕ → X → Type 0) (bytes front rest : List ℕ) (x : X) → (t : IsTagged tag P front x) → first ∷ bytes ≡ front ++ rest → (first ≡ tag) × (bytes ≡ t.0 ++ rest)
tagged_at tag first P bytes front rest x t e = heads first tag bytes (t.0 ++ rest) (e ∙ ap (λ (a : List ℕ). a ++ rest) t.1)

pub no_tagged : {X : Type 0} (tag : ℕ) (P : List ℕ → X → Type 0) {bytes : List ℕ} → HasNoFront P bytes → (front rest : List ℕ) (x : X) → IsTagged tag P front x → tag ∷ bytes ≡ front ++ rest → ⊥
no_tagged tag P {bytes} none front rest x t e = none t.0 rest x t.2 (tagged_at tag tag P bytes front rest x t e).1

pub tagged_one_front : {X : Type 0} (tag tag' : ℕ) (P Q : List ℕ → X → Type 0) (a b more rest : List ℕ) (x y : X) → IsTagged tag P a x → IsTagged tag' Q b y → a ++ more ≡ b ++ rest → tag ≡ tag'
tagged_one_front tag tag' P Q a b more rest x y s t e =
    (tagged_at tag' tag Q (s.0 ++ more) b rest y t (ap (λ (u : List ℕ). u ++ more) (sym s.1) ∙ e)).0

pub tagged_same : {X : Type 0} (tag : ℕ) (P : List ℕ → X → Type 0) → HasOneFront P → (a b more rest : List ℕ) (x y : X) → IsTagged tag P a x → IsTagged tag P b y → a ++ more ≡ b ++ rest → (a ≡ b) × (x ≡ y)
tagged_same tag P one a b more rest x y s t e =
    let at = tagged_at tag tag P (s.0 ++ more) b rest y t (ap (λ (u : List ℕ). u ++ more) (sym s.1) ∙ e) in
    let same = one s.0 t.0 more rest x y s.2 t.2 at.1 in
    (s.1 ∙ ap (λ (u : List ℕ). tag ∷ u) same.0 ∙ sym t.1, same.1)
