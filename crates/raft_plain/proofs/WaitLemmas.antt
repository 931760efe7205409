-- Stretches that wait, and regions, one taken out and put back.
use Rattle.raft_plain.proofs.Common.{Bool, true, false, cond, Option, Some, None, refl, sym, ap, ◌∙◌, ◌≡◌, ℕ, BTreeMap, IsOrdered, insert_entry, is_at, nat_cmp_total, nat_cmp-IsAntisymmetric, lookup, remove_entry, option_map, eq_by_cmp, nat_cmp, Table, Tables, with_table}
use Rattle.raft_plain.proofs.Common.{Stretch, Region, Stretches, table_shown, tables_shown, stretch_shown, stretches_shown}
use Rattle.std.specs.FinMap as finite
use Rattle.raft_plain.proofs.KeyedLemmas.{found, put-of, gone-of}

module _ {X : Type 0} where
  pub insert_removed : (m : finite.FinMap nat_cmp X) (k : ℕ) (v : X) → finite.insert (finite.remove m k) k v ≡ finite.insert m k v
  insert_removed m k v = finite.same_map nat_cmp_total nat_cmp-IsAntisymmetric _ _ (λ q. finite.get-insert nat_cmp_total (finite.remove m k) k v q ∙ ap (cond (eq_by_cmp nat_cmp q k) (Some v)) (finite.get-remove nat_cmp_total m k q) ∙ go (eq_by_cmp nat_cmp q k) (finite.get m q) ∙ sym (finite.get-insert nat_cmp_total m k v q))
    where
      go : (b : Bool) (x : Option X) → cond b (Some v) (cond b None x) ≡ cond b (Some v) x
      go true x = refl
      go false x = refl

  pub remove_removed : (m : finite.FinMap nat_cmp X) (k : ℕ) → finite.remove (finite.remove m k) k ≡ finite.remove m k
  remove_removed m k = finite.same_map nat_cmp_total nat_cmp-IsAntisymmetric _ _ (λ q. finite.get-remove nat_cmp_total (finite.remove m k) k q ∙ ap (cond (eq_by_cmp nat_cmp q k) None) (finite.get-remove nat_cmp_total m k q) ∙ go (eq_by_cmp nat_cmp q k) (finite.get m q) ∙ sym (finite.get-remove nat_cmp_total m k q))
    where
      go : (b : Bool) (x : Option X) → cond b None (cond b None x) ≡ cond b None x
      go true x = refl
      go false x = refl

-- ---- stretches

pub wait_found : (m : BTreeMap ℕ Stretch) (g : ℕ) (o : Option Stretch) → IsOrdered nat_cmp m → o ≡ lookup (is_at (nat_cmp g)) m.entries → option_map stretch_shown o ≡ finite.get (stretches_shown m) g
wait_found m g o h is = found (λ _ s. stretch_shown s) m.entries g o h is

pub wait_gone : (m n : BTreeMap ℕ Stretch) (g : ℕ) → IsOrdered nat_cmp m → IsOrdered nat_cmp n → n.entries ≡ remove_entry (is_at (nat_cmp g)) m.entries → stretches_shown n ≡ finite.remove (stretches_shown m) g
wait_gone m n g h k is = gone-of (λ _ s. stretch_shown s) m.entries n.entries g h k is

-- put in the place of one that was taken out
pub wait_put : (old : Stretches) (m n : BTreeMap ℕ Stretch) (g : ℕ) (s : Stretch) → IsOrdered nat_cmp m → IsOrdered nat_cmp n → stretches_shown m ≡ finite.remove old g → n.entries ≡ insert_entry nat_cmp m.entries g s → stretches_shown n ≡ finite.insert old g (stretch_shown s)
wait_put old m n g s h k gone is = put-of (λ _ s. stretch_shown s) m.entries n.entries g s h k is ∙ ap (λ (x : Stretches). finite.insert x g (stretch_shown s)) gone ∙ insert_removed old g (stretch_shown s)

-- ---- regions

pub region_found : (m : BTreeMap ℕ Region) (id : ℕ) (o : Option Region) → IsOrdered nat_cmp m → o ≡ lookup (is_at (nat_cmp id)) m.entries → option_map (table_shown id) o ≡ finite.get (tables_shown m) id
region_found m id o h is = found table_shown m.entries id o h is

pub region_gone : (m n : BTreeMap ℕ Region) (id : ℕ) → IsOrdered nat_cmp m → IsOrdered nat_cmp n → n.entries ≡ remove_entry (is_at (nat_cmp id)) m.entries → tables_shown n ≡ finite.remove (tables_shown m) id
region_gone m n id h k is = gone-of table_shown m.entries n.entries id h k is

pub region_put : (m n : BTreeMap ℕ Region) (id : ℕ) (r : Region) → IsOrdered nat_cmp m → IsOrdered nat_cmp n → n.entries ≡ insert_entry nat_cmp m.entries id r → tables_shown n ≡ finite.insert (tables_shown m) id (table_shown id r)
region_put m n id r h k is = put-of table_shown m.entries n.entries id r h k is

pub with_removed : (m : Tables) (id : ℕ) (t : Option Table) → with_table (finite.remove m id) id t ≡ with_table m id t
with_removed m id None = remove_removed m id
with_removed m id (Some t) = insert_removed m id t
