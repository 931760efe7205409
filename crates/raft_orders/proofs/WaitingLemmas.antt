-- Orders that wait, of all that is to be done.
use Rattle.std.proofs.Common.{◌≡◌, ℕ, zero, suc, ◌+◌, ◌-◌, ◌≤◌, List, [], ◌∷◌, length, drop, map, option_map, slice_get, Option, Some, None, IfSome, IfNone, refl, sym, ap, subst, ◌∙◌, arith}
use Rattle.std.proofs.lemmas.Option.{slice_get-map}
use Rattle.std.proofs.lemmas.List.{drop-drop}
use Rattle.raft_files.specs.Asks.{Ask}
use Rattle.raft_orders.specs.Orders.{IsOrder, all_to_do, ask_of, next_to_do}
use Rattle.raft_orders.specs.HandedView.{AreWaiting, taken_of}
use Rattle.raft_orders.specs.declared.order.Order.{Order}
use Rattle.raft_orders.specs.declared.waiting_orders.WaitingOrders.{WaitingOrders}
use Rattle.raft_orders.specs.declared.waiting_orders.NumberedOrder.{NumberedOrder}

first_of : {X : Type 0} (n : ℕ) (xs : List X) → slice_get (drop n xs) 0 ≡ slice_get xs n
first_of zero xs = refl
first_of (suc n) [] = refl
first_of (suc n) (x ∷ xs) = first_of n xs

pub first_waits : (asks : List Ask) (waiting : WaitingOrders) → AreWaiting asks waiting → option_map ask_of (slice_get waiting.orders.items 0) ≡ next_to_do asks (taken_of waiting)
first_waits asks waiting w =
    sym (slice_get-map ask_of waiting.orders.items 0) ∙ ap (λ l. slice_get l 0) w.are ∙ first_of (taken_of waiting) (all_to_do asks)

-- once the first order is taken, the others wait
module _ (asks : List Ask) (old new : WaitingOrders) (w : AreWaiting asks old) (order : Order) (split : old.orders.items ≡ order ∷ new.orders.items) (count : new.count ≡ old.count) where
  lengths : length old.orders.items ≡ suc (length new.orders.items)
  lengths = ap (λ l. length l) split

  one_more : taken_of new ≡ taken_of old + 1
  one_more = omega (arith, lengths, count, w.few)

  wait : AreWaiting asks new
  wait = record {
    are = ap (λ l. drop 1 l) (sym (ap (λ l. map ask_of l) split) ∙ w.are) ∙ drop-drop 1 (taken_of old) (all_to_do asks) ∙ ap (λ n. drop n (all_to_do asks)) (sym one_more);
    count = count ∙ w.count;
    few = omega (arith, lengths, count, w.few);
  }

  is_next : next_to_do asks (taken_of old) ≡ Some (ask_of order)
  is_next = sym (first_waits asks old w) ∙ ap (λ l. option_map ask_of (slice_get l 0)) split

none_waits : (asks : List Ask) (waiting : WaitingOrders) → AreWaiting asks waiting → waiting.orders.items ≡ [] → next_to_do asks (taken_of waiting) ≡ None
none_waits asks waiting w none = sym (first_waits asks waiting w) ∙ ap (λ l. option_map ask_of (slice_get l 0)) none

still_waits : (asks : List Ask) (old new : WaitingOrders) → AreWaiting asks old → old.orders.items ≡ [] → new.orders.items ≡ [] → new.count ≡ old.count → AreWaiting asks new
still_waits asks old new w none same count = record {
  are = ap (λ l. map ask_of l) (same ∙ sym none) ∙ w.are ∙ ap (λ n. drop n (all_to_do asks)) (ap (λ n. n - length old.orders.items) (sym count) ∙ ap (λ l. new.count - length l) (none ∙ sym same));
  count = count ∙ w.count;
  few = subst (λ l. length l ≤ new.count) (sym same) (omega (arith));
}

pub option_map_twice : {X Y Z : Type 0} (f : X → Y) (g : Y → Z) (o : Option X) → option_map g (option_map f o) ≡ option_map (λ x. g (f x)) o
option_map_twice f g None = refl
option_map_twice f g (Some x) = refl

-- what taking the first order leaves, and hands out
module _ (asks : List Ask) (old new : WaitingOrders) (w : AreWaiting asks old) (count : new.count ≡ old.count) where
  pub wait_still : (r : Option NumberedOrder) → IfSome r (λ o. old.orders.items ≡ o.order ∷ new.orders.items) → IfNone r (old.orders.items ≡ []) → IfNone r (new.orders.items ≡ []) → AreWaiting asks new
  wait_still (Some o) split none same = wait asks old new w o.order split count
  wait_still None split none same = still_waits asks old new w none same count

  pub is_order : (r : Option NumberedOrder) → IfSome r (λ o. o.number ≡ taken_of old) → IfSome r (λ o. old.orders.items ≡ o.order ∷ new.orders.items) → IfSome r (IsOrder asks (taken_of old))
  is_order (Some o) number split = record { numbered = number; is = is_next asks old new w o.order split count }
  is_order None number split = tt

  pub no_order : (r : Option NumberedOrder) → IfNone r (old.orders.items ≡ []) → IfNone r (next_to_do asks (taken_of old) ≡ None)
  no_order (Some o) none = tt
  no_order None none = none_waits asks old w none

  pub taken_more : (r : Option NumberedOrder) → IfSome r (λ o. old.orders.items ≡ o.order ∷ new.orders.items) → IfSome r (λ o. taken_of new ≡ taken_of old + 1)
  taken_more (Some o) split = one_more asks old new w o.order split count
  taken_more None split = tt
