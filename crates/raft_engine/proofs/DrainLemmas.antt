-- The items that a loop takes of a batch that was drained.
use Rattle.raft_engine.proofs.Common.{◌≡◌, List, [], ◌∷◌, ◌++◌, length, map, Result, Ok, Err, IfErr, OnOk, refl, sym, ap, ◌∙◌, subst, items_from_drains, YieldsList-from_vec, map-append, map-id, length-map, Global, Drains, Yields, into_iter_items, into_iter_len, into_iter_steps}
use Rattle.raft_engine.proofs.Common.{IntoIter, Error, LogItem, Item, item_of, Accessor, Appending, Writing, AreItemsRefused, AreWritten, IsNextRefused, LacksRoom}
use Rattle.raft_accessor.specs.AppendChecks.{AreAccepted}

-- all items, in order
drained : {X Z : Type 0} (s : IntoIter X Z) (xs : List X) → into_iter_len s ≡ length (into_iter_items s) → Drains into_iter_steps s xs → xs ≡ into_iter_items s
drained s xs len d = sym (map-id xs) ∙ items_from_drains xs (d.1.0, d.1.1, λ _. (d.0, d.1.2)) (YieldsList-from_vec (into_iter_items s) refl len)

-- a loop over the items of a batch that was drained writes them all
pub apply_so : {R E : Type 0} (r : Result R E) (w : Writing) (s : IntoIter LogItem Global) (items : List Item) (old new : Accessor)
    → map item_of (into_iter_items s) ≡ items → into_iter_len s ≡ length items
    → OnOk r ((it : IntoIter LogItem Global) × (xs : List LogItem) × (it ≡ s) × Drains into_iter_steps it xs × AreWritten w (map item_of xs) old new)
    → OnOk r (AreWritten w items old new)
apply_so (Ok x) w s items old new e len p =
    let as_long : into_iter_len s ≡ length (into_iter_items s) = len ∙ ap length (sym e) ∙ length-map (into_iter_items s) item_of in
    let all : p.1 ≡ into_iter_items s = drained s p.1 as_long (subst (λ (it : IntoIter LogItem Global). Drains into_iter_steps it p.1) p.2 p.3) in
    subst (λ (l : List Item). AreWritten w l old new) (ap (map item_of) all ∙ e) p.4
apply_so (Err x) w s items old new e len p = tt

-- ---- the first ones

-- what was taken, and what is left
pub parted : {X Z : Type 0} (s u : IntoIter X Z) (xs : List X) → Yields into_iter_steps s xs u → into_iter_items s ≡ xs ++ into_iter_items u
parted s u [] y = ap into_iter_items y
parted s u (x ∷ xs) y = y.1.0 ∙ ap (λ l. x ∷ l) (parted y.0 u xs y.2)

-- of the items of a batch that was drained the first ones are written, and the next one is refused, if a loop over them is stopped
pub next_refused : {R : Type 0} (r : Result R Error) (w : Writing) (s : IntoIter LogItem Global) (items : List Item) (old new : Accessor) → map item_of (into_iter_items s) ≡ items
    → IfErr r (λ e. (it : IntoIter LogItem Global) × (xs : List LogItem) × (u : IntoIter LogItem Global) × (it ≡ s) × Yields into_iter_steps it xs u × AreItemsRefused w (map item_of xs) old new e)
    → IfErr r (IsNextRefused w items old new)
next_refused (Ok x) w s items old new is p = tt
next_refused (Err e) w s items old new is p =
    let yields = subst (λ (it : IntoIter LogItem Global). Yields into_iter_steps it p.1 p.2) p.3 p.4 in
    let left : List Item = map item_of (into_iter_items p.2) in
    record {
      tried = map item_of p.1;
      rest = left;
      split = sym is ∙ ap (map item_of) (parted s p.2 p.1 yields) ∙ map-append item_of p.1 (into_iter_items p.2);
      refused = p.5;
    }

-- items that are accepted are refused, whichever of them is, for want of room alone
pub room_so : ((items rest : List Item) (old new : Accessor) (e : Error) → AreAccepted old.tables (items ++ rest) → AreItemsRefused Appending items old new e → LacksRoom e)
    → {R : Type 0} (r : Result R Error) (s : IntoIter LogItem Global) (items : List Item) (old new : Accessor) → map item_of (into_iter_items s) ≡ items → AreAccepted old.tables items
    → IfErr r (λ e. (it : IntoIter LogItem Global) × (xs : List LogItem) × (u : IntoIter LogItem Global) × (it ≡ s) × Yields into_iter_steps it xs u × AreItemsRefused Appending (map item_of xs) old new e)
    → IfErr r LacksRoom
room_so law (Ok x) s items old new is accepted p = tt
room_so law (Err e) s items old new is accepted p =
    let yields = subst (λ (it : IntoIter LogItem Global). Yields into_iter_steps it p.1 p.2) p.3 p.4 in
    let left : List Item = map item_of (into_iter_items p.2) in
    law (map item_of p.1) left old new e
    (subst (AreAccepted old.tables) (sym is ∙ ap (map item_of) (parted s p.2 p.1 yields) ∙ map-append item_of p.1 (into_iter_items p.2)) accepted) p.5
