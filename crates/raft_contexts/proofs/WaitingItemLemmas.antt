-- Steps of items, one after another.
use Rattle.raft_contexts.proofs.Common.{◌≡◌, ℕ, Bool, eqb, ◌||◌, List, [], ◌∷◌, ◌++◌, map, Option, Some, None, refl, sym, ap, ◌∙◌, option_map, list_any, LogItem, Item, item_of, content_of, Step, region_step_shown, item_step, RegionStep}
use Rattle.raft_contexts.proofs.Common.{content_step, steps_of_items, names, with_step, names_none, names_cons, none_some, some_is}
use Rattle.raft_history.specs.declared.region_step.RegionStep as code

pub items-append : (xs ys : List Item) → steps_of_items (xs ++ ys) ≡ steps_of_items xs ++ steps_of_items ys
items-append [] ys = refl
items-append (x ∷ xs) ys = go (content_step x.content) (items-append xs ys)
  where
    go : (o : Option Step) → steps_of_items (xs ++ ys) ≡ steps_of_items xs ++ steps_of_items ys → with_step x.raft_group_id o (steps_of_items (xs ++ ys)) ≡ with_step x.raft_group_id o (steps_of_items xs) ++ steps_of_items ys
    go None ih = ih
    go (Some s) ih = ap (λ l. record { region = x.raft_group_id; step = s } ∷ l) ih

-- the first item's steps are in front
pub split_items : (x : LogItem) (xs ys : List LogItem) → ys ≡ x ∷ xs → steps_of_items (map item_of ys) ≡ steps_of_items (item_of x ∷ []) ++ steps_of_items (map item_of xs)
split_items x xs ys e = ap (λ l. steps_of_items (map item_of l)) e ∙ items-append (item_of x ∷ []) (map item_of xs)

-- the step of one item
pub step_of : (x : LogItem) (s : RegionStep) → Some s ≡ item_step (item_of x) → steps_of_items (item_of x ∷ []) ≡ s ∷ []
step_of x s e = go (content_step (content_of x.content)) e
  where
    go : (o : Option Step) → Some s ≡ option_map (λ s. record { region = x.raft_group_id; step = s }) o → with_step x.raft_group_id o [] ≡ s ∷ []
    go None e = absurd (none_some (sym e))
    go (Some t) e = ap (λ r. r ∷ []) (sym (some_is e))

pub no_step_of : (x : LogItem) → None ≡ item_step (item_of x) → steps_of_items (item_of x ∷ []) ≡ []
no_step_of x e = go (content_step (content_of x.content)) e
  where
    go : (o : Option Step) → None ≡ option_map {U = RegionStep} (λ s. record { region = x.raft_group_id; step = s }) o → with_step x.raft_group_id o [] ≡ []
    go None e = refl
    go (Some t) e = absurd (none_some e)

-- ---- the regions that steps name

-- whether steps are on a region
abbrev pub are_on : ℕ → List code.RegionStep → Bool
are_on r steps = list_any (λ (s : code.RegionStep). eqb r s.region) steps

pub steps_named : (r : ℕ) (steps : List code.RegionStep) → are_on r steps ≡ names r (map region_step_shown steps)
steps_named r [] = sym (names_none r)
steps_named r (s ∷ steps) = ap (λ b. eqb r s.region || b) (steps_named r steps) ∙ sym (names_cons r (region_step_shown s) (map region_step_shown steps))
