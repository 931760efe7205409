-- Pieces that are merged one with another.
use Rattle.raft_replay.proofs.Common.{◌≡◌, ◌<◌, List, [], ◌∷◌, ◌++◌, sym, refl, ap, ◌∙◌, subst, arith, append_assoc, append-nil, LogQueue, Event, IsSmall, Sound, Apart, IsOfQueue, small_front, small_back, sound_front, sound_back}
use Rattle.raft_replay.proofs.Common.{apart_front, apart_back, of_front, of_back, Plan, leaves, histories_in_turn, StandForEach, IsMerged, CannotMerge}
use Rattle.raft_replay.specs.declared.plan.Plan.TheVariants.{One, Join'}

pub leaves_positive : (p : Plan) → 0 < leaves p
leaves_positive One = omega arith
leaves_positive (Join' p a q b) = let l = leaves_positive a in let r = leaves_positive b in omega arith

pub joined-append : (fs gs : List (List Event)) → histories_in_turn (fs ++ gs) ≡ histories_in_turn fs ++ histories_in_turn gs
joined-append [] gs = refl
joined-append (f ∷ fs) gs = ap (λ (t : List Event). f ++ t) (joined-append fs gs) ∙ sym (append_assoc f (histories_in_turn fs) (histories_in_turn gs))

module _ {M : Type 0} (Stands : M → List Event → Type 0) where
  -- the histories of pieces are those of the first ones and those of the others
  pub record Halves (xs ys : List M) (hs : List (List Event)) : Type 0 where
    pub fronts : List (List Event)
    pub backs : List (List Event)
    pub first : StandForEach Stands xs fronts
    pub second : StandForEach Stands ys backs
    pub split : hs ≡ fronts ++ backs

  pub each_split : (xs ys : List M) (hs : List (List Event)) → StandForEach Stands (xs ++ ys) hs → Halves xs ys hs
  each_split [] ys hs all = record { fronts = []; backs = hs; first = tt; second = all; split = refl }
  each_split (x ∷ xs) ys [] all = absurd all
  each_split (x ∷ xs) ys (h ∷ hs) all =
      let rest = each_split xs ys hs all.1 in
      record { fronts = h ∷ rest.fronts; backs = rest.backs; first = (all.0, rest.first); second = rest.second; split = ap (λ (t : List (List Event)). h ∷ t) rest.split }

  pub each-append : (xs ys : List M) (fs gs : List (List Event)) → StandForEach Stands xs fs → StandForEach Stands ys gs → StandForEach Stands (xs ++ ys) (fs ++ gs)
  each-append [] ys [] gs first second = second
  each-append [] ys (f ∷ fs) gs first second = absurd first
  each-append (x ∷ xs) ys [] gs first second = absurd first
  each-append (x ∷ xs) ys (f ∷ fs) gs first second = (first.0, each-append xs ys fs gs first.1 second)

  -- one piece has one history
  pub each_one : (x : M) (hs : List (List Event)) → StandForEach Stands (x ∷ []) hs → Stands x (histories_in_turn hs)
  each_one x [] all = absurd all
  each_one x (h ∷ []) all = subst (λ (t : List Event). Stands x t) (sym (append-nil h)) all.0
  each_one x (h ∷ g ∷ hs) all = absurd all.1

module _ {M : Type 0} (stands_for stands_exactly : M → List Event → Type 0) where
  pub alone : (x : M) → IsMerged stands_for stands_exactly (x ∷ []) x
  alone x = record { stands = λ hs small each. each_one stands_for x hs each; exact = λ hs small apart each. each_one stands_exactly x hs each }

  module _ (xs ys zs : List M) (is : zs ≡ xs ++ ys) where
    halves : (Stands : M → List Event → Type 0) (hs : List (List Event)) → StandForEach Stands zs hs → Halves Stands xs ys hs
    halves Stands hs each = each_split Stands xs ys hs (subst (λ (l : List M). StandForEach Stands l hs) is each)

    -- the histories of both halves, one behind the other
    both : (Stands : M → List Event → Type 0) (hs : List (List Event)) (two : Halves Stands xs ys hs) → histories_in_turn hs ≡ histories_in_turn two.fronts ++ histories_in_turn two.backs
    both Stands hs two = ap histories_in_turn two.split ∙ joined-append two.fronts two.backs

    pub front_refused : (queue : LogQueue) → CannotMerge stands_for queue xs → CannotMerge stands_for queue zs
    front_refused queue cannot = record {
      unsound = λ hs small of each sound.
          let two = halves stands_for hs each in let is = both stands_for hs two in
          cannot.unsound two.fronts (small_front _ _ (subst IsSmall is small)) (of_front queue _ _ (subst (IsOfQueue queue) is of)) two.first
          (sound_front _ _ (subst Sound is sound));
    }

    pub back_refused : (queue : LogQueue) → CannotMerge stands_for queue ys → CannotMerge stands_for queue zs
    back_refused queue cannot = record {
      unsound = λ hs small of each sound.
          let two = halves stands_for hs each in let is = both stands_for hs two in
          cannot.unsound two.backs (small_back (histories_in_turn two.fronts) _ (subst IsSmall is small)) (of_back queue (histories_in_turn two.fronts) _ (subst (IsOfQueue queue) is of)) two.second
          (sound_back (histories_in_turn two.fronts) _ (subst Sound is sound));
    }

    module _ (x y : M) (first : IsMerged stands_for stands_exactly xs x) (second : IsMerged stands_for stands_exactly ys y) where
      pub merge_refused : (queue : LogQueue)
          → ((h g : List Event) → IsSmall (h ++ g) → IsOfQueue queue (h ++ g) → stands_for x h → stands_for y g → ¬ (Sound (h ++ g)))
          → CannotMerge stands_for queue zs
      merge_refused queue refused = record {
        unsound = λ hs small of each sound.
            let two = halves stands_for hs each in let is = both stands_for hs two in let few = subst IsSmall is small in
            refused (histories_in_turn two.fronts) (histories_in_turn two.backs) few (subst (IsOfQueue queue) is of)
            (first.stands two.fronts (small_front _ _ few) two.first) (second.stands two.backs (small_back (histories_in_turn two.fronts) _ few) two.second)
            (subst Sound is sound);
      }

      pub both_merged : (z : M)
          → ((h g : List Event) → IsSmall (h ++ g) → stands_for x h → stands_for y g → stands_for z (h ++ g))
          → ((h g : List Event) → IsSmall (h ++ g) → Apart (h ++ g) → stands_exactly x h → stands_exactly y g → stands_exactly z (h ++ g))
          → IsMerged stands_for stands_exactly zs z
      both_merged z stands exact = record {
        stands = λ hs small each.
            let two = halves stands_for hs each in let is = both stands_for hs two in let few = subst IsSmall is small in
            subst (λ (t : List Event). stands_for z t) (sym is)
            (stands (histories_in_turn two.fronts) (histories_in_turn two.backs) few (first.stands two.fronts (small_front _ _ few) two.first)
            (second.stands two.backs (small_back (histories_in_turn two.fronts) _ few) two.second));
        exact = λ hs small apart each.
            let two = halves stands_exactly hs each in let is = both stands_exactly hs two in let few = subst IsSmall is small in let keep = subst Apart is apart in
            subst (λ (t : List Event). stands_exactly z t) (sym is)
            (exact (histories_in_turn two.fronts) (histories_in_turn two.backs) few keep
            (first.exact two.fronts (small_front _ _ few) (apart_front _ _ keep) two.first)
            (second.exact two.backs (small_back (histories_in_turn two.fronts) _ few) (apart_back (histories_in_turn two.fronts) _ keep) two.second));
      }
