-- Each step on the word keeps the rule of drawing.
use Rattle.std.proofs.Common.{◌≡◌, ℕ, suc, ◌+◌, ◌-◌, ◌%◌, ◌^◌, ◌<◌, ◌≤◌, cond, Bool, true, false, List, [], ◌∷◌, ◌++◌, All, length, length-append, get_or, set, take, drop, replicate}
use Rattle.std.proofs.Common.{sym, refl, ap, ◌∙◌, subst, arith, length-set, get_or-set_same, nat_le, ◌==◌}
use Rattle.raft_tickets.proofs.Common.{nat_tests, drop-replicate, get_or_append_left, State, Me, keeps, Allows, Splits, Joins, weigh, occurrences, TicketSeat, AreBelow, AreAbove, Rises, once_below}
use Rattle.raft_tickets.proofs.Common.{lists_in, occurrences_in, times_passed, times_passed_in, IsDrawn, HasDrawn, only, Continues, IsDrawer}
use mathlib.Core.Option.{some, some-injective, some-ne-none}
use lib.ListN.{get_elem?}
use Rattle.raft_tickets.proofs.WeightLemmas.{weigh-append, weigh-set, weigh_at, weigh_cut, weigh-replicate, weigh_le, weigh_all_of_one}

abbrev pub Views : Type 0
Views = List (List (List ℕ))

abbrev pub St : Type 0
St = State (Unit {0}) (List (List ℕ))

abbrev pub nothing : List ℕ
nothing = []

-- numbers
times_itself : (x : ℕ) (ys : List ℕ) → 0 < occurrences x (x ∷ ys)
times_itself x ys = grind (arith, nat_tests)

once_more : (x n : ℕ) → once_below x (n + 1) ≡ once_below x n + cond (x == n) 1 0
once_more x n = grind (arith, nat_tests)

pub below_once : (x n : ℕ) → 0 < once_below x n → x < n
below_once x n h = grind (arith, nat_tests)

once_none : (x : ℕ) → once_below x 0 ≡ 0
once_none x = grind (arith, nat_tests)

-- lists that rise
pub below_all : (n : ℕ) (ys : List ℕ) → ((x : ℕ) → 0 < occurrences x ys → x < n) → AreBelow n ys
below_all n [] h = tt
below_all n (y ∷ ys) h = (h y (times_itself y ys), below_all n ys (λ x there. h x (omega arith)))

above_more : (n : ℕ) (x : ℕ) (ys : List ℕ) → n < x → AreAbove n ys → AreAbove n (ys ++ x ∷ [])
above_more n x [] lt h = (lt, tt)
above_more n x (y ∷ ys) lt h = (h.0, above_more n x ys lt h.1)

pub rises_more : (n : ℕ) (ys : List ℕ) → Rises ys → AreBelow n ys → Rises (ys ++ n ∷ [])
rises_more n [] r b = (tt, tt)
rises_more n (y ∷ ys) r b = (above_more y n ys b.0 r.0, rises_more n ys r.1 b.1)

pub below_more : (total n : ℕ) (ys : List ℕ) → n < total → AreBelow total ys → AreBelow total (ys ++ n ∷ [])
below_more total n [] lt h = (lt, tt)
below_more total n (y ∷ ys) lt h = (h.0, below_more total n ys lt h.1)

passed_none : (total : ℕ) (ys : List ℕ) → AreBelow total ys → times_passed total ys ≡ 0
passed_none total [] h = refl
passed_none total (y ∷ ys) h = let b = h.0 in let r = passed_none total ys h.1 in grind (arith, nat_tests)

passed_one : (total : ℕ) (ys : List ℕ) → times_passed total ys ≤ 1
passed_one total [] = omega arith
passed_one total (y ∷ ys) = let r = passed_one total ys in grind (arith, nat_tests)

passed_more : (total n : ℕ) (ys : List ℕ) → AreBelow total ys → times_passed total (ys ++ n ∷ []) ≡ cond (nat_le total n) 1 0
passed_more total n [] h = refl
passed_more total n (y ∷ ys) h = let b = h.0 in let r = passed_more total n ys h.1 in grind (arith, nat_tests)

passed_step : (total n w : ℕ) → n ≤ total + w → n + 1 ≤ total + (w + cond (nat_le total n) 1 0)
passed_step total n w h = grind (arith, nat_tests)

-- the word is no greater than all numbers and seats together
passed_few : (total : ℕ) (views : Views) → weigh (times_passed_in total) views ≤ weigh lists_in views
passed_few total views = weigh_le (times_passed_in total) lists_in (weigh_le (times_passed total) (λ _. 1) (passed_one total)) views

module _ (total seats : ℕ) where
  abbrev Holds : St → Type 0
  Holds s = IsDrawn total seats s.words s.views

  -- views that weigh as much have drawn as much
  kept : (words : List ℕ) (views others : Views) → IsDrawn total seats words views
      → ((f : List ℕ → ℕ) → weigh (weigh f) others ≡ weigh (weigh f) views) → IsDrawn total seats words others
  kept words views others r same = record {
    one_word = r.one_word;
    few_numbers = r.few_numbers;
    few_seats = r.few_seats;
    all_seats = same (λ _. 1) ∙ r.all_seats;
    once = λ x. same (occurrences x) ∙ r.once x;
    reached = let s : weigh (times_passed_in total) others ≡ weigh (times_passed_in total) views = same (times_passed total) in let h = r.reached in omega arith;
  }

  pub opens : total < 2 ^ 62 → seats < 2 ^ 62 → IsDrawn total seats (0 ∷ []) (replicate seats [] ∷ [])
  opens few_numbers few_seats = record {
    one_word = refl;
    few_numbers = few_numbers;
    few_seats = few_seats;
    all_seats = let h = (weigh-replicate (λ (_ : List ℕ). 1) seats [] 1 refl).1 refl in omega arith;
    once = λ x. let h = (weigh-replicate (occurrences x) seats [] 0 refl).0 refl in let e = once_none x in omega arith;
    reached = omega arith;
  }

  pub splits : (id : ℕ) (view : List (List ℕ)) → Splits Holds id view (drop 1 view) (take 1 view)
  splits id view s r at =
      kept s.words s.views (set s.views id (drop 1 view) ++ take 1 view ∷ []) r
      (λ f.
      let a = weigh-append (weigh f) (set s.views id (drop 1 view)) (take 1 view ∷ []) in
      let b = weigh-set (weigh f) s.views id view (drop 1 view) at in
      let c = weigh_cut f view in omega arith)

  pub joins : (id : ℕ) (view : List (List ℕ)) (other : ℕ) (w : List (List ℕ)) → Joins Holds id view other w (view ++ w) []
  joins id view other w s r at apart there =
      kept s.words s.views (set (set s.views id (view ++ w)) other []) r
      (λ f.
      let a = weigh-set (weigh f) (set s.views id (view ++ w)) other w [] there in
      let b = weigh-set (weigh f) s.views id view (view ++ w) at in
      let c = weigh-append f view w in omega arith)

  module _ (s : St) (r : Holds s) (id : ℕ) (drawn : List ℕ) (at : get_elem? s.views id ≡ some (drawn ∷ [])) (goes_on : AreBelow total drawn) where
    abbrev found : ℕ
    found = get_or s.words 0 0

    abbrev after : List (List ℕ)
    after = (drawn ++ found ∷ []) ∷ []

    drawn_below : AreBelow found drawn
    drawn_below = below_all found drawn (λ x there.
        let within = weigh_at (occurrences_in x) s.views id (drawn ∷ []) at in
        let all = r.once x in below_once x found (omega arith))

    no_wrap : (found + 1) % 2 ^ 64 ≡ found + 1
    no_wrap =
        let few = passed_few total s.views in let a = r.reached in let b = r.few_numbers in let c = r.few_seats in let d = r.all_seats in
        omega arith

    moved : get_or (set s.words 0 ((found + 1) % 2 ^ 64)) 0 0 ≡ found + 1
    moved = let w = r.one_word in get_or-set_same s.words 0 ((found + 1) % 2 ^ 64) 0 (omega arith) ∙ no_wrap

    once_after : (x : ℕ) → weigh (occurrences_in x) (set s.views id after) ≡ once_below x (found + 1)
    once_after x =
        let a = weigh-set (occurrences_in x) s.views id (drawn ∷ []) after at in
        let b = weigh-append (λ (y : ℕ). cond (x == y) 1 0) drawn (found ∷ []) in
        let c = once_more x found in let d = r.once x in omega arith

    reached_after : found + 1 ≤ total + weigh (times_passed_in total) (set s.views id after)
    reached_after =
        let a = weigh-set (times_passed_in total) s.views id (drawn ∷ []) after at in
        let b = passed_more total found drawn goes_on in
        let c = passed_none total drawn goes_on in
        let d = passed_step total found (weigh (times_passed_in total) s.views) r.reached in omega arith

    drawn_holds : IsDrawn total seats (set s.words 0 ((found + 1) % 2 ^ 64)) (set s.views id after)
    drawn_holds = record {
      one_word = length-set s.words 0 ((found + 1) % 2 ^ 64) ∙ r.one_word;
      few_numbers = r.few_numbers;
      few_seats = r.few_seats;
      all_seats = let a = weigh-set lists_in s.views id (drawn ∷ []) after at in let b = r.all_seats in omega arith;
      once = λ x. once_after x ∙ ap (once_below x) (sym moved);
      reached = let a = reached_after in let b = moved in omega arith;
    }

    drawn_tells : HasDrawn (drawn ∷ []) found after
    drawn_tells other is =
        let same : drawn ≡ other = ap only is in
        (ap (λ (l : List ℕ). (l ++ found ∷ []) ∷ []) same, subst (AreBelow found) same drawn_below)

  pub draws : (slots id : ℕ) (me : Me (Unit {0}) (List (List ℕ))) → me.0 ≡ only me.0 ∷ [] → AreBelow total (only me.0)
      → Allows Holds slots id me 0 (λ n. (n + 1) % 2 ^ 64) (λ n there. HasDrawn me.0 n there.0 × (there.1 ≡ me.1))
  draws slots id me one goes_on s r fit at small =
      let here = at ∙ ap (λ (l : List (List ℕ)). some l) one in (
        after s r id (only me.0) here goes_on,
        keeps,
        tt,
        drawn_holds s r id (only me.0) here goes_on,
        ((λ drawn is. drawn_tells s r id (only me.0) here goes_on drawn (sym one ∙ is)), refl),
      )

  -- the view of all lists has drawn all numbers
  pub closes : (words : List ℕ) (id : ℕ) (view : List (List ℕ)) → lists_in view ≡ seats
      → (s : St) → Holds s → get_elem? s.views id ≡ some view → (x : ℕ) → occurrences_in x view ≡ once_below x (get_or s.words 0 0)
  closes words id view all s r at x = sym (weigh_all_of_one (occurrences x) s.views id view at (r.all_seats ∙ sym all)) ∙ r.once x

-- what a seat keeps at a draw
module _ (total n : ℕ) (ended : Bool) (view after : List (List ℕ)) (going : ended ≡ false) (seat : IsDrawer total ended view) (drew : HasDrawn view n after) where
  all_below : AreBelow total (only view)
  all_below = subst (λ b. Continues total b (only view)) going seat.continues

  longer : after ≡ (only view ++ n ∷ []) ∷ []
  longer = (drew (only view) seat.one).0

  pub rises_still : Rises (only after)
  rises_still = subst (λ (l : List (List ℕ)). Rises (only l)) (sym longer) (rises_more n (only view) seat.rises (drew (only view) seat.one).1)

  one_still : after ≡ only after ∷ []
  one_still = subst (λ (l : List (List ℕ)). l ≡ only l ∷ []) (sym longer) refl

  pub goes_on_drawing : n < total → IsDrawer total ended after
  goes_on_drawing small = record {
    one = one_still;
    rises = rises_still;
    continues =
        subst (λ b. Continues total b (only after)) (sym going)
        (subst (λ (l : List (List ℕ)). AreBelow total (only l)) (sym longer) (below_more total n (only view) small all_below));
  }

  pub ends_drawing : total ≤ n → IsDrawer total true after
  ends_drawing past = record {
    one = one_still;
    rises = rises_still;
    continues = record { front = only view; last = n; split = ap only longer; below = all_below; past = past };
  }

-- the list of a seat is joined to others
pub weigh_joined : (f : List ℕ → ℕ) (view other after : List (List ℕ)) (drawn : List ℕ)
    → after ≡ view ++ other → other ≡ drawn ∷ [] → weigh f after ≡ weigh f view + f drawn
weigh_joined f view other after drawn joined one =
    rw (joined, one) (let a = weigh-append f view (drawn ∷ []) in omega arith)

-- the seats that are left to be cut
pub first_left : (n k : ℕ) → k < n → take 1 (drop k (replicate n (nothing))) ≡ nothing ∷ []
first_left n k small = let more : n - k ≡ suc (n - k - 1) = omega arith in rw (drop-replicate k n nothing, more) refl

pub last_left : (n k : ℕ) → k + 1 ≡ n → drop k (replicate n nothing) ≡ nothing ∷ []
last_left n k is = let one : n - k ≡ 1 = omega arith in rw (drop-replicate k n nothing, one) refl

-- the last of the seats goes
pub one_fewer : {A : Type 0} (f : A → ℕ) (xs ys : List A) (x : A) → xs ≡ ys ++ x ∷ [] → weigh f xs ≡ weigh f ys + f x
one_fewer f xs ys x is = rw is (let a = weigh-append f ys (x ∷ []) in omega arith)

weigh_ones : {A : Type 0} (xs : List A) → weigh (λ _. 1) xs ≡ length xs
weigh_ones [] = refl
weigh_ones (x ∷ xs) = let r = weigh_ones xs in omega arith

word_is : (words : List ℕ) (word : ℕ) → get_elem? words 0 ≡ some word → get_or words 0 0 ≡ word
word_is [] word at = absurd (some-ne-none word (sym at))
word_is (w ∷ words) word at = some-injective w word at

-- once one seat has all lists, the numbers of all seats are those below the word
pub closed_draws : (total seats id word : ℕ) (first view : List (List ℕ)) (drawn : List ℕ) (others : List TicketSeat) (words : List ℕ)
    → first ≡ drawn ∷ []
    → ((f : List ℕ → ℕ) → weigh f view ≡ weigh f first + weigh (λ (d : TicketSeat). f d.drawn) others)
    → length others + 1 ≡ seats
    → (s : St) → IsDrawn total seats s.words s.views → get_elem? s.views id ≡ some view → s.words ≡ words → get_elem? words 0 ≡ some word
    → (x : ℕ) → weigh (λ (d : TicketSeat). occurrences x d.drawn) others + occurrences x drawn ≡ once_below x word
closed_draws total seats id word first view drawn others words one joined all s r at same here x =
    let lists = joined (λ _. 1) in
    let ones = weigh_ones others in
    let first_one : weigh (λ (l : List ℕ). 1) first ≡ 1 = ap (λ (l : List (List ℕ)). weigh (λ (y : List ℕ). 1) l) one in
    let closed = closes total seats words id view (omega arith) s r at x in
    let numbers = joined (occurrences x) in
    let first_numbers : weigh (occurrences x) first ≡ occurrences x drawn + 0 = ap (λ (l : List (List ℕ)). weigh (occurrences x) l) one in
    let word_at = ap (once_below x) (ap (λ (ws : List ℕ). get_or ws 0 0) same ∙ word_is words word here) in omega arith

-- what is true of all is true of the first of them
pub All-front : {X : Type 0} (P : X → Type 0) (xs ys zs : List X) → zs ≡ xs ++ ys → All P zs → All P xs
All-front P xs ys zs is all k d small =
    subst P (ap (λ (l : List _). get_or l k d) is ∙ get_or_append_left xs ys d k small) (all k d (let e = ap length is in let l = length-append xs ys in omega arith))
