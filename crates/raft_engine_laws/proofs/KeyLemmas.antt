-- The last word on a key, and which steps take it away.
use Rattle.raft_engine_laws.proofs.Common.{◌≡◌, ℕ, Bool, true, false, cond, ◌||◌, List, [], ◌∷◌, ◌++◌, Option, Some, None, refl, sym, ap, subst, ◌∙◌, AllByRecursion, list_any, option_or, option_and_then, false≢true, Stored, is_same_key, speaks_of_key, said_of_key, last_that}
use Rattle.raft_engine_laws.proofs.Common.{last_pair, has_clean, Step, Run, Compact, Truncate, Put, Del, AtomicGroup, Clean, is_key_spoken, is_key_dropped, drops_key}
use Rattle.raft_engine_laws.proofs.TestLemmas.{or_first, or_later, any_weaker}

-- ---- the last step that passes a test

-- no step passes, so none is the last that does
pub none_that : (p : Step → Bool) (ss : List Step) → list_any p ss ≡ false → last_that p ss ≡ None
none_that p [] h = refl
none_that p (s ∷ ss) h = go (p s) refl h (none_that p ss)
  where
    go : (b : Bool) → p s ≡ b → (b || list_any p ss) ≡ false → (list_any p ss ≡ false → last_that p ss ≡ None) → option_or (last_that p ss) (cond (p s) (Some s) None) ≡ None
    go true e h rest = absurd (false≢true (sym h))
    go false e h rest = rw (rest h, e) refl

-- some step passes, so there is a last one
some_that : (p : Step → Bool) (ss : List Step) → list_any p ss ≡ true → (x : Step) × (last_that p ss ≡ Some x)
some_that p [] h = absurd (false≢true h)
some_that p (s ∷ ss) h = go (list_any p ss) refl (p s) refl h (some_that p ss)
  where
    go : (a : Bool) → list_any p ss ≡ a → (b : Bool) → p s ≡ b → (b || a) ≡ true → (list_any p ss ≡ true → (x : Step) × (last_that p ss ≡ Some x)) → (x : Step) × (option_or (last_that p ss) (cond (p s) (Some s) None) ≡ Some x)
    go true e b f h rest = let r : (x : Step) × (last_that p ss ≡ Some x) = rest e in (r.0, ap (λ o. option_or o (cond (p s) (Some s) None)) r.1)
    go false e true f h rest = (s, ap (λ b. option_or (last_that p ss) (cond b (Some s) None)) f ∙ ap (λ o. option_or o (Some s)) (none_that p ss e))
    go false e false f h rest = absurd (false≢true h)

-- where some of the later steps pass, the last one is of these
last-later : (p : Step → Bool) (ss tt : List Step) → list_any p tt ≡ true → last_that p (ss ++ tt) ≡ last_that p tt
last-later p [] tt h = refl
last-later p (s ∷ ss) tt h = ap (λ o. option_or o (cond (p s) (Some s) None)) (last-later p ss tt h) ∙ some (some_that p tt h)
  where
    some : (x : Step) × (last_that p tt ≡ Some x) → option_or (last_that p tt) (cond (p s) (Some s) None) ≡ last_that p tt
    some x = ap (λ o. option_or o (cond (p s) (Some s) None)) x.1 ∙ sym x.1

-- where none of the later steps passes, the last one is of those before
last-front : (p : Step → Bool) (ss tt : List Step) → list_any p tt ≡ false → last_that p (ss ++ tt) ≡ last_that p ss
last-front p [] tt h = none_that p tt h
last-front p (s ∷ ss) tt h = ap (λ o. option_or o (cond (p s) (Some s) None)) (last-front p ss tt h)

pub pair_later : (key : List ℕ) (ss tt : List Step) → is_key_spoken tt key ≡ true → last_pair key (ss ++ tt) ≡ last_pair key tt
pair_later key ss tt h = ap (option_and_then said_of_key) (last-later (speaks_of_key key) ss tt h)

pub pair_prefix : (key : List ℕ) (ss tt : List Step) → is_key_spoken tt key ≡ false → last_pair key (ss ++ tt) ≡ last_pair key ss
pair_prefix key ss tt h = ap (option_and_then said_of_key) (last-front (speaks_of_key key) ss tt h)

-- the last step is one of the steps, so it is such as they all are
last_such : (P : Step → Type 0) (p : Step → Bool) (ss : List Step) → AllByRecursion P ss → (s : Step) → last_that p ss ≡ Some s → P s
last_such P p [] h s e = absurd cc
last_such P p (z ∷ zs) h s e = one (last_that p zs) refl (p z) e (last_such P p zs h.1)
  where
    is : {x y : Step} → Some x ≡ Some y → x ≡ y
    is e = cc

    one : (o : Option Step) → last_that p zs ≡ o → (b : Bool) → option_or o (cond b (Some z) None) ≡ Some s → ((s : Step) → last_that p zs ≡ Some s → P s) → P s
    one (Some y) k b e rest = subst P (is e) (rest y k)
    one None k true e rest = subst P (is e) h.0
    one None k false e rest = absurd cc

-- the last pair is such as each step says
pub pair_such : (P : Step → Type 0) (Q : Stored → Type 0) → ((s : Step) (x : Stored) → P s → said_of_key s ≡ Some x → Q x) → (key : List ℕ) (ss : List Step) (x : Stored) → AllByRecursion P ss → last_pair key ss ≡ Some x → Q x
pair_such P Q says key ss x h e = go (last_that (speaks_of_key key) ss) refl e
  where
    go : (o : Option Step) → last_that (speaks_of_key key) ss ≡ o → option_and_then said_of_key o ≡ Some x → Q x
    go None k e = absurd cc
    go (Some s) k e = says s x (last_such P (speaks_of_key key) ss h s k) e

-- ---- keys that are taken away

-- a step that takes a key away speaks of it
drop_speaks : (key : List ℕ) (s : Step) → drops_key key s ≡ true → speaks_of_key key s ≡ true
drop_speaks key (Run run) h = absurd (false≢true h)
drop_speaks key (Compact i) h = absurd (false≢true h)
drop_speaks key (Truncate i) h = absurd (false≢true h)
drop_speaks key (Put k value file) h = absurd (false≢true h)
drop_speaks key (Del k) h = h
drop_speaks key (AtomicGroup a b) h = absurd (false≢true h)
drop_speaks key Clean h = refl

-- so a key that no step speaks of is taken away by none
pub not_dropped : (key : List ℕ) (ss : List Step) → is_key_spoken ss key ≡ false → is_key_dropped ss key ≡ false
not_dropped key ss k = go (is_key_dropped ss key) refl
  where
    go : (b : Bool) → is_key_dropped ss key ≡ b → b ≡ false
    go false e = refl
    go true e = absurd (false≢true (sym k ∙ any_weaker (drops_key key) (speaks_of_key key) (drop_speaks key) ss e))

pub not_dropping : (key : List ℕ) (s : Step) → speaks_of_key key s ≡ false → drops_key key s ≡ false
not_dropping key s e = go (drops_key key s) refl
  where
    go : (b : Bool) → drops_key key s ≡ b → b ≡ false
    go false k = refl
    go true k = absurd (false≢true (sym e ∙ drop_speaks key s k))

-- a step that speaks of a key and says no pair takes it away
pub said_drops : (key : List ℕ) (s : Step) → speaks_of_key key s ≡ true → said_of_key s ≡ None → drops_key key s ≡ true
said_drops key (Put k value file) h e = absurd cc
said_drops key (Run run) h e = absurd (false≢true h)
said_drops key (Compact i) h e = absurd (false≢true h)
said_drops key (Truncate i) h e = absurd (false≢true h)
said_drops key (Del k) h e = h
said_drops key (AtomicGroup a b) h e = absurd (false≢true h)
said_drops key Clean h e = refl

-- where the last word says no pair, some step takes the key away
pub no_word : (key : List ℕ) (ss : List Step) → is_key_spoken ss key ≡ true → last_pair key ss ≡ None → is_key_dropped ss key ≡ true
no_word key [] h e = absurd (false≢true h)
no_word key (s ∷ ss) h e = go (is_key_spoken ss key) refl (speaks_of_key key s) refl h e (no_word key ss)
  where
    same_last : (o : Option Step) → option_and_then said_of_key (option_or (last_that (speaks_of_key key) ss) o) ≡ None → is_key_spoken ss key ≡ true → last_pair key ss ≡ None
    same_last o e h = let x = some_that (speaks_of_key key) ss h in ap (option_and_then said_of_key) x.1 ∙ sym (ap (λ y. option_and_then said_of_key (option_or y o)) x.1) ∙ e

    go : (a : Bool) → is_key_spoken ss key ≡ a → (b : Bool) → speaks_of_key key s ≡ b → (b || a) ≡ true → option_and_then said_of_key (option_or (last_that (speaks_of_key key) ss) (cond b (Some s) None)) ≡ None
        → (is_key_spoken ss key ≡ true → last_pair key ss ≡ None → is_key_dropped ss key ≡ true) → (drops_key key s || is_key_dropped ss key) ≡ true
    go true k b m h e rest = or_later (drops_key key s) (is_key_dropped ss key) (rest k (same_last (cond b (Some s) None) e k))
    go false k true m h e rest = or_first (drops_key key s) (is_key_dropped ss key) (said_drops key s m (sym (ap (λ o. option_and_then said_of_key (option_or o (Some s))) (none_that (speaks_of_key key) ss k)) ∙ e))
    go false k false m h e rest = absurd (false≢true h)

-- a Clean speaks of every key
pub clean_speaks : (ss : List Step) → has_clean ss ≡ true → (key : List ℕ) → is_key_spoken ss key ≡ true
clean_speaks [] c key = c
clean_speaks (Run run ∷ ss) c key = clean_speaks ss c key
clean_speaks (Compact i ∷ ss) c key = clean_speaks ss c key
clean_speaks (Truncate i ∷ ss) c key = clean_speaks ss c key
clean_speaks (Put k value file ∷ ss) c key = or_later (is_same_key key k) (is_key_spoken ss key) (clean_speaks ss c key)
clean_speaks (Del k ∷ ss) c key = or_later (is_same_key key k) (is_key_spoken ss key) (clean_speaks ss c key)
clean_speaks (AtomicGroup a b ∷ ss) c key = clean_speaks ss c key
clean_speaks (Clean ∷ ss) c key = refl
