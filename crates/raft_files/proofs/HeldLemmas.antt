-- Files that are held go on being those that were asked for.
use Rattle.raft_files.proofs.Common.{◌≡◌, ℕ, zero, suc, ◌+◌, ◌-◌, ◌<◌, ◌≤◌, List, [], ◌∷◌, ◌++◌, length, drop, take, map, Vec, refl, sym, ap, ◌∙◌, arith, subst, length-append, drop-append-le, length-drop, length-map, Global, Append, Rewrite, Act, Put, Begin, Delete, Cut, Ask}
use Rattle.raft_files.proofs.Common.{ask, acts_on, NumberedBytes, on_last, put_behind, cut_last, begun, deletions, AreHeld, AreBothHeld, file_shown}

pub length_on_last : (change : List ℕ → List ℕ) (files : List NumberedBytes) → length (on_last change files) ≡ length files
length_on_last change [] = refl
length_on_last change (f ∷ []) = refl
length_on_last change (f ∷ g ∷ files) = ap suc (length_on_last change (g ∷ files))

pub drop_on_last : (change : List ℕ → List ℕ) (n : ℕ) (files : List NumberedBytes) → n < length files → on_last change (drop n files) ≡ drop n (on_last change files)
drop_on_last change n [] lt = absurd (omega (arith, lt))
drop_on_last change zero (f ∷ files) lt = refl
drop_on_last change (suc n) (f ∷ []) lt = absurd (omega (arith, lt))
drop_on_last change (suc n) (f ∷ g ∷ files) lt = drop_on_last change n (g ∷ files) (omega (arith, lt))

pub drop_one : (n : ℕ) (files : List NumberedBytes) → drop 1 (drop n files) ≡ drop (suc n) files
drop_one zero [] = refl
drop_one zero (f ∷ files) = refl
drop_one (suc n) [] = refl
drop_one (suc n) (f ∷ files) = drop_one n files

some_left : (acts : List Act) (files : List NumberedBytes) → AreHeld acts files → 0 < length files → deletions acts < length (begun acts)
some_left acts files k some = let e : length files ≡ length (begun acts) - deletions acts = ap length k.held ∙ length-drop (deletions acts) (begun acts) in omega (arith, e, some)

pub held_put : (acts : List Act) (files new : List NumberedBytes) (bytes : List ℕ) → AreHeld acts files → 0 < length files → new ≡ on_last (λ old. old ++ bytes) files → AreHeld (Put bytes ∷ acts) new
held_put acts files new bytes k some e =
    let lt : deletions acts < length (begun acts) = some_left acts files k some in
    record { held = e ∙ ap (on_last (λ old. old ++ bytes)) k.held ∙ drop_on_last (λ old. old ++ bytes) (deletions acts) (begun acts) lt; few = subst (λ n. deletions acts ≤ n) (sym (length_on_last (λ old. old ++ bytes) (begun acts))) k.few }

pub held_cut : (acts : List Act) (files new : List NumberedBytes) (len : ℕ) → AreHeld acts files → 0 < length files → new ≡ on_last (λ old. take len old) files → AreHeld (Cut len ∷ acts) new
held_cut acts files new len k some e =
    let lt : deletions acts < length (begun acts) = some_left acts files k some in
    record { held = e ∙ ap (on_last (λ old. take len old)) k.held ∙ drop_on_last (λ old. take len old) (deletions acts) (begun acts) lt; few = subst (λ n. deletions acts ≤ n) (sym (length_on_last (λ old. take len old) (begun acts))) k.few }

pub held_begin : (acts : List Act) (files new : List NumberedBytes) (seq : ℕ) → AreHeld acts files → new ≡ files ++ (seq, []) ∷ [] → AreHeld (Begin seq ∷ acts) new
held_begin acts files new seq k e =
    let n : length (begun acts ++ (seq, []) ∷ []) ≡ length (begun acts) + 1 = length-append (begun acts) ((seq, []) ∷ []) in
    record { held = e ∙ ap (λ fs. fs ++ (seq, []) ∷ []) k.held ∙ sym (drop-append-le (deletions acts) (begun acts) ((seq, []) ∷ []) k.few); few = omega (arith, n, k.few) }

pub held_delete : (acts : List Act) (files new : List NumberedBytes) → AreHeld acts files → 0 < length files → new ≡ drop 1 files → AreHeld (Delete ∷ acts) new
held_delete acts files new k some e =
    record { held = e ∙ ap (drop 1) k.held ∙ drop_one (deletions acts) (begun acts); few = let lt : deletions acts < length (begun acts) = some_left acts files k some in omega (arith, lt) }

-- ---- of one queue, where the other is as it was

module _ (asked new : List Ask) (a r : List NumberedBytes) (both : AreBothHeld asked a r) where
  pub put_append : (more : List NumberedBytes) (bytes : List ℕ) → 0 < length a → more ≡ put_behind bytes a → new ≡ ask Append (Put bytes) ∷ asked → AreBothHeld new more r
  put_append more bytes some e is = subst (λ asks. AreBothHeld asks more r) (sym is) (held_put (acts_on Append asked) a more bytes both.0 some e, both.1)

  pub put_rewrite : (more : List NumberedBytes) (bytes : List ℕ) → 0 < length r → more ≡ put_behind bytes r → new ≡ ask Rewrite (Put bytes) ∷ asked → AreBothHeld new a more
  put_rewrite more bytes some e is = subst (λ asks. AreBothHeld asks a more) (sym is) (both.0, held_put (acts_on Rewrite asked) r more bytes both.1 some e)

  pub cut_append : (more : List NumberedBytes) (len : ℕ) → 0 < length a → more ≡ cut_last len a → new ≡ ask Append (Cut len) ∷ asked → AreBothHeld new more r
  cut_append more len some e is = subst (λ asks. AreBothHeld asks more r) (sym is) (held_cut (acts_on Append asked) a more len both.0 some e, both.1)

  pub cut_rewrite : (more : List NumberedBytes) (len : ℕ) → 0 < length r → more ≡ cut_last len r → new ≡ ask Rewrite (Cut len) ∷ asked → AreBothHeld new a more
  cut_rewrite more len some e is = subst (λ asks. AreBothHeld asks a more) (sym is) (both.0, held_cut (acts_on Rewrite asked) r more len both.1 some e)

  pub begin_append : (more : List NumberedBytes) (seq : ℕ) → more ≡ a ++ (seq, []) ∷ [] → new ≡ ask Append (Begin seq) ∷ asked → AreBothHeld new more r
  begin_append more seq e is = subst (λ asks. AreBothHeld asks more r) (sym is) (held_begin (acts_on Append asked) a more seq both.0 e, both.1)

  pub begin_rewrite : (more : List NumberedBytes) (seq : ℕ) → more ≡ r ++ (seq, []) ∷ [] → new ≡ ask Rewrite (Begin seq) ∷ asked → AreBothHeld new a more
  begin_rewrite more seq e is = subst (λ asks. AreBothHeld asks a more) (sym is) (both.0, held_begin (acts_on Rewrite asked) r more seq both.1 e)

  pub delete_append : (more : List NumberedBytes) → 0 < length a → more ≡ drop 1 a → new ≡ ask Append Delete ∷ asked → AreBothHeld new more r
  delete_append more some e is = subst (λ asks. AreBothHeld asks more r) (sym is) (held_delete (acts_on Append asked) a more both.0 some e, both.1)

  pub delete_rewrite : (more : List NumberedBytes) → 0 < length r → more ≡ drop 1 r → new ≡ ask Rewrite Delete ∷ asked → AreBothHeld new a more
  delete_rewrite more some e is = subst (λ asks. AreBothHeld asks a more) (sym is) (both.0, held_delete (acts_on Rewrite asked) r more both.1 some e)

pub shown_some : (xs : List (ℕ × Vec ℕ Global)) → 0 < length xs → 0 < length (map file_shown xs)
shown_some xs some = subst (λ n. 0 < n) (sym (length-map xs file_shown)) some
