-- The calls that make handles and take them apart, whatever these may hold: each moves two fields, and what they own goes with them.
use Rattle.raft_ffi.proofs.Common.{IsTrue, is_some, ghosts, handle_tells, Bx, D, B, word, box_typed, box_out, box_in, and_tt}
use Rattle.std.specs.Prelude.{Option, Some, None}
use Rattle.std.specs.contracts.alloc.Global as Heap
use Rattle.raft_ffi.proofs.Walks.{lit<, true≢false, ◌≡◌, refl, sym, subst, List, [], ◌∷◌, ◌++◌, Ura, Fn, Ty, Body, Local, Callee, tnil, tcons, ty_ptr, ty_struct, w64, local, value_local, place}
use Rattle.raft_ffi.proofs.Walks.{field, copy, int, assign, aggregate, rv_opd, seq, return, Val, vint, vstruct, of_list, ent, emp, id⊢, Fml, ftrue, fsep, Model, WpFn, Tables, Closed, Logic}
use Rattle.raft_ffi.proofs.Walks.{WpFn-mono, Item, ‵, raw, ◌⊛◌, ◌$◌, ◌∵◌, !, qed, by, move, drop, use1, join, split, fsplit, fjoin, suffices, done, feq_i, fpack, rewrite, agg, whole, sub, stop}
use Rattle.raft_ffi.proofs.Walks.{fld, lit, no_more, and_then, of_opd, returns, enter, alloc_all, pass_all, free_all, look_at, get, get_in, sets, fact, Running, tables, tables_of, yes}
use Rattle.raft_ffi.proofs.Walks.{RattleType, Valss, RawPtr, null_ptr, ptr_val, layout, Slot, plain, heard, nothing, within, shape, Ended, Clauses, closing, triple_of, Triple, entered, says}
use Rattle.raft_ffi.proofs.Walks.{Silent, Stays, stay_dropped, walk_of, ends_at, Goes-dropped, walk_Meets}
use Rattle.raft_ffi.specs.contracts.handles.Parts as Parts
use Rattle.raft_ffi.proofs.HandleSteps.{Handle, D as Values, held, value, made_value, box, type, row, ty, fields_at, Own, own_made}

-- a call with these locals and this body, by which a value becomes one of another type
abbrev pub code : List Local → Body → Fn
code locals body = record { lifetimes = 0; outlives = []; ty_params = []; givens = 0; params = 1; locals = locals; body = body }

module _ (From To : RattleType) where
  abbrev from : Slot 0
  from = plain (λ _. From)

  abbrev pub ended : Ended
  ended = record { signature = record { lifetimes = 0; outlives = []; params = from ∷ []; result = plain (λ _. To) }; kept = (yes, tt) }

  abbrev stayed : Stays ended.signature.params ended.kept
  stayed = (stay_dropped from yes, tt)

  module _ {M : Type 1} {𝓤 : Ura M} (𝓛 : Logic 𝓤) (clauses : Clauses 𝓤 ended) (fn : Fn) where
    -- the function was walked through
    abbrev pub Walked : Type 2
    Walked = (𝓣 : Tables 𝓤 𝓛.H) (z : (walk_of 𝓛 ended stayed clauses).Ghost)
        → ent 𝓤 ((walk_of 𝓛 ended stayed clauses).pre z) (WpFn 𝓤 𝓛.H 𝓣.C 𝓣.Λ fn (z.0.4.0 ++ []) ((walk_of 𝓛 ended stayed clauses).post z))

    -- it meets its clauses, where it runs
    abbrev pub Met : Type 2
    Met = (𝓜 : Model 𝓤 𝓛.H) (𝓡 : Running 𝓤 𝓛.H 𝓜) (k : Callee) → Closed 𝓤 𝓛.H (tables 𝓤 𝓛.H 𝓜 𝓡 𝓡.env).C (tables 𝓤 𝓛.H 𝓜 𝓡 𝓡.env).Λ k fn
        → Triple 𝓤 ((tables 𝓤 𝓛.H 𝓜 𝓡 𝓡.env).C k) (triple_of 𝓛 ended.signature (closing 𝓛 ended clauses))

    meets : Silent 𝓛 0 from yes → Walked → Met
    unfolding tables_of
    meets silent walk 𝓜 𝓡 k unfolded =
        let 𝓣 : Tables 𝓤 𝓛.H = tables_of 𝓤 𝓛.H 𝓜 (tables 𝓤 𝓛.H 𝓜 𝓡 𝓡.env) in
        entered 𝓤 𝓛.H (triple_of 𝓛 ended.signature (closing 𝓛 ended clauses)) 𝓣.C 𝓣.Λ k fn unfolded
        (walk_Meets 𝓛 ended stayed (Goes-dropped 𝓛 0 from yes silent, tt) clauses (WpFn 𝓤 𝓛.H 𝓣.C 𝓣.Λ fn) (WpFn-mono 𝓤 𝓛.H 𝓛.laws 𝓣 fn) (walk 𝓣))

module _ (h : Handle) where
  abbrev E : Bx
  E = box h

  abbrev Parted : RattleType
  Parted = Parts.the_row (held h) Heap.the_row ghosts

  abbrev parts_ty : Ty
  parts_ty = ty_struct (Parts.the_type (held h) Heap.the_row ghosts).name (tcons ty_ptr (tcons (layout Heap.the_row) tnil))

  abbrev empty_code : Fn
  empty_code = code (local (ty h) value_local ∷ local (layout Heap.the_row) value_local ∷ local ty_ptr value_local ∷ [])
      (seq (assign (place 2 []) (rv_opd (int w64 0))) (seq (assign (place 0 []) (aggregate (copy (place 2 []) ∷ copy (place 1 []) ∷ []))) return))

  -- both fields go from one struct to the other
  abbrev move_code : Ty → Ty → Fn
  move_code from to = code (local to value_local ∷ local from value_local ∷ local ty_ptr value_local ∷ local (layout Heap.the_row) value_local ∷ local ty_ptr value_local ∷ [])
      (seq (assign (place 2 []) (rv_opd (copy (place 1 (field 0 ∷ []))))) (seq (assign (place 3 []) (rv_opd (copy (place 1 (field 1 ∷ []))))) (seq (assign (place 4 []) (rv_opd (copy (place 2 []))))
      (seq (assign (place 0 []) (aggregate (copy (place 4 []) ∷ copy (place 3 []) ∷ []))) return))))

  module _ {M : Type 1} {𝓤 : Ura M} (𝓛 : Logic 𝓤) where
    open 𝓛 use {H}

    abbrev empty_clauses : Clauses 𝓤 (ended Heap.the_row (row h))
    empty_clauses κs args = record { ghost = Unit {0}; requires = λ g. emp 𝓤; ensures = λ g res end. fact 𝓤 (value h res ≡ None) }

    abbrev of_clauses : Clauses 𝓤 (ended Parted (row h))
    of_clauses κs args = record { ghost = Unit {0}; requires = λ g. emp 𝓤; ensures = λ g res end. fact 𝓤 (value h res ≡ Some args.0.value) }

    abbrev into_clauses : Clauses 𝓤 (ended (row h) Parted)
    into_clauses κs args = record { ghost = Unit {0}; requires = λ g. fact 𝓤 (IsTrue (is_some (value h args.0))); ensures = λ g res end. fact 𝓤 (value h args.0 ≡ Some res.value) }

    empty_walk : Walked Heap.the_row (row h) 𝓛 empty_clauses empty_code
    empty_walk 𝓣 z =
        let W = walk_of 𝓛 (ended Heap.the_row (row h)) (stayed Heap.the_row (row h)) empty_clauses in
        let Post = W.post z in
        let a = z.0.3.0 in
        let made : Values h = h.make null_ptr a None in
        qed 𝓛 ((‵ ftrue ⊛ ‵ (fsep ((Heap.the_row).own_val a z.0.4.0) ftrue)) ∷ raw (emp 𝓤) ∷ []) ∵ split ! $ drop ! $ fsplit ! $
        handle_tells E.al ! a z.0.4.0 (λ hv ea fa. move ! (1 ∷ 2 ∷ []) $ drop ! $ drop ! $
        let w : Val = vstruct (of_list (ptr_val null_ptr ∷ hv ∷ [])) in
        let Γ : List (Item 𝓤) = ‵ ((Heap.the_row).own_val a (hv ∷ [])) ∷ [] in
        by ! (subst (λ (us : List Val). ent 𝓤 (types.Kit.⋆ 𝓛 Γ) (WpFn 𝓤 H 𝓣.C 𝓣.Λ empty_code (us ++ []) Post)) (sym ea)
        (qed 𝓛 Γ ∵ enter ! 𝓣.C 𝓣.Λ empty_code (hv ∷ []) _ $ alloc_all ! (λ ls. pass_all ! refl (fa, tt) $
        sets ! (of_opd ! (lit ! tt)) refl (tt, record { fits = lit< tt }) $
        sets ! (agg ! (and_then ! (get ! refl) (and_then ! (get ! refl) (no_more !)))) refl (and_tt _ fa.0, (record { fits = lit< tt }, (fa.1, tt))) $ returns ! (look_at ! 0 refl) $ free_all ! refl $
        nothing ! $ nothing ! $ move ! (2 ∷ 0 ∷ []) $ fjoin ! $ feq_i ! (List Val) (vint w64 0 ∷ []) (ptr_val null_ptr ∷ []) refl $ fjoin ! $
        feq_i ! (List Val) (w ∷ []) (w ∷ []) refl $ fjoin ! $
        fpack ! (Valss (RawPtr ∷ Heap.the_row ∷ [])) (within (shape (type h)) (fields_at h null_ptr a) (w ∷ [])) (vint w64 0 ∷ [], (hv ∷ [], tt)) $ fjoin ! $
        use1 𝓛 (‵ (Own h null_ptr a None (w ∷ []))) (id⊢ 𝓤 _) $ rewrite ! 0 (λ (f : Fml). ‵ f) (own_made h null_ptr a None (w ∷ [])) refl $
        suffices ! _ (ends_at 𝓛 (ended Heap.the_row (row h)) (stayed Heap.the_row (row h)) empty_clauses z w made (tt, tt) (tt, tt)) $ says ! (made_value h null_ptr a None) $
        nothing ! $ nothing ! $ fjoin ! $ join ! $ nothing ! $ join ! $ done !))))

    pub empty : Met Heap.the_row (row h) 𝓛 empty_clauses empty_code
    empty = meets Heap.the_row (row h) 𝓛 empty_clauses empty_code (λ κs x f. refl) empty_walk

    of_walk : Walked Parted (row h) 𝓛 of_clauses (move_code parts_ty (ty h))
    of_walk 𝓣 z =
        let fn = move_code parts_ty (ty h) in
        let Post = (walk_of 𝓛 (ended Parted (row h)) (stayed Parted (row h)) of_clauses).post z in
        let v : D E = record { ptr = z.0.3.0.ptr; alloc = z.0.3.0.alloc; value = z.0.3.0.value } in
        let made : Values h = h.make v.ptr v.alloc (Some v.value) in
        qed 𝓛 ((‵ ftrue ⊛ ‵ (fsep ((B E).own_val v z.0.4.0) ftrue)) ∷ raw (emp 𝓤) ∷ []) ∵ split ! $ drop ! $ fsplit ! $
        box_out E ! v z.0.4.0 (λ b o hv e ws fa. box_in E ! v b o v.value e refl $ use1 𝓛 (‵ (Own h v.ptr v.alloc (Some v.value) (word E hv b o ∷ []))) (id⊢ 𝓤 _) $
        rewrite ! 0 (λ (f : Fml). ‵ f) (own_made h v.ptr v.alloc (Some v.value) (word E hv b o ∷ [])) refl $ move ! (1 ∷ 2 ∷ []) $ drop ! $ drop ! $
        let w = word E hv b o in
        let Γ : List (Item 𝓤) = ‵ ((row h).own_val made (w ∷ [])) ∷ [] in
        by ! (subst (λ (us : List Val). ent 𝓤 (types.Kit.⋆ 𝓛 Γ) (WpFn 𝓤 H 𝓣.C 𝓣.Λ fn (us ++ []) Post)) (sym ws)
        (qed 𝓛 Γ ∵ enter ! 𝓣.C 𝓣.Λ fn (w ∷ []) _ $ alloc_all ! (λ ls. pass_all ! refl (box_typed E hv b o fa, tt) $
        sets ! (of_opd ! (get_in ! (fld ! refl (stop !)) (sub ! 0 refl (whole !)))) refl (tt, tt) $ sets ! (of_opd ! (get_in ! (fld ! refl (stop !)) (sub ! 1 refl (whole !)))) refl fa $
        sets ! (of_opd ! (get ! refl)) refl (tt, tt) $ sets ! (agg ! (and_then ! (get ! refl) (and_then ! (get ! refl) (no_more !)))) refl (box_typed E hv b o fa) $ returns ! (look_at ! 0 refl) $ free_all ! refl $
        suffices ! _ (ends_at 𝓛 (ended Parted (row h)) (stayed Parted (row h)) of_clauses z w made (tt, tt) (tt, tt)) $ says ! (made_value h v.ptr v.alloc (Some v.value)) $
        nothing ! $ nothing ! $ fjoin ! $ join ! $ nothing ! $ join ! $ done !))))

    pub of_parts : Met Parted (row h) 𝓛 of_clauses (move_code parts_ty (ty h))
    of_parts = meets Parted (row h) 𝓛 of_clauses (move_code parts_ty (ty h)) (λ κs x f. refl) of_walk

    abbrev passed : Values h → List Val → (walk_of 𝓛 (ended (row h) Parted) (stayed (row h) Parted) into_clauses).Ghost
    passed d vs = ((tt, tt, tt, (d, tt), (vs, tt)), tt)

    at_each : (𝓣 : Tables 𝓤 𝓛.H) (d : Values h) (vs : List Val) (o : Option h.of.Denot) → value h d ≡ o
        → ent 𝓤 ((walk_of 𝓛 (ended (row h) Parted) (stayed (row h) Parted) into_clauses).pre (passed d vs))
        (WpFn 𝓤 H 𝓣.C 𝓣.Λ (move_code (ty h) parts_ty) (vs ++ []) ((walk_of 𝓛 (ended (row h) Parted) (stayed (row h) Parted) into_clauses).post (passed d vs)))
    at_each 𝓣 d vs None is =
        qed 𝓛 ((‵ ftrue ⊛ ‵ (fsep ((row h).own_val d vs) ftrue)) ∷ raw (fact 𝓤 (IsTrue (is_some (value h d)))) ∷ []) ∵ move ! (1 ∷ []) $ heard ! (IsTrue (is_some (value h d)))
        (λ some. absurd (true≢false (sym (subst (λ (o : Option h.of.Denot). IsTrue (is_some o)) is some))))
    at_each 𝓣 d vs (Some x) is =
        let fn = move_code (ty h) parts_ty in
        let z = passed d vs in
        let Post = (walk_of 𝓛 (ended (row h) Parted) (stayed (row h) Parted) into_clauses).post z in
        let v : D E = record { ptr = (h.shown d).0; alloc = (h.shown d).1.0; value = x } in
        let made : Parted.Denot = record { ptr = v.ptr; alloc = v.alloc; value = v.value } in
        qed 𝓛 ((‵ ftrue ⊛ ‵ (fsep (Own h (h.shown d).0 (h.shown d).1.0 (value h d) vs) ftrue)) ∷ raw (fact 𝓤 (IsTrue (is_some (value h d)))) ∷ []) ∵ split ! $ drop ! $ fsplit ! $
        rewrite ! 0 (λ (o : Option h.of.Denot). ‵ (Own h (h.shown d).0 (h.shown d).1.0 o vs)) is refl $ use1 𝓛 (‵ ((B E).own_val v vs)) (id⊢ 𝓤 _) $
        box_out E ! v vs (λ b o hv e ws fa. box_in E ! v b o v.value e refl $ use1 𝓛 (‵ (Parted.own_val made (word E hv b o ∷ []))) (id⊢ 𝓤 _) $ move ! (1 ∷ 2 ∷ []) $ drop ! $ drop ! $
        let w = word E hv b o in
        let Γ : List (Item 𝓤) = ‵ (Parted.own_val made (w ∷ [])) ∷ [] in
        by ! (subst (λ (us : List Val). ent 𝓤 (types.Kit.⋆ 𝓛 Γ) (WpFn 𝓤 H 𝓣.C 𝓣.Λ fn (us ++ []) Post)) (sym ws)
        (qed 𝓛 Γ ∵ enter ! 𝓣.C 𝓣.Λ fn (w ∷ []) _ $ alloc_all ! (λ ls. pass_all ! refl (box_typed E hv b o fa, tt) $
        sets ! (of_opd ! (get_in ! (fld ! refl (stop !)) (sub ! 0 refl (whole !)))) refl (tt, tt) $ sets ! (of_opd ! (get_in ! (fld ! refl (stop !)) (sub ! 1 refl (whole !)))) refl fa $
        sets ! (of_opd ! (get ! refl)) refl (tt, tt) $ sets ! (agg ! (and_then ! (get ! refl) (and_then ! (get ! refl) (no_more !)))) refl (box_typed E hv b o fa) $ returns ! (look_at ! 0 refl) $ free_all ! refl $
        suffices ! _ (ends_at 𝓛 (ended (row h) Parted) (stayed (row h) Parted) into_clauses z w made (tt, tt) (tt, tt)) $ says ! is $
        nothing ! $ nothing ! $ fjoin ! $ join ! $ nothing ! $ join ! $ done !))))

    pub into_parts : Met (row h) Parted 𝓛 into_clauses (move_code (ty h) parts_ty)
    into_parts = meets (row h) Parted 𝓛 into_clauses (move_code (ty h) parts_ty) (λ κs x f. refl) (λ 𝓣 z. at_each 𝓣 z.0.3.0 z.0.4.0 (value h z.0.3.0) refl)
