-- Found files that are ready once what is missing of them was asked.
use Rattle.raft_engine.proofs.Common.{◌≡◌, ◌⊎◌, Result, Ok, Err, IfOk, OnOk, ℕ, List, [], ◌∷◌, ◌++◌, length, inl, inr, refl, sym, ap, ◌∙◌, subst, append_assoc, Error, LogQueue, Append, Rewrite, Version, Batch, Ask, NumberedBytes, cut_last, whole_file, AreConsecutive, numbers}
use Rattle.raft_engine.proofs.Common.{StopsAt, IsTailOf, IsTailTold, tail_of, AreAccepted, AreReadyBy, IsFoundFault, IsOfOther, IsOtherAs, IsTailRefused, IsTailRefusedAs, asks_that_tell, missing_asks, opening_asks, IsFileSound, IsUnsoundAs, AreReady, found_asks, Missing, Nothing}
use Rattle.raft_engine.proofs.Common.{FirstFile, CutTail, RecoveryMode}
use Rattle.raft_engine.specs.declared.missing.Missing.TheVariants.{Cut}
use Rattle.raft_engine.proofs.FoundLemmas.{one_last}

pub no_last : {A : Type 0} (closed : List A) (last : A) → [] ≡ closed ++ last ∷ [] → ⊥
no_last [] last e = absurd cc
no_last (c ∷ closed) last e = absurd cc

module _ (mode : RecoveryMode) (queue : LogQueue) (version : Version) (files : List NumberedBytes) (consecutive : AreConsecutive (numbers files)) where
  -- ---- no file

  module _ (none : files ≡ []) where
    pub first_accepted : AreAccepted mode queue version files
    first_accepted = record {
      consecutive = consecutive;
      tolerated = λ d. no_last d.closed d.last (sym none ∙ d.split);
      of_version = λ o. no_last o.closed o.last (sym none ∙ o.split);
      sound = λ closed last e. absurd (no_last closed last (sym none ∙ e));
    }

    pub first_ready : (missing : Missing) (left : List NumberedBytes) → missing ≡ FirstFile → left ≡ (1, []) ∷ [] → AreReadyBy queue version (missing_asks queue missing) files left
    first_ready missing left is first asks = record {
      consecutive = first_accepted.consecutive;
      of_version = first_accepted.of_version;
      sound = first_accepted.sound;
      ready = inl (record { none = none; asked = ap (λ (m : Missing). missing_asks queue m ++ asks) is; first = first });
    }

    pub first_told : (r : Result Missing Error) → IfOk r (λ missing. missing ≡ FirstFile) → IfOk r (λ missing. IsTailTold queue version files (tail_of missing))
    first_told (Err e) is = tt
    first_told (Ok missing) is =
        subst (λ (m : Missing). IsTailTold queue version files (tail_of m)) (sym is) (λ closed last e. absurd (no_last closed last (sym none ∙ e)))

    pub first_so : (r : Result Missing Error) (left : List NumberedBytes) → IfOk r (λ missing. missing ≡ FirstFile) → OnOk r (left ≡ (1, []) ∷ [])
        → IfOk r (λ missing. AreReadyBy queue version (missing_asks queue missing) files left) × OnOk r (AreAccepted mode queue version files)
    first_so (Err e) left is first = (tt, tt)
    first_so (Ok missing) left is first = (first_ready missing left is first, first_accepted)

  -- ---- the last file

  module _ (closed : List NumberedBytes) (last : NumberedBytes) (split : files ≡ closed ++ last ∷ []) where
    is_last : (closed' : List NumberedBytes) (last' : NumberedBytes) → files ≡ closed' ++ last' ∷ [] → last' ≡ last
    is_last closed' last' e = one_last closed' closed last' last (sym e ∙ split)

    pub last_accepted : ¬ (IsTailRefused mode (whole_file queue version last)) → ¬ (IsOfOther (whole_file queue version last)) → IsFileSound queue version last → AreAccepted mode queue version files
    last_accepted tolerated of_version sound = record {
      consecutive = consecutive;
      tolerated = λ d. tolerated (subst (λ (f : NumberedBytes). IsTailRefused mode (whole_file queue version f)) (is_last d.closed d.last d.split) d.tail);
      of_version = λ o. of_version (subst (λ (f : NumberedBytes). IsOfOther (whole_file queue version f)) (is_last o.closed o.last o.split) o.other);
      sound = λ closed' last' e. subst (IsFileSound queue version) (sym (is_last closed' last' e)) sound;
    }

    pub last_fault : (e : Error) → IsTailRefusedAs mode (whole_file queue version last) e ⊎ IsOtherAs (whole_file queue version last) e → IsFoundFault mode queue version files e
    last_fault e (inl d) = inr (inl (record { closed = closed; last = last; split = split; tail = d }))
    last_fault e (inr o) = inr (inr (inl (record { closed = closed; last = last; split = split; other = o })))

    pub block_fault : (e : Error) → (queue ≡ Rewrite) × IsUnsoundAs (whole_file queue version last) e → IsFoundFault mode queue version files e
    block_fault e u = inr (inr (inr (record { of_rewrite = u.0; closed = closed; last = last; split = split; unsound = u.1 })))

    pub untorn_ready : AreAccepted mode queue version files → StopsAt (whole_file queue version last) (length last.1) → AreReadyBy queue version (missing_asks queue Nothing) files files
    untorn_ready accepted stops asks = record {
      consecutive = accepted.consecutive;
      of_version = accepted.of_version;
      sound = accepted.sound;
      ready = inr (inl (record {
        asked = refl;
        same = refl;
        ends = λ closed' last' e. subst (λ (f : NumberedBytes). StopsAt (whole_file queue version f) (length f.1)) (sym (is_last closed' last' e)) stops;
      }));
    }

    pub cut_ready : AreAccepted mode queue version files → (tail : CutTail) (missing : Missing) (left : List NumberedBytes) → IsTailOf (whole_file queue version last) tail → missing ≡ Cut tail → left ≡ cut_last tail.offset files
        → AreReadyBy queue version (missing_asks queue missing) files left
    cut_ready accepted tail missing left told is cut asks = record {
      consecutive = accepted.consecutive;
      of_version = accepted.of_version;
      sound = accepted.sound;
      ready = inr (inr (record {
        at = tail.offset;
        closed = closed;
        last = last;
        split = split;
        torn = told.torn;
        asked = ap (λ (m : Missing). missing_asks queue m ++ asks) is;
        cut = cut;
      }));
    }

    -- ---- what is told of it

    pub untorn_told : (missing : Missing) → missing ≡ Nothing → StopsAt (whole_file queue version last) (length last.1) → IsTailTold queue version files (tail_of missing)
    untorn_told missing is stops =
        subst (λ (m : Missing). IsTailTold queue version files (tail_of m)) (sym is)
        (λ closed' last' e. subst (λ (f : NumberedBytes). StopsAt (whole_file queue version f) (length f.1)) (sym (is_last closed' last' e)) stops)

    pub cut_told : (tail : CutTail) (missing : Missing) → missing ≡ Cut tail → IsTailOf (whole_file queue version last) tail → IsTailTold queue version files (tail_of missing)
    cut_told tail missing is told =
        subst (λ (m : Missing). IsTailTold queue version files (tail_of m)) (sym is) (record { closed = closed; last = last; split = split; is = told })

-- ---- both queues

pub both_ready : (version : Version) (append rewrite append_left rewrite_left : List NumberedBytes) (append_missing rewrite_missing : List Ask)
    → AreReadyBy Append version append_missing append append_left → AreReadyBy Rewrite version rewrite_missing rewrite rewrite_left
    → AreReady version append rewrite append_left rewrite_left (rewrite_missing ++ (append_missing ++ found_asks append rewrite))
both_ready version append rewrite append_left rewrite_left append_missing rewrite_missing a b = record {
  between = append_missing ++ found_asks append rewrite;
  append_ready = a (found_asks append rewrite);
  rewrite_ready = b (append_missing ++ found_asks append rewrite);
}

pub opening_split : (version : Version) (append_missing rewrite_missing : List Ask) (seq : ℕ) (told : Batch) (first : List Ask)
    → opening_asks version append_missing rewrite_missing seq told ++ first ≡ asks_that_tell version seq told told.items ++ (rewrite_missing ++ (append_missing ++ first))
opening_split version append_missing rewrite_missing seq told first =
    append_assoc (asks_that_tell version seq told told.items) (rewrite_missing ++ append_missing) first
    ∙ ap (λ (l : List Ask). asks_that_tell version seq told told.items ++ l) (append_assoc rewrite_missing append_missing first)
