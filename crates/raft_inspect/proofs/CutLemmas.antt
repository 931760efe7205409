-- Cuts of which one failed.
use Rattle.raft_inspect.proofs.Common.{◌≡◌, inl, ℕ, List, [], ◌∷◌, ◌++◌, Result, Ok, Err, IfErr, OnErr, refl, sym, ap, ◌∙◌, subst, append_assoc, Error, Ask, MayBeAsked, failed_ask, Version, FileId, IoError, FileSize, Failures, FailsAmong, PrintError, Files, Output, IsCutFault}
use Rattle.raft_inspect.proofs.Common.{IsUnprinted}

module _ (MayFail : Failures) where
  -- the only one
  pub one_failed : {T : Type 0} (r : Result T Error) (a : Ask) (old new : List Ask) → OnErr r (MayBeAsked (failed_ask a) old new) → IfErr r (MayFail old a) → IfErr r (FailsAmong MayFail (a ∷ []) old new)
  one_failed (Ok t) a old new may why = tt
  one_failed (Err e) a old new may why = record { later = []; failed = a; earlier = []; split = refl; asked = may; why = why }

  -- among the first ones
  pub first_failed : (more first old new : List Ask) (e : Error) → FailsAmong MayFail first old new e → FailsAmong MayFail (more ++ first) old new e
  first_failed more first old new e f = record {
    later = more ++ f.later;
    failed = f.failed;
    earlier = f.earlier;
    split = ap (λ (l : List Ask). more ++ l) f.split ∙ sym (append_assoc more f.later (f.failed ∷ f.earlier));
    asked = f.asked;
    why = f.why;
  }

  -- behind the first ones
  pub more_failed : {T : Type 0} (r : Result T Error) (more first old between new : List Ask) → between ≡ first ++ old → IfErr r (FailsAmong MayFail more between new) → IfErr r (FailsAmong MayFail (more ++ first) old new)
  more_failed (Ok t) more first old between new all f = tt
  more_failed (Err e) more first old between new all f =
      let same : f.earlier ++ between ≡ (f.earlier ++ first) ++ old = ap (λ (l : List Ask). f.earlier ++ l) all ∙ sym (append_assoc f.earlier first old) in
      record {
        later = f.later;
        failed = f.failed;
        earlier = f.earlier ++ first;
        split = ap (λ (l : List Ask). l ++ first) f.split ∙ append_assoc f.later (f.failed ∷ f.earlier) first;
        asked = subst (λ (l : List Ask). MayBeAsked (failed_ask f.failed) l new) same f.asked;
        why = subst (λ (l : List Ask). MayFail l f.failed e) same f.why;
      }

  -- nothing was asked where nothing is printed
  pub none_cut : (Gives : FileId → ℕ → List ℕ → Type 0) (Fails : FileId → ℕ → IoError → Type 0) (version : Version) (workers : ℕ) (append rewrite : List FileSize) (old new : List Ask) (f : PrintError) → IsUnprinted f → new ≡ old
      → IsCutFault MayFail Gives Fails version workers append rewrite old new f
  none_cut Gives Fails version workers append rewrite old new (Files e) is same = inl ((λ other. absurd (other is)), same)
  none_cut Gives Fails version workers append rewrite old new (Output e) is same = same
