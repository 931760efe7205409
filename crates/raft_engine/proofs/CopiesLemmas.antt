-- Why copies of files in memory aren't opened.
use Rattle.raft_engine.proofs.Common.{◌≡◌, inl, ℕ, List, refl, sym, subst, Error, Version, Ask, NumberedBytes, IsMemoryFault, found_asks, AreUnrecoveredAs, IsUnopened, TolerateTornTail}
use Rattle.raft_base.specs.declared.errors.Error.TheVariants as errors

module _ (version : Version) (workers : ℕ) (append rewrite : List NumberedBytes) where
  abbrev pub IsUncopied : Error → Type 0
  IsUncopied e = (asks : List Ask) × IsUnopened (AreUnrecoveredAs version workers) IsMemoryFault TolerateTornTail version append rewrite asks e

  pub for_memory : (e : Error) → e ≡ errors.Memory → IsUncopied e
  for_memory e is = (found_asks append rewrite, inl (refl, λ other. absurd (other is)))

  -- of equal files, for an equal error
  pub for_reason : (append' rewrite' : List NumberedBytes) (asks : List Ask) (u e : Error) → append' ≡ append → rewrite' ≡ rewrite
      → IsUnopened (AreUnrecoveredAs version workers) IsMemoryFault TolerateTornTail version append' rewrite' asks u → e ≡ u → IsUncopied e
  for_reason append' rewrite' asks u e same_append same_rewrite why same = (
    asks,
    subst (λ (a : List NumberedBytes). IsUnopened (AreUnrecoveredAs version workers) IsMemoryFault TolerateTornTail version a rewrite asks e) same_append
        (subst (λ (r : List NumberedBytes). IsUnopened (AreUnrecoveredAs version workers) IsMemoryFault TolerateTornTail version append' r asks e) same_rewrite
        (subst (IsUnopened (AreUnrecoveredAs version workers) IsMemoryFault TolerateTornTail version append' rewrite' asks) (sym same) why)),
  )
