-- Files that words name, and what is printed of them.
use Rattle.raft_recover.proofs.Common.{◌≡◌, ◌⊎◌, ◌<◌, ◌≤◌, inl, inr, ℕ, zero, suc, List, [], ◌∷◌, ◌++◌, Bor, Option, Result, IfErr, OnOk, IfErr-weaker, on_ok_weaker, get_or, map, length, take, drop, refl, subst, sym, ap, ◌∙◌, arith, Error, FileId}
use Rattle.raft_recover.proofs.Common.{AsksRecovery, AskedRecovery, AreSizesOf, FileSize, IsAppended, IsFilesPrintFailure, IsNamed, IsRecoveryFrontPrinted, IsRecoveryPrinted, NamedGives, PrintsFiles, path_shown, take-append-drop}
use Rattle.raft_recover.proofs.FileRecoveryLemmas.{of_named}

-- what begins with the old bytes has some bytes behind them
pub appended : (old new : List ℕ) → take (length old) new ≡ old → IsAppended (λ bytes. Unit {0}) old new
appended old new starts = record {
  bytes = drop (length old) new;
  given = tt;
  behind = sym (take-append-drop (length old) new) ∙ ap (λ xs. xs ++ drop (length old) new) starts;
}

-- a file that stands among others is named by its number and its path
named_at : (paths : List (ℕ × Bor (List ℕ))) (i : ℕ) (d : ℕ × Bor (List ℕ)) → i < length paths → IsNamed (map path_shown paths) (get_or paths i d).0 (get_or paths i d).1.now
named_at [] i d low = absurd (omega (arith, low))
named_at (x ∷ xs) zero d low = record { before = []; after = map path_shown xs; split = refl }
named_at (x ∷ xs) (suc i) d low =
    let rest = named_at xs i d (omega (arith, low)) in
    record { before = path_shown x ∷ rest.before; after = rest.after; split = ap (λ ys. path_shown x ∷ ys) rest.split }

-- a file at whose place this number stands is named by it
pub named_by : (paths : List (ℕ × Bor (List ℕ))) (i : ℕ) (d : ℕ × Bor (List ℕ)) (seq : ℕ) → i < length paths → (get_or paths i d).0 ≡ seq → IsNamed (map path_shown paths) seq (get_or paths i d).1.now
named_by paths i d seq low same = subst (λ (n : ℕ). IsNamed (map path_shown paths) n (get_or paths i d).1.now) same (named_at paths i d low)

-- what reads of a path gave, reads of the file gave that is named so
pub named_gives : (Gives : List ℕ → ℕ → List ℕ → Type 0) (named : List (ℕ × List ℕ)) (file : FileId) (path : List ℕ) (offset : ℕ) (old new : List ℕ) → IsNamed named file.seq path
    → IsAppended (Gives path offset) old new → IsAppended (NamedGives Gives named file offset) old new
named_gives Gives named file path offset old new is read = record { bytes = read.bytes; given = (path, is, read.given); behind = read.behind }

module _ (Gives : FileId → ℕ → List ℕ → Type 0) (words : List (List ℕ)) (recovery : AskedRecovery) (sizes : List FileSize) (old new : Option (List ℕ)) (asked : AsksRecovery words recovery) (are : AreSizesOf recovery.paths sizes) where
  pub recovery_printed : {X : Type 0} (printed : Result X Error) → (0 < recovery.workers) × (recovery.workers ≤ 256)
      → OnOk printed (PrintsFiles Gives recovery.queue recovery.version sizes old new) → OnOk printed (IsRecoveryPrinted words old new)
  recovery_printed printed workers = on_ok_weaker printed (λ p. record {
    recovery = recovery;
    asked = asked;
    files = p.files;
    workers = workers;
    of_paths = of_named Gives recovery.queue recovery.version recovery.paths sizes p.files are p.read;
    printed = p.printed;
  })

  pub recovery_unprinted : {X : Type 0} (K : Type 0) (printed : Result X Error) → IfErr printed (λ e. K ⊎ IsFilesPrintFailure Gives recovery.queue recovery.version sizes old new e)
      → IfErr printed (λ _. K ⊎ IsRecoveryFrontPrinted words old new)
  recovery_unprinted K printed = IfErr-weaker printed _ _ (λ e h. elim h [
    | inl kept ↦ inl kept
    | inr failed ↦ inr (record {
      recovery = recovery;
      asked = asked;
      files = failed.printed.files;
      of_paths = of_named Gives recovery.queue recovery.version recovery.paths sizes failed.printed.files are failed.printed.read;
      printed = failed.printed.printed;
    })
  ])
