-- What a check has found and printed.
use Rattle.raft_inspect.proofs.Common.{◌≡◌, ◌↔◌, ◌++◌, inl, inr, ℕ, List, Option, None, length, sym, subst, true, Appends, FileId, Append, Rewrite, Version, IoError, FileSize, files_sound, Form, AreBothScansPrinted, CutsNothing, IsCheckCutShort, IsChecked, IsCheckPrinted, IsTextCutShort, IsOpeningOf, IsNothingWrong, Findings, Opening}
use Rattle.raft_inspect.proofs.Common.{Keeps, UndamagedQueues, ending_lines, scans_lines}
use Rattle.raft_inspect.proofs.OpeningLemmas.{opening_uncut}
use Rattle.raft_inspect.proofs.PrintedLemmas.{appends_both, appends_front, nothing_behind}

-- what scans of both queues' files and a trial of an opening found
pub record IsFound (append rewrite : List FileSize) (undamaged : UndamagedQueues) (opening : Opening) (found : Findings) : Type 0 where
  pub append_counted : found.append_files ≡ length append
  pub rewrite_counted : found.rewrite_files ≡ length rewrite
  pub opens : found.opening ≡ opening
  pub verdict : (found.is_sound ≡ true) ↔ ((undamaged.append ≡ true) × (undamaged.rewrite ≡ true) × CutsNothing found.opening)

module _ (Gives : FileId → ℕ → List ℕ → Type 0) (Fails : FileId → ℕ → IoError → Type 0) (version : Version) (workers : ℕ) (append rewrite : List FileSize) (form : Form) (old now : Option (List ℕ)) (undamaged : UndamagedQueues)
    (scans : AreBothScansPrinted Gives version append rewrite form old now undamaged) where
  -- where nothing more is printed
  pub ends_with_scans : (new : Option (List ℕ)) → Keeps now new → IsCheckCutShort Gives Fails version workers append rewrite form old new
  ends_with_scans new kept = inl (inr (scans.between, undamaged.append, scans.of_append, nothing_behind Gives Rewrite version form rewrite undamaged.rewrite scans.between now new scans.of_rewrite kept))

  module _ (opening : Opening) (found : Findings) (opens : IsOpeningOf Gives Fails version workers append rewrite opening) (is : IsFound append rewrite undamaged opening found) where
    -- what was found is so
    checked : IsChecked Gives Fails version workers append rewrite scans.of_append.scans scans.of_rewrite.scans found
    checked =
        let opened = subst (λ (o : Opening). IsOpeningOf Gives Fails version workers append rewrite o) (sym is.opens) opens in
        let wrong : (found.is_sound ≡ true) ↔ IsNothingWrong scans.of_append.scans scans.of_rewrite.scans found.opening = (
          λ sound.
              let none = is.verdict.0 sound in
              record { append_undamaged = scans.of_append.undamaged.0 none.0; rewrite_undamaged = scans.of_rewrite.undamaged.0 none.1; uncut = none.2 },
          λ none. is.verdict.1 (scans.of_append.undamaged.1 none.append_undamaged, scans.of_rewrite.undamaged.1 none.rewrite_undamaged, none.uncut),
        ) in
        record {
          append_scanned = scans.of_append.scanned;
          rewrite_scanned = scans.of_rewrite.scanned;
          append_counted = is.append_counted;
          rewrite_counted = is.rewrite_counted;
          opening = opened;
          verdict = wrong;
          sound = λ sound.
              let none = wrong.0 sound in
              record {
                uncut = opening_uncut Gives Fails version append rewrite workers found.opening opened none.uncut;
                append_sound = files_sound Gives Append version append scans.of_append.scans scans.of_append.scanned none.append_undamaged;
                rewrite_sound = files_sound Gives Rewrite version rewrite scans.of_rewrite.scans scans.of_rewrite.scanned none.rewrite_undamaged;
              };
        }

    -- and it is printed to its end
    pub printed_so : (new : Option (List ℕ)) → Appends now new (ending_lines form found) → IsCheckPrinted Gives Fails version workers append rewrite form old new found
    printed_so new written =
        let first = scans_lines form Append None scans.of_append.scans in
        let second = scans_lines form Rewrite None scans.of_rewrite.scans in
        record {
          append_scans = scans.of_append.scans;
          rewrite_scans = scans.of_rewrite.scans;
          checked = checked;
          written = appends_both old scans.between new first (second ++ ending_lines form found) scans.of_append.written
              (appends_both scans.between now new second (ending_lines form found) scans.of_rewrite.written written);
        }

    -- or not
    pub ending_cut : (new : Option (List ℕ)) → IsTextCutShort now new (ending_lines form found) → IsCheckCutShort Gives Fails version workers append rewrite form old new
    ending_cut new (inl kept) = ends_with_scans new kept
    ending_cut new (inr front) =
        let first = scans_lines form Append None scans.of_append.scans in
        let second = scans_lines form Rewrite None scans.of_rewrite.scans in
        inr (record {
          found = found;
          append_scans = scans.of_append.scans;
          rewrite_scans = scans.of_rewrite.scans;
          checked = checked;
          written = appends_front old scans.between new first (second ++ ending_lines form found) scans.of_append.written
              (appends_front scans.between now new second (ending_lines form found) scans.of_rewrite.written front);
        })
