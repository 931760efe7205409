-- Scans that are printed one behind another.
use Rattle.raft_inspect.proofs.Common.{◌≡◌, ◌↔◌, inl, inr, ℕ, Bool, true, List, [], ◌∷◌, ◌++◌, Option, Some, None, refl, sym, ap, ◌∙◌, subst, append_assoc, append-nil, AllByRecursion, Appends, Keeps, AppendsFront, FileId, LogQueue, Version, FileSize, FileScan, AreScansOf, IsScanOf}
use Rattle.raft_inspect.proofs.Common.{Form, IoError, AreScansCutShort, AreScansPrinted, IsTextCutShort, IsOpeningCutShort, IsOpeningOf, IsScanCutShort, IsUndamaged, Opening, opening_lines, scan_lines, scans_lines}

-- ---- bytes behind bytes, where they are known

pub appends_both : (a b c : Option (List ℕ)) (x y : List ℕ) → Appends a b x → Appends b c y → Appends a c (x ++ y)
appends_both None b c x y first second = tt
appends_both (Some a) None c x y first second = absurd first
appends_both (Some a) (Some b) None x y first second = absurd second
appends_both (Some a) (Some b) (Some c) x y first second = second ∙ ap (λ (t : List ℕ). t ++ y) first ∙ append_assoc a x y

appends_none : (a : Option (List ℕ)) → Appends a a []
appends_none None = tt
appends_none (Some a) = sym (append-nil a)

pub keeps_same : (a : Option (List ℕ)) → Keeps a a
keeps_same None = tt
keeps_same (Some a) = refl

appends_kept : (a b c : Option (List ℕ)) (x : List ℕ) → Appends a b x → Keeps b c → Appends a c x
appends_kept None b c x first kept = tt
appends_kept (Some a) None c x first kept = absurd first
appends_kept (Some a) (Some b) None x first kept = absurd kept
appends_kept (Some a) (Some b) (Some c) x first kept = kept ∙ first

pub appends_front : (a b c : Option (List ℕ)) (x y : List ℕ) → Appends a b x → AppendsFront b c y → AppendsFront a c (x ++ y)
appends_front a b c x y first second = record {
  front = x ++ second.front;
  rest = second.rest;
  split = ap (λ (t : List ℕ). x ++ t) second.split ∙ sym (append_assoc x second.front second.rest);
  unfinished = second.unfinished;
  written = appends_both a b c x second.front first second.written;
}

-- ---- what an opening would do

module _ (Gives : FileId → ℕ → List ℕ → Type 0) (Fails : FileId → ℕ → IoError → Type 0) (version : Version) (workers : ℕ) (append rewrite : List FileSize) (form : Form) (opening : Opening) (opens : IsOpeningOf Gives Fails version workers append rewrite opening) where
  pub opening_cut : (old new : Option (List ℕ)) → IsTextCutShort old new (opening_lines form opening) → IsOpeningCutShort Gives Fails version workers append rewrite form old new
  opening_cut old new (inl kept) = inl kept
  opening_cut old new (inr front) = inr (opening, opens, record { prefix = front.front; rest = front.rest; split = front.split; written = front.written })

  pub opening_whole : (old new : Option (List ℕ)) → Appends old new (opening_lines form opening) → IsOpeningCutShort Gives Fails version workers append rewrite form old new
  opening_whole old new written = inr (opening, opens, record { prefix = opening_lines form opening; rest = []; split = sym (append-nil (opening_lines form opening)); written = written })

-- ---- scans

-- whether one more leaves all undamaged
undamaged_more : (scans : List FileScan) (scan : FileScan) → AllByRecursion IsUndamaged scans → IsUndamaged scan → AllByRecursion IsUndamaged (scans ++ scan ∷ [])
undamaged_more [] scan are is = (is, tt)
undamaged_more (s ∷ scans) scan are is = (are.0, undamaged_more scans scan are.1 is)

undamaged_parts : (scans : List FileScan) (scan : FileScan) → AllByRecursion IsUndamaged (scans ++ scan ∷ []) → AllByRecursion IsUndamaged scans × IsUndamaged scan
undamaged_parts [] scan are = (tt, are.0)
undamaged_parts (s ∷ scans) scan are = let rest = undamaged_parts scans scan are.1 in ((are.0, rest.0), rest.1)

module _ (Gives : FileId → ℕ → List ℕ → Type 0) (queue : LogQueue) (version : Version) where
  -- a scan of one file more
  one_scanned : (sizes : List FileSize) (scans : List FileScan) (size : FileSize) (scan : FileScan) → AreScansOf Gives queue version sizes scans → IsScanOf Gives queue version size scan
      → AreScansOf Gives queue version (sizes ++ size ∷ []) (scans ++ scan ∷ [])
  one_scanned [] [] size scan are is = (is, tt)
  one_scanned [] (s ∷ scans) size scan are is = absurd are
  one_scanned (z ∷ sizes) [] size scan are is = absurd are
  one_scanned (z ∷ sizes) (s ∷ scans) size scan are is = (are.0, one_scanned sizes scans size scan are.1 is)

  module _ (form : Form) where
    -- a scan whose lines are cut short
    pub scan_cut : (size : FileSize) (last : Option ℕ) (scan : FileScan) (old new : Option (List ℕ)) → IsScanOf Gives queue version size scan → IsTextCutShort old new (scan_lines form queue last scan) → IsScanCutShort Gives queue version size form last old new
    scan_cut size last scan old new is (inl kept) = inl kept
    scan_cut size last scan old new is (inr front) = inr (scan, is, front)

    -- the first files were scanned, what was found in them was printed, and it is known whether all is undamaged
    pub record IsPrinting (all left : List FileSize) (are_undamaged : Bool) (last : Option ℕ) (old now : Option (List ℕ)) : Type 0 where
      pub done : List FileSize
      pub split : all ≡ done ++ left
      pub scans : List FileScan
      pub scanned : AreScansOf Gives queue version done scans
      pub text : List ℕ
      pub lines : (rest : List FileScan) → scans_lines form queue None (scans ++ rest) ≡ text ++ scans_lines form queue last rest
      pub written : Appends old now text
      pub undamaged : (are_undamaged ≡ true) ↔ AllByRecursion IsUndamaged scans

    pub none_printed : (all : List FileSize) (old : Option (List ℕ)) → IsPrinting all all true None old old
    none_printed all old = record {
      done = [];
      split = refl;
      scans = [];
      scanned = tt;
      text = [];
      lines = λ rest. refl;
      written = appends_none old;
      undamaged = (λ yes. tt, λ yes. refl);
    }

    pub one_printed : (all left : List FileSize) (size : FileSize) (scan : FileScan) (before after : Bool) (last : Option ℕ) (old now new : Option (List ℕ)) → IsPrinting all (size ∷ left) before last old now → IsScanOf Gives queue version size scan
        → Appends now new (scan_lines form queue last scan) → ((after ≡ true) ↔ ((before ≡ true) × IsUndamaged scan)) → IsPrinting all left after (Some scan.seq) old new
    one_printed all left size scan before after last old now new p is written undamaged =
        let own = scan_lines form queue last scan in
        record {
          done = p.done ++ size ∷ [];
          split = p.split ∙ sym (append_assoc p.done (size ∷ []) left);
          scans = p.scans ++ scan ∷ [];
          scanned = one_scanned p.done p.scans size scan p.scanned is;
          text = p.text ++ own;
          lines = λ rest.
              ap (λ (s : List FileScan). scans_lines form queue None s) (append_assoc p.scans (scan ∷ []) rest) ∙ p.lines (scan ∷ rest) ∙ sym (append_assoc p.text own (scans_lines form queue (Some scan.seq) rest));
          written = appends_both old now new p.text own p.written written;
          undamaged = (
            λ yes. let both = undamaged.0 yes in undamaged_more p.scans scan (p.undamaged.0 both.0) both.1,
            λ are. let parts = undamaged_parts p.scans scan are in undamaged.1 (p.undamaged.1 parts.0, parts.1),
          );
        }

    -- the lines so far
    lines_now : (all left : List FileSize) (are_undamaged : Bool) (last : Option ℕ) (old now : Option (List ℕ)) (p : IsPrinting all left are_undamaged last old now) → scans_lines form queue None p.scans ≡ p.text
    lines_now all left are_undamaged last old now p = ap (λ (s : List FileScan). scans_lines form queue None s) (sym (append-nil p.scans)) ∙ p.lines [] ∙ append-nil p.text

    -- behind the last file
    pub all_printed : (all : List FileSize) (are_undamaged : Bool) (last : Option ℕ) (old now : Option (List ℕ)) → IsPrinting all [] are_undamaged last old now → AreScansPrinted Gives queue version all form old now are_undamaged
    all_printed all are_undamaged last old now p = record {
      scans = p.scans;
      scanned = subst (λ (sizes : List FileSize). AreScansOf Gives queue version sizes p.scans) (sym (p.split ∙ append-nil p.done)) p.scanned;
      written = subst (Appends old now) (sym (lines_now all [] are_undamaged last old now p)) p.written;
      undamaged = p.undamaged;
    }

    -- at a file that isn't printed to its end
    pub scans_cut : (all left : List FileSize) (size : FileSize) (are_undamaged : Bool) (last : Option ℕ) (old now new : Option (List ℕ)) → IsPrinting all (size ∷ left) are_undamaged last old now
        → IsScanCutShort Gives queue version size form last now new → AreScansCutShort Gives queue version all form old new
    scans_cut all left size are_undamaged last old now new p (inl kept) = record {
      first = p.done;
      left = size ∷ left;
      split = p.split;
      scans = p.scans;
      scanned = p.scanned;
      written = record { prefix = p.text; rest = []; split = lines_now all (size ∷ left) are_undamaged last old now p ∙ sym (append-nil p.text); written = appends_kept old now new p.text p.written kept };
    }
    scans_cut all left size are_undamaged last old now new p (inr cut) =
        let scan = cut.0 in
        let front = cut.2 in
        record {
          first = p.done ++ size ∷ [];
          left = left;
          split = p.split ∙ sym (append_assoc p.done (size ∷ []) left);
          scans = p.scans ++ scan ∷ [];
          scanned = one_scanned p.done p.scans size scan p.scanned cut.1;
          written = record {
            prefix = p.text ++ front.front;
            rest = front.rest;
            split = p.lines (scan ∷ []) ∙ ap (λ (t : List ℕ). p.text ++ t) (append-nil (scan_lines form queue last scan) ∙ front.split) ∙ sym (append_assoc p.text front.front front.rest);
            written = appends_both old now new p.text front.front p.written front.written;
          };
        }

    -- behind the last file, where nothing more is printed
    pub nothing_behind : (sizes : List FileSize) (are_undamaged : Bool) (old now new : Option (List ℕ)) → AreScansPrinted Gives queue version sizes form old now are_undamaged → Keeps now new → AreScansCutShort Gives queue version sizes form old new
    nothing_behind sizes are_undamaged old now new printed kept =
        let lines = scans_lines form queue None printed.scans in
        record {
          first = sizes;
          left = [];
          split = sym (append-nil sizes);
          scans = printed.scans;
          scanned = printed.scanned;
          written = record { prefix = lines; rest = []; split = sym (append-nil lines); written = appends_kept old now new lines printed.written kept };
        }
