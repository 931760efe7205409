-- What the words of a scan ask for, and scans of files one behind the other.
use Rattle.raft_recover.proofs.Common.{◌≡◌, ℕ, ◌-◌, Bool, true, false, ◌&&◌, List, [], ◌∷◌, ◌++◌, Vec, length, map, codes, arith, refl, sym, ap, ◌∙◌, subst, append_assoc, append-nil, bytes_eq, bytes_eq-Decides, Global, LogQueue, Version}
use Rattle.raft_recover.proofs.Common.{get_or, whole_file, NumberedBytes, AskedScan, NamesFiles, AsksScan, flag_words, AreScanned, IsScanned}
use Rattle.raft_recover.specs.Requests.{queue_word}
use Rattle.raft_recover.specs.ScanRequests.{AsksNoScan}
use Rattle.raft_base.specs.declared.pipe_log.LogQueue.TheVariants.{Append, Rewrite}
use Rattle.raft_recover.specs.AskedRequests.{file_shown}
use Rattle.std.proofs.Math.Bool.{and_assoc, and-true}

-- ---- words

-- the text of a word and of those behind it
pub one_text : {X : Type 0} (f : X → List ℕ) (ws rest : List X) (a : X) (ta : List ℕ) → ws ≡ a ∷ rest → ta ≡ f a → map f ws ≡ ta ∷ map f rest
one_text f ws rest a ta split p = rw p (ap (map f) split)

-- texts that a test found equal
pub is_text : (xs ys : List ℕ) → true ≡ bytes_eq xs ys → xs ≡ ys
is_text xs ys h = (bytes_eq-Decides xs ys).0 (sym h)

-- texts that a test found different
pub no_text : (xs ys : List ℕ) → false ≡ bytes_eq xs ys → xs ≡ ys → ⊥
no_text xs ys h same = let found : bytes_eq xs ys ≡ true = (bytes_eq-Decides xs ys).1 same in cc

-- the words behind two are the same, however the two are named
pub same_behind_two : (words rest files : List (List ℕ)) (a b c d : List ℕ) → words ≡ a ∷ b ∷ rest → words ≡ c ∷ d ∷ files → files ≡ rest
same_behind_two words rest files a b c d split form = cc

-- no queue is named by the word to go on past damage
no_queue : (queue : LogQueue) → codes "--past-damage" ≡ queue_word queue → ⊥
no_queue Append e = cc
no_queue Rewrite e = cc

-- files behind the word to go on past damage
pub asks_past : (words named : List (List ℕ)) (scan : AskedScan) → words ≡ codes "--past-damage" ∷ named → scan.past_damage ≡ true → NamesFiles named scan → AsksScan words scan
asks_past words named scan split past files = record {
  named = named;
  form = split ∙ ap (λ (b : Bool). flag_words b named) (sym past);
  files = files;
}

-- files without that word
pub asks_plain : (words : List (List ℕ)) (scan : AskedScan) → scan.past_damage ≡ false → NamesFiles words scan → AsksScan words scan
asks_plain words scan plain files = record { named = words; form = ap (λ (b : Bool). flag_words b words) (sym plain); files = files }

-- where the words behind that word name no files no scan is asked for
pub asks_none_past : (words named : List (List ℕ)) → words ≡ codes "--past-damage" ∷ named → ((scan : AskedScan) → NamesFiles named scan → ⊥) → AsksNoScan words
asks_none_past words named split none scan asked = by_flag scan.past_damage asked.named asked.form asked.files
  where
    by_flag : (b : Bool) (behind : List (List ℕ)) → words ≡ flag_words b behind → NamesFiles behind scan → ⊥
    by_flag true behind form files = let same : behind ≡ named = cc in none scan (subst (λ (ws : List (List ℕ)). NamesFiles ws scan) same files)
    by_flag false behind form files =
        let first : codes "--past-damage" ≡ files.queue = ap (λ (ws : List (List ℕ)). get_or ws 0 []) (sym split ∙ form ∙ files.form) in
        no_queue scan.queue (first ∙ files.queue_named)

-- where the first word is not that word, and the words name no files, no scan is asked for
pub asks_none_plain : (words : List (List ℕ)) → ((named : List (List ℕ)) → words ≡ codes "--past-damage" ∷ named → ⊥) → ((scan : AskedScan) → NamesFiles words scan → ⊥) → AsksNoScan words
asks_none_plain words plain none scan asked = by_flag scan.past_damage asked.named asked.form asked.files
  where
    by_flag : (b : Bool) (behind : List (List ℕ)) → words ≡ flag_words b behind → NamesFiles behind scan → ⊥
    by_flag true behind form files = plain behind form
    by_flag false behind form files = none scan (subst (λ (ws : List (List ℕ)). NamesFiles ws scan) (sym form) files)

-- ---- files

module _ (past : Bool) (queue : LogQueue) (version : Version) where
  -- the scans of the files so far have their lines behind the old text; with those of the files that are left they are all
  pub record AreBegun (all left : List NumberedBytes) (old new : List ℕ) (undamaged : Bool) : Type 0 where
    pub front : List ℕ
    pub text : new ≡ old ++ front
    pub joins : (b : Bool) (rest : List ℕ) → AreScanned past queue version left b rest → AreScanned past queue version all (undamaged && b) (front ++ rest)

  pub none_scanned : (all : List NumberedBytes) (old : List ℕ) → AreBegun all all old old true
  none_scanned all old = record { front = []; text = sym (append-nil old); joins = λ b rest s. s }

  -- one file more is scanned
  pub file_scanned : (all left : List NumberedBytes) (file : NumberedBytes) (old mid new lines : List ℕ) (undamaged first : Bool) → AreBegun all (file ∷ left) old mid undamaged
      → new ≡ mid ++ lines → IsScanned past (whole_file queue version file) first lines → AreBegun all left old new (undamaged && first)
  file_scanned all left file old mid new lines undamaged first before text scanned = record {
    front = before.front ++ lines;
    text = text ∙ ap (λ (t : List ℕ). t ++ lines) before.text ∙ append_assoc old before.front lines;
    joins = λ b rest s.
        let here = before.joins (first && b) (lines ++ rest) (first, b, lines, rest, scanned, s, refl, refl) in
        subst (λ (t : List ℕ). AreScanned past queue version all ((undamaged && first) && b) t) (sym (append_assoc before.front lines rest))
        (subst (λ (a : Bool). AreScanned past queue version all a (before.front ++ (lines ++ rest))) (sym (and_assoc undamaged first b)) here);
  }

  -- all files are scanned
  pub all_scanned : (all : List NumberedBytes) (old new : List ℕ) (undamaged : Bool) → AreBegun all [] old new undamaged
      → (lines : List ℕ) × (new ≡ old ++ lines) × AreScanned past queue version all undamaged lines
  all_scanned all old new undamaged done =
      let whole = done.joins true [] (refl, refl) in (
        done.front,
        done.text,
        subst (λ (t : List ℕ). AreScanned past queue version all undamaged t) (append-nil done.front)
            (subst (λ (a : Bool). AreScanned past queue version all a (done.front ++ [])) (and-true undamaged) whole),
      )

  -- the same where no file is left in a list of files
  pub all_files_scanned : (fs left : List (ℕ × Vec ℕ Global)) (old new : List ℕ) (undamaged : Bool) → length left ≡ 0 → AreBegun (map file_shown fs) (map file_shown left) old new undamaged
      → (lines : List ℕ) × (new ≡ old ++ lines) × AreScanned past queue version (map file_shown fs) undamaged lines
  all_files_scanned fs [] old new undamaged none done = all_scanned (map file_shown fs) old new undamaged done
  all_files_scanned fs (f ∷ left) old new undamaged none done = absurd (omega (arith, none))
