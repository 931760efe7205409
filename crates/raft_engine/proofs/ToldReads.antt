-- What was read tells the contents of entries.
use Rattle.raft_engine.proofs.Common.{◌≡◌, ℕ, List, [], ◌∷◌, ◌++◌, map, refl, sym, ap, subst, ◌∙◌, AllZip, Contains-append_left, EntryIndex, Ask, AreBothTold, HaveContents, ReadEntryIsTold, IsReadAmong}

module _ (is_told : ReadEntryIsTold) (reads old new : List Ask) (asked : new ≡ reads ++ old) (content : EntryIndex → List ℕ) (told : AreBothTold new content) where
  -- the bytes of an entry that was read are its contents
  entry_told : (e : EntryIndex) (bytes : List ℕ) → IsReadAmong reads e bytes → bytes ≡ content e
  entry_told e bytes h =
      let before : AreBothTold (reads ++ old) content = subst (λ (asks : List Ask). AreBothTold asks content) asked told in
      h.are ∙ sym (is_told (reads ++ old) h.place h.block h.entries content e before (Contains-append_left reads old _ h.read.read) h.sound h.read.placed h.inside)

  pub entries_told : (es : List EntryIndex) (strings : List (List ℕ)) → AllZip (IsReadAmong reads) es strings → strings ≡ map content es
  entries_told [] [] h = refl
  entries_told (e ∷ es) (bytes ∷ strings) h = ap (λ b. b ∷ strings) (entry_told e bytes h.0) ∙ ap (λ l. content e ∷ l) (entries_told es strings h.1)
  entries_told [] (bytes ∷ strings) h = absurd h
  entries_told (e ∷ es) [] h = absurd h

  pub entries_have : (es : List EntryIndex) (strings : List (List ℕ)) → AllZip (IsReadAmong reads) es strings → HaveContents content es strings
  entries_have [] [] h = tt
  entries_have (e ∷ es) (bytes ∷ strings) h = (sym (entry_told e bytes h.0), entries_have es strings h.1)
  entries_have [] (bytes ∷ strings) h = absurd h
  entries_have (e ∷ es) [] h = absurd h
