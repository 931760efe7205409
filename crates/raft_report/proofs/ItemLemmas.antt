-- What is appended of items says their data.
use Rattle.raft_report.proofs.Common.{◌≡◌, inl, inr, ℕ, Bool, true, false, List, [], ◌∷◌, ◌++◌, slice_get, Option, Some, None, MatchBool, refl, sym, ◌∙◌, ap, subst, append_assoc, append-nil, codes, EntryIndex, Adds, MarksGroup, has_index, IsReadOf, BytesOfEntry, Read, Lost}
use Rattle.raft_report.proofs.Common.{Selection, Part, Item, Pair, AtomicGroupStatus, MemberList, list_of, object_of, AreEntryData, IsChangeData, IsContentsMember, IsEntriesData, IsEntryData, block_member, bytes_member, change_data, entries_data, entries_member, entry_data}
use Rattle.raft_report.proofs.Common.{group_member, index_members, key_member, last_index, length_member, op_member, value_member, AreJoined, AreTrailed, IsTextOf, member_text, trailed, serde_json_on_literals, Data, items_of, comma_if, compact_text, items_text}
use Rattle.raft_report.proofs.JsonLemmas.{HaveText, last_member, more_members}

four_texts : (old a b c d : List ℕ) → (((old ++ a) ++ b) ++ c) ++ d ≡ old ++ (a ++ (b ++ (c ++ d)))
four_texts old a b c d = append_assoc ((old ++ a) ++ b) c d ∙ append_assoc (old ++ a) b (c ++ d) ∙ append_assoc old a (b ++ (c ++ d))

five_texts : (old a b c d e : List ℕ) → ((((old ++ a) ++ b) ++ c) ++ d) ++ e ≡ old ++ (a ++ (b ++ (c ++ (d ++ e))))
five_texts old a b c d e = append_assoc (((old ++ a) ++ b) ++ c) d e ∙ four_texts old a b c (d ++ e)

-- a change of a key
pub change_added : (s : Selection) (item : Item) (p : Pair) (status : Option AtomicGroupStatus) (old n1 n2 n3 n4 new : List ℕ) → MarksGroup item status → n1 ≡ old ++ (codes "{" ++ trailed (bytes_member p.value))
    → n2 ≡ n1 ++ trailed (group_member status) → n3 ≡ n2 ++ trailed (key_member p.key) → n4 ≡ n3 ++ trailed (value_member s p.value) → new ≡ n4 ++ (member_text (op_member p.op_type) ++ codes "}")
    → Adds (IsTextOf (IsChangeData s item p)) old new
change_added s item p status old n1 n2 n3 n4 new marks is1 is2 is3 is4 is_new =
    record { text = compact_text d; is_text = (d, (status, marks, refl), refl); behind = is_new ∙ ap (λ (t : List ℕ). t ++ e) (is4 ∙ ap (λ (t : List ℕ). t ++ v) (is3 ∙ ap (λ (t : List ℕ). t ++ k) (is2 ∙ ap (λ (t : List ℕ). t ++ g) is1))) ∙ five_texts old (123 ∷ b) g k v e ∙ ap (λ (t : List ℕ). old ++ 123 ∷ t) (sym all.alone) }
  where
    d : Data
    d = change_data s p status

    b : List ℕ
    b = trailed (bytes_member p.value)

    g : List ℕ
    g = trailed (group_member status)

    k : List ℕ
    k = trailed (key_member p.key)

    v : List ℕ
    v = trailed (value_member s p.value)

    e : List ℕ
    e = member_text (op_member p.op_type) ++ codes "}"

    all : HaveText (bytes_member p.value ++ (group_member status ++ (key_member p.key ++ (value_member s p.value ++ (op_member p.op_type ∷ []))))) (b ++ (g ++ (k ++ (v ++ e))))
    all = more_members (bytes_member p.value) _ _ (more_members (group_member status) _ _ (more_members (key_member p.key) _ _ (more_members (value_member s p.value) _ _ (last_member (op_member p.op_type)))))

-- what is said of the bytes of an entry, or of their loss, is said of the entry
is_entry : (part : Part) (entry : EntryIndex) (read : BytesOfEntry) → IsReadOf part entry read → IsEntryData part entry (entry_data entry.index read)
is_entry part entry (Read bytes) is = inl (bytes.now, is, refl)
is_entry part entry (Lost loss) is = inr (loss, is.0, is.1, refl)

-- an entry behind a comma, or as the first
pub asked_added : (part : Part) (entry : EntryIndex) (read : BytesOfEntry) (old comma one new : List ℕ) → IsReadOf part entry read → one ≡ old ++ comma → new ≡ one ++ compact_text (entry_data entry.index read)
    → Adds (IsTextOf (IsEntryData part entry)) (old ++ comma) new
asked_added part entry read old comma one new is is_one is_new =
    record { text = compact_text (entry_data entry.index read); is_text = (entry_data entry.index read, is_entry part entry read is, refl); behind = is_new ∙ ap (λ (t : List ℕ). t ++ compact_text (entry_data entry.index read)) is_one }

module _ (s : Selection) (part : Part) where
  -- entries of an item, the first of which is this one
  some_added : (x : EntryIndex) (xs : List EntryIndex) (old n1 n2 n3 n4 new : List ℕ) → n1 ≡ old ++ (codes "{" ++ trailed (block_member x.entries)) → Adds (AreTrailed (IsContentsMember s part (x ∷ xs))) n1 n2
      → n3 ≡ n2 ++ trailed (index_members x.index (last_index (x ∷ xs) x.index)) → n4 ≡ n3 ++ trailed (length_member x.entries) → new ≡ n4 ++ (member_text entries_member ++ codes "}") → Adds (IsTextOf (IsEntriesData s part (x ∷ xs))) old new
  some_added x xs old n1 n2 n3 n4 new is1 contents is3 is4 is_new =
      record { text = compact_text d; is_text = (d, (ms, contents.is_text.1, refl), refl); behind = is_new ∙ ap (λ (t : List ℕ). t ++ e) (is4 ∙ ap (λ (t : List ℕ). t ++ l) (is3 ∙ ap (λ (t : List ℕ). t ++ i) (contents.behind ∙ ap (λ (t : List ℕ). n1 ++ t) contents.is_text.2 ∙ ap (λ (t : List ℕ). t ++ m) is1))) ∙ five_texts old (123 ∷ b) m i l e ∙ ap (λ (t : List ℕ). old ++ 123 ∷ t) (sym all.alone) }
    where
      ms : MemberList
      ms = contents.is_text.0

      d : Data
      d = entries_data x (last_index (x ∷ xs) x.index) ms

      b : List ℕ
      b = trailed (block_member x.entries)

      m : List ℕ
      m = trailed ms

      i : List ℕ
      i = trailed (index_members x.index (last_index (x ∷ xs) x.index))

      l : List ℕ
      l = trailed (length_member x.entries)

      e : List ℕ
      e = member_text entries_member ++ codes "}"

      all : HaveText (block_member x.entries ++ (ms ++ (index_members x.index (last_index (x ∷ xs) x.index) ++ (length_member x.entries ++ (entries_member ∷ []))))) (b ++ (m ++ (i ++ (l ++ e))))
      all = more_members (block_member x.entries) _ _ (more_members ms _ _ (more_members (index_members x.index (last_index (x ∷ xs) x.index)) _ _ (more_members (length_member x.entries) _ _ (last_member entries_member))))

  pub entries_added : (es : List EntryIndex) (first : EntryIndex) (old n1 n2 n3 n4 new : List ℕ) → Some first ≡ slice_get es 0 → n1 ≡ old ++ (codes "{" ++ trailed (block_member first.entries)) → Adds (AreTrailed (IsContentsMember s part es)) n1 n2
      → n3 ≡ n2 ++ trailed (index_members first.index (last_index es first.index)) → n4 ≡ n3 ++ trailed (length_member first.entries) → new ≡ n4 ++ (member_text entries_member ++ codes "}") → Adds (IsTextOf (IsEntriesData s part es)) old new
  entries_added [] first old n1 n2 n3 n4 new is is1 contents is3 is4 is_new = absurd cc
  entries_added (x ∷ xs) first old n1 n2 n3 n4 new is is1 contents is3 is4 is_new =
      let same : first ≡ x = cc in
      some_added x xs old n1 n2 n3 n4 new (subst (λ (f : EntryIndex). n1 ≡ old ++ (codes "{" ++ trailed (block_member f.entries))) same is1) contents
      (subst (λ (f : EntryIndex). n3 ≡ n2 ++ trailed (index_members f.index (last_index (x ∷ xs) f.index))) same is3) (subst (λ (f : EntryIndex). n4 ≡ n3 ++ trailed (length_member f.entries)) same is4) is_new

  -- no entries
  pub no_entries_added : (es : List EntryIndex) (old new : List ℕ) → None ≡ slice_get es 0 → new ≡ old ++ codes "{\"what\":\"entries\"}" → Adds (IsTextOf (IsEntriesData s part es)) old new
  unfolding serde_json_on_literals
  no_entries_added [] old new none is = record { text = codes "{\"what\":\"entries\"}"; is_text = (object_of (entries_member ∷ []), refl, refl); behind = is }
  no_entries_added (x ∷ xs) old new none is = absurd cc

  -- the text so far: with that of the data of what is left it is that of all
  pub record AreJoining (all : List EntryIndex) (old : List ℕ) (left : List EntryIndex) (later : Bool) (new : List ℕ) : Type 0 where
    pub text : List ℕ
    pub behind : new ≡ old ++ text
    pub joins : (ds : List Data) → AreEntryData s part left ds → (whole : List Data) × AreEntryData s part all whole × (text ++ items_text later (items_of ds) ≡ items_text false (items_of whole))

  pub none_joined : (all : List EntryIndex) (old : List ℕ) → AreJoining all old all false old
  none_joined all old = record { text = []; behind = sym (append-nil old); joins = λ ds are. (ds, are, refl) }

  -- an entry more
  pub entry_joined : (all : List EntryIndex) (old : List ℕ) (e : EntryIndex) (left : List EntryIndex) (later next : Bool) (mid new : List ℕ) → AreJoining all old (e ∷ left) later mid
      → MatchBool (has_index s e) ((next ≡ true) × Adds (IsTextOf (IsEntryData part e)) (mid ++ comma_if later) new) ((next ≡ later) × (new ≡ mid)) → AreJoining all old left next new
  entry_joined all old e left later next mid new so_far is = cases (has_index s e) so_far.joins is
    where
      cases : (b : Bool) → ((ds : List Data) → MatchBool b ((d : Data) × (rest : List Data) × (ds ≡ d ∷ rest) × IsEntryData part e d × AreEntryData s part left rest) (AreEntryData s part left ds) → (whole : List Data) × AreEntryData s part all whole × (so_far.text ++ items_text later (items_of ds) ≡ items_text false (items_of whole)))
          → MatchBool b ((next ≡ true) × Adds (IsTextOf (IsEntryData part e)) (mid ++ comma_if later) new) ((next ≡ later) × (new ≡ mid)) → AreJoining all old left next new
      cases false joins is = record {
        text = so_far.text;
        behind = is.1 ∙ so_far.behind;
        joins = λ ds are. let w = joins ds are in (w.0, w.1, ap (λ (l : Bool). so_far.text ++ items_text l (items_of ds)) is.0 ∙ w.2);
      }
      cases true joins is =
          let d = is.1.is_text.0 in record {
            text = so_far.text ++ (comma_if later ++ compact_text d);
            behind =
                is.1.behind ∙ ap (λ (t : List ℕ). (mid ++ comma_if later) ++ t) is.1.is_text.2 ∙ append_assoc mid (comma_if later) (compact_text d) ∙ ap (λ (t : List ℕ). t ++ (comma_if later ++ compact_text d)) so_far.behind
                ∙ append_assoc old so_far.text (comma_if later ++ compact_text d);
            joins =
                λ ds are. let w = joins (d ∷ ds) (d, ds, refl, is.1.is_text.1, are) in (
                  w.0,
                  w.1,
                  ap (λ (l : Bool). (so_far.text ++ (comma_if later ++ compact_text d)) ++ items_text l (items_of ds)) is.0
                      ∙ append_assoc so_far.text (comma_if later ++ compact_text d) (items_text true (items_of ds))
                      ∙ ap (λ (t : List ℕ). so_far.text ++ t) (append_assoc (comma_if later) (compact_text d) (items_text true (items_of ds)))
                      ∙ w.2,
                );
          }

  -- nothing is left
  pub all_joined : (all : List EntryIndex) (old : List ℕ) (later : Bool) (new : List ℕ) → AreJoining all old [] later new → Adds (AreJoined (AreEntryData s part all)) old new
  all_joined all old later new so_far = record { text = so_far.text; is_text = so_far.joins [] refl; behind = so_far.behind }

  -- they are listed
  pub contents_added : (es : List EntryIndex) (old one two new : List ℕ) → s.values ≡ true → one ≡ old ++ codes "\"entries\":[" → Adds (AreJoined (AreEntryData s part es)) one two → new ≡ two ++ codes "],"
      → Adds (AreTrailed (IsContentsMember s part es)) old new
  unfolding serde_json_on_literals
  contents_added es old one two new values is1 joined is_new =
      let ds = joined.is_text.0 in
      let t = joined.text in
      let ms : MemberList = (codes "entries", list_of ds) ∷ [] in record {
        text = trailed ms;
        is_text = (ms, rw values (ds, joined.is_text.1, refl), refl);
        behind =
            is_new ∙ ap (λ (x : List ℕ). x ++ codes "],") (joined.behind ∙ ap (λ (x : List ℕ). x ++ t) is1) ∙ append_assoc (old ++ codes "\"entries\":[") t (codes "],") ∙ append_assoc old (codes "\"entries\":[") (t ++ codes "],")
            ∙ ap (λ (x : List ℕ). old ++ (codes "\"entries\":[" ++ x)) (sym (append_assoc t (codes "]") (codes ",")) ∙ ap (λ (x : List ℕ). x ++ codes ",") joined.is_text.2);
      }

  -- they aren't asked for
  pub no_contents : (es : List EntryIndex) (old : List ℕ) → s.values ≡ false → Adds (AreTrailed (IsContentsMember s part es)) old old
  no_contents es old values = record { text = []; is_text = ([], rw values refl, refl); behind = sym (append-nil old) }
