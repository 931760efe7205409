-- The lines of JSON, letter by letter.
use Rattle.raft_report.proofs.Common.{◌≡◌, ℕ, ◌+◌, List, ◌++◌, Option, refl, sym, ◌∙◌, ap, append_assoc, codes, decimal, map, encode_lower, Accessor, Error, LogQueue, Append, Rewrite, loss_words, reason_text, Loss, FileScan, FileSize, Part, count, json_line, list_of, item_data}
use Rattle.raft_report.proofs.Common.{lost_entry_data, place_data, read_data, damage_data, kept_data, key_value_data, live_in, lost_data, missing_data, no_files_data, queue_data, regions_of, scan_data, totals_data, unreadable_data, use_data, item_back, item_front, place_front}
use Rattle.raft_report.proofs.Common.{FileUse, live, serde_json_on_literals, Data, string, compact_text}
use Rattle.raft_report.proofs.PlainLemmas.{plain_line, plain_object}

pub scan_is : (queue : LogQueue) (scan : FileScan) → json_line (scan_data queue scan)
    ≡ codes "{\"batches\":" ++ (decimal scan.batches ++ (codes ",\"bytes\":" ++ (decimal scan.len ++ (codes ",\"damage\":" ++ (compact_text (list_of (map damage_data scan.damages.items)) ++ (codes ",\"file\":" ++ (decimal scan.seq ++ (codes ",\"queue\":" ++ (compact_text (queue_data queue) ++ (codes ",\"read\":" ++ (decimal scan.read ++ (codes ",\"unseen\":" ++ (decimal scan.unseen ++ codes "}\n")))))))))))))
unfolding serde_json_on_literals
scan_is queue scan = plain_line (scan_data queue scan) (refl, (refl, (refl, (refl, (refl, (refl, (refl, tt)))))))

pub missing_is : (queue : LogQueue) (numbers : ℕ × ℕ) → json_line (missing_data queue numbers)
    ≡ codes "{\"missing_from\":" ++ (decimal numbers.0 ++ (codes ",\"missing_to\":" ++ (decimal numbers.1 ++ (codes ",\"queue\":" ++ (compact_text (queue_data queue) ++ codes "}\n")))))
unfolding serde_json_on_literals
missing_is queue numbers = plain_line (missing_data queue numbers) (refl, (refl, (refl, tt)))

pub no_files_is : (queue : LogQueue) → json_line (no_files_data queue) ≡ codes "{\"files\":" ++ (decimal 0 ++ (codes ",\"queue\":" ++ (compact_text (queue_data queue) ++ codes "}\n")))
unfolding serde_json_on_literals
no_files_is queue = plain_line (no_files_data queue) (refl, (refl, tt))

pub kept_is : (len : ℕ) (path : List ℕ) → json_line (kept_data len path) ≡ codes "{\"bytes\":" ++ (decimal len ++ (codes ",\"kept\":" ++ (compact_text (string path) ++ codes "}\n")))
unfolding serde_json_on_literals
kept_is len path = plain_line (kept_data len path) (refl, (refl, tt))

pub unreadable_is : (offset : ℕ) (e : Error) → compact_text (unreadable_data offset e)
    ≡ codes "{\"kind\":\"batch\",\"offset\":" ++ (decimal offset ++ (codes ",\"why\":" ++ (compact_text (string (reason_text e)) ++ codes "}")))
unfolding serde_json_on_literals
unreadable_is offset e = plain_object (unreadable_data offset e) (refl, (refl, (refl, tt)))

pub lost_is : (offset region : ℕ) (entries : ℕ × ℕ) (loss : Loss) → compact_text (lost_data offset region entries loss)
    ≡ codes "{\"first\":" ++ (decimal entries.0 ++ (codes ",\"kind\":\"entries\",\"last\":" ++ (decimal entries.1 ++ (codes ",\"offset\":" ++ (decimal offset ++ (codes ",\"region\":" ++ (decimal region ++ (codes ",\"why\":" ++ (compact_text (string (loss_words loss)) ++ codes "}")))))))))
unfolding serde_json_on_literals
lost_is offset region entries loss = plain_object (lost_data offset region entries loss) (refl, (refl, (refl, (refl, (refl, (refl, tt))))))

pub key_value_is : (pair : List ℕ × List ℕ) → compact_text (key_value_data pair)
    ≡ codes "{\"key\":" ++ (compact_text (string (encode_lower pair.0)) ++ (codes ",\"value\":" ++ (compact_text (string (encode_lower pair.1)) ++ codes "}")))
unfolding serde_json_on_literals
key_value_is pair = plain_object (key_value_data pair) (refl, (refl, tt))

pub totals_is : (accessor : Accessor) → json_line (totals_data accessor)
    ≡ codes "{\"cleaned\":" ++ (compact_text (list_of (map count accessor.cleaned)) ++ (codes ",\"live_append\":" ++ (decimal (live Append accessor.counts) ++ (codes ",\"live_rewrite\":" ++ (decimal (live Rewrite accessor.counts) ++ codes "}\n")))))
unfolding serde_json_on_literals
totals_is accessor = plain_line (totals_data accessor) (refl, (refl, (refl, tt)))

pub use_is : (queue : LogQueue) (size : FileSize) (file_use : Option FileUse) → json_line (use_data queue size file_use)
    ≡ codes "{\"bytes\":" ++ (decimal size.len ++ (codes ",\"file\":" ++ (decimal size.seq ++ (codes ",\"live\":" ++ (decimal (live_in file_use) ++ (codes ",\"queue\":" ++ (compact_text (queue_data queue) ++ (codes ",\"regions\":" ++ (compact_text (list_of (map count (regions_of file_use))) ++ codes "}\n")))))))))
unfolding serde_json_on_literals
use_is queue size file_use = plain_line (use_data queue size file_use) (refl, (refl, (refl, (refl, (refl, tt)))))

pub read_is : (index : ℕ) (bytes : List ℕ) → compact_text (read_data index bytes) ≡ codes "{\"bytes\":" ++ (compact_text (string (encode_lower bytes)) ++ (codes ",\"index\":" ++ (decimal index ++ codes "}")))
unfolding serde_json_on_literals
read_is index bytes = plain_object (read_data index bytes) (refl, (refl, tt))

pub lost_entry_is : (index : ℕ) (loss : Loss) → compact_text (lost_entry_data index loss)
    ≡ codes "{\"bytes\":null,\"index\":" ++ (decimal index ++ (codes ",\"why\":" ++ (compact_text (string (loss_words loss)) ++ codes "}")))
unfolding serde_json_on_literals
lost_entry_is index loss = plain_object (lost_entry_data index loss) (refl, (refl, (refl, tt)))

pub place_is : (part : Part) (at : ℕ) (e : Error) → json_line (place_data part at e)
    ≡ codes "{\"file\":" ++ (decimal part.id.seq ++ (codes ",\"offset\":" ++ (decimal (part.offset + at) ++ (codes ",\"queue\":" ++ (compact_text (queue_data part.id.queue) ++ (codes ",\"what\":\"unreadable\",\"why\":" ++ (compact_text (string (reason_text e)) ++ codes "}\n")))))))
unfolding serde_json_on_literals
place_is part at e = plain_line (place_data part at e) (refl, (refl, (refl, (refl, (refl, tt)))))

pub item_is : (part : Part) (at region : ℕ) (said : Data) → json_line (item_data part at region said)
    ≡ codes "{\"file\":" ++ (decimal part.id.seq ++ (codes ",\"item\":" ++ (compact_text said ++ (codes ",\"offset\":" ++ (decimal (part.offset + at) ++ (codes ",\"queue\":" ++ (compact_text (queue_data part.id.queue) ++ (codes ",\"region\":" ++ (decimal region ++ codes "}\n")))))))))
unfolding serde_json_on_literals
item_is part at region said = plain_line (item_data part at region said) (refl, (refl, (refl, (refl, (refl, tt)))))

-- ---- lines that are written in three pieces

pub three_pieces : (old a b c one two new : List ℕ) → one ≡ old ++ a → two ≡ one ++ b → new ≡ two ++ c → new ≡ old ++ (a ++ (b ++ c))
three_pieces old a b c one two new is_one is_two is_new =
    is_new ∙ ap (λ (t : List ℕ). t ++ c) (is_two ∙ ap (λ (t : List ℕ). t ++ b) is_one) ∙ append_assoc (old ++ a) b c ∙ append_assoc old a (b ++ c)

-- text behind a piece with one number, with two, and with four
behind_one : (a b c x : List ℕ) → (a ++ (b ++ c)) ++ x ≡ a ++ (b ++ (c ++ x))
behind_one a b c x = append_assoc a (b ++ c) x ∙ ap (λ (t : List ℕ). a ++ t) (append_assoc b c x)

behind_two : (a b c d e x : List ℕ) → (a ++ (b ++ (c ++ (d ++ e)))) ++ x ≡ a ++ (b ++ (c ++ (d ++ (e ++ x))))
behind_two a b c d e x = behind_one a b (c ++ (d ++ e)) x ∙ ap (λ (t : List ℕ). a ++ (b ++ t)) (behind_one c d e x)

behind_four : (a b c d e f g h i x : List ℕ) → (a ++ (b ++ (c ++ (d ++ (e ++ (f ++ (g ++ (h ++ i)))))))) ++ x ≡ a ++ (b ++ (c ++ (d ++ (e ++ (f ++ (g ++ (h ++ (i ++ x))))))))
behind_four a b c d e f g h i x = behind_two a b c d (e ++ (f ++ (g ++ (h ++ i)))) x ∙ ap (λ (t : List ℕ). a ++ (b ++ (c ++ (d ++ t)))) (behind_two e f g h i x)

pub scan_added : (queue : LogQueue) (scan : FileScan) (old one two new : List ℕ) → one ≡ old ++ (codes "{\"batches\":" ++ (decimal scan.batches ++ (codes ",\"bytes\":" ++ (decimal scan.len ++ codes ",\"damage\":"))))
    → two ≡ one ++ compact_text (list_of (map damage_data scan.damages.items))
    → new ≡ two ++ (codes ",\"file\":" ++ (decimal scan.seq ++ (codes ",\"queue\":" ++ (compact_text (queue_data queue) ++ (codes ",\"read\":" ++ (decimal scan.read ++ (codes ",\"unseen\":" ++ (decimal scan.unseen ++ codes "}\n"))))))))
    → new ≡ old ++ json_line (scan_data queue scan)
scan_added queue scan old one two new is_one is_two is_new =
    three_pieces old _ _ _ one two new is_one is_two is_new ∙ ap (λ (t : List ℕ). old ++ t) (behind_two (codes "{\"batches\":") (decimal scan.batches) (codes ",\"bytes\":") (decimal scan.len) (codes ",\"damage\":") _ ∙ sym (scan_is queue scan))

pub totals_added : (accessor : Accessor) (old one two new : List ℕ) → one ≡ old ++ codes "{\"cleaned\":" → two ≡ one ++ compact_text (list_of (map count accessor.cleaned))
    → new ≡ two ++ (codes ",\"live_append\":" ++ (decimal (live Append accessor.counts) ++ (codes ",\"live_rewrite\":" ++ (decimal (live Rewrite accessor.counts) ++ codes "}\n"))))
    → new ≡ old ++ json_line (totals_data accessor)
totals_added accessor old one two new is_one is_two is_new =
    three_pieces old _ _ _ one two new is_one is_two is_new ∙ ap (λ (t : List ℕ). old ++ t) (sym (totals_is accessor))

pub use_added : (queue : LogQueue) (size : FileSize) (file_use : Option FileUse) (old one two new : List ℕ)
    → one ≡ old ++ (codes "{\"bytes\":" ++ (decimal size.len ++ (codes ",\"file\":" ++ (decimal size.seq ++ (codes ",\"live\":" ++ (decimal (live_in file_use) ++ (codes ",\"queue\":" ++ (compact_text (queue_data queue) ++ codes ",\"regions\":"))))))))
    → two ≡ one ++ compact_text (list_of (map count (regions_of file_use))) → new ≡ two ++ codes "}\n" → new ≡ old ++ json_line (use_data queue size file_use)
use_added queue size file_use old one two new is_one is_two is_new =
    three_pieces old _ _ _ one two new is_one is_two is_new
    ∙ ap (λ (t : List ℕ). old ++ t) (behind_four (codes "{\"bytes\":") (decimal size.len) (codes ",\"file\":") (decimal size.seq) (codes ",\"live\":") (decimal (live_in file_use)) (codes ",\"queue\":") (compact_text (queue_data queue)) (codes ",\"regions\":") _ ∙ sym (use_is queue size file_use))

pub item_added : (part : Part) (at region : ℕ) (said : Data) (old one two new : List ℕ) → one ≡ old ++ item_front part → two ≡ one ++ compact_text said → new ≡ two ++ item_back part at region → new ≡ old ++ json_line (item_data part at region said)
item_added part at region said old one two new is_one is_two is_new =
    three_pieces old _ _ _ one two new is_one is_two is_new ∙ ap (λ (t : List ℕ). old ++ t) (behind_one (codes "{\"file\":") (decimal part.id.seq) (codes ",\"item\":") _ ∙ sym (item_is part at region said))

-- ---- texts in quotes

pub kept_added : (len : ℕ) (path shown old new : List ℕ) → shown ≡ compact_text (string path) → new ≡ old ++ (codes "{\"bytes\":" ++ (decimal len ++ (codes ",\"kept\":" ++ (shown ++ codes "}\n")))) → new ≡ old ++ json_line (kept_data len path)
kept_added len path shown old new is is_new = is_new ∙ ap (λ (w : List ℕ). old ++ (codes "{\"bytes\":" ++ (decimal len ++ (codes ",\"kept\":" ++ (w ++ codes "}\n"))))) is ∙ ap (λ (t : List ℕ). old ++ t) (sym (kept_is len path))

pub unreadable_added : (offset : ℕ) (e : Error) (why old new : List ℕ) → why ≡ compact_text (string (reason_text e)) → new ≡ old ++ (codes "{\"kind\":\"batch\",\"offset\":" ++ (decimal offset ++ (codes ",\"why\":" ++ (why ++ codes "}"))))
    → new ≡ old ++ compact_text (unreadable_data offset e)
unreadable_added offset e why old new is is_new =
    is_new ∙ ap (λ (w : List ℕ). old ++ (codes "{\"kind\":\"batch\",\"offset\":" ++ (decimal offset ++ (codes ",\"why\":" ++ (w ++ codes "}"))))) is ∙ ap (λ (t : List ℕ). old ++ t) (sym (unreadable_is offset e))

pub lost_added : (offset region : ℕ) (entries : ℕ × ℕ) (loss : Loss) (why old new : List ℕ) → why ≡ compact_text (string (loss_words loss))
    → new ≡ old ++ (codes "{\"first\":" ++ (decimal entries.0 ++ (codes ",\"kind\":\"entries\",\"last\":" ++ (decimal entries.1 ++ (codes ",\"offset\":" ++ (decimal offset ++ (codes ",\"region\":" ++ (decimal region ++ (codes ",\"why\":" ++ (why ++ codes "}"))))))))))
    → new ≡ old ++ compact_text (lost_data offset region entries loss)
lost_added offset region entries loss why old new is is_new =
    is_new
    ∙ ap (λ (w : List ℕ). old ++ (codes "{\"first\":" ++ (decimal entries.0 ++ (codes ",\"kind\":\"entries\",\"last\":" ++ (decimal entries.1 ++ (codes ",\"offset\":" ++ (decimal offset ++ (codes ",\"region\":" ++ (decimal region ++ (codes ",\"why\":" ++ (w ++ codes "}"))))))))))) is
    ∙ ap (λ (t : List ℕ). old ++ t) (sym (lost_is offset region entries loss))

pub key_value_added : (pair : List ℕ × List ℕ) (comma key value old one new : List ℕ) → key ≡ compact_text (string (encode_lower pair.0)) → value ≡ compact_text (string (encode_lower pair.1)) → one ≡ old ++ comma
    → new ≡ one ++ (codes "{\"key\":" ++ (key ++ (codes ",\"value\":" ++ (value ++ codes "}")))) → new ≡ old ++ (comma ++ compact_text (key_value_data pair))
key_value_added pair comma key value old one new is_key is_value is_one is_new =
    is_new ∙ ap (λ (k : List ℕ). one ++ (codes "{\"key\":" ++ (k ++ (codes ",\"value\":" ++ (value ++ codes "}"))))) is_key
    ∙ ap (λ (v : List ℕ). one ++ (codes "{\"key\":" ++ (compact_text (string (encode_lower pair.0)) ++ (codes ",\"value\":" ++ (v ++ codes "}"))))) is_value
    ∙ ap (λ (t : List ℕ). one ++ t) (sym (key_value_is pair)) ∙ ap (λ (t : List ℕ). t ++ compact_text (key_value_data pair)) is_one ∙ append_assoc old comma (compact_text (key_value_data pair))

pub read_added : (index : ℕ) (bytes shown old new : List ℕ) → shown ≡ compact_text (string (encode_lower bytes)) → new ≡ old ++ (codes "{\"bytes\":" ++ (shown ++ (codes ",\"index\":" ++ (decimal index ++ codes "}"))))
    → new ≡ old ++ compact_text (read_data index bytes)
read_added index bytes shown old new is is_new = is_new ∙ ap (λ (w : List ℕ). old ++ (codes "{\"bytes\":" ++ (w ++ (codes ",\"index\":" ++ (decimal index ++ codes "}"))))) is ∙ ap (λ (t : List ℕ). old ++ t) (sym (read_is index bytes))

pub lost_entry_added : (index : ℕ) (loss : Loss) (why old new : List ℕ) → why ≡ compact_text (string (loss_words loss)) → new ≡ old ++ (codes "{\"bytes\":null,\"index\":" ++ (decimal index ++ (codes ",\"why\":" ++ (why ++ codes "}"))))
    → new ≡ old ++ compact_text (lost_entry_data index loss)
lost_entry_added index loss why old new is is_new =
    is_new ∙ ap (λ (w : List ℕ). old ++ (codes "{\"bytes\":null,\"index\":" ++ (decimal index ++ (codes ",\"why\":" ++ (w ++ codes "}"))))) is ∙ ap (λ (t : List ℕ). old ++ t) (sym (lost_entry_is index loss))

pub place_added : (part : Part) (at : ℕ) (e : Error) (why old one new : List ℕ) → why ≡ compact_text (string (reason_text e)) → one ≡ old ++ place_front part at → new ≡ one ++ (codes ",\"what\":\"unreadable\",\"why\":" ++ (why ++ codes "}\n"))
    → new ≡ old ++ json_line (place_data part at e)
place_added part at e why old one new is is_one is_new =
    let back : List ℕ → List ℕ = λ w. codes ",\"what\":\"unreadable\",\"why\":" ++ (w ++ codes "}\n") in
    is_new ∙ ap (λ (w : List ℕ). one ++ back w) is ∙ ap (λ (t : List ℕ). t ++ back (compact_text (string (reason_text e)))) is_one ∙ append_assoc old (place_front part at) (back (compact_text (string (reason_text e))))
    ∙ ap (λ (t : List ℕ). old ++ t) (behind_two (codes "{\"file\":") (decimal part.id.seq) (codes ",\"offset\":") (decimal (part.offset + at)) (codes ",\"queue\":" ++ compact_text (queue_data part.id.queue)) (back (compact_text (string (reason_text e)))) ∙ sym (place_is part at e))
