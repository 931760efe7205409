use Rattle.raft_recover.proofs.Common.{◌≡◌, ◌∷◌, ℕ, List, [], string_bytes, get_or, ap, sym, ◌∙◌, IfOk-weaker, IfErr-weaker, IfSome_then, scan_asked}
use Rattle.raft_recover.proofs.RequestLemmas.{one_and_more, none_then}
use Rattle.raft_recover.proofs.ScanRequestLemmas.{one_text, is_text, no_text, asks_past, asks_plain, asks_none_past, asks_none_plain}
use Rattle.raft_recover.proofs.scan_program.parse_scan_request.Goals as goal

-- the words in front of others
words_are : (ws rest : List (List ℕ)) (first flag : List ℕ) → ws ≡ first ∷ rest → first ≡ flag → ws ≡ flag ∷ rest
words_are ws rest first flag split same = split ∙ ap (λ (w : List ℕ). w ∷ rest) same

-- words that begin with one are those of no other first
begins : (ws rest named : List (List ℕ)) (first flag : List ℕ) → ws ≡ first ∷ rest → ws ≡ flag ∷ named → first ≡ flag
begins ws rest named first flag split form = ap (λ (l : List (List ℕ)). get_or l 0 []) (sym split ∙ form)

pub returns-then-eq-clause-asked : goal.returns-then-eq-clause-asked
returns-then-eq-clause-asked c =
    let items = one_and_more c.args.words.now c.first-item.result c.in-len1-up.len_at_least c.first-item.is in
    let split = words_are _ _ _ _ (one_text string_bytes c.args.words.now _ c.first-item.result _ items c.as_str.ensures.value) (is_text _ _ c.if-eq.ensures) in
    IfOk-weaker c.parse_scanned_files.result _ _ (λ r p. IfSome_then r p (λ scan found. asks_past _ _ (scan_asked scan) split found.0 found.1)) c.parse_scanned_files.ensures.asked

pub returns-then-eq-clause-refused : goal.returns-then-eq-clause-refused
returns-then-eq-clause-refused c =
    let items = one_and_more c.args.words.now c.first-item.result c.in-len1-up.len_at_least c.first-item.is in
    let split = words_are _ _ _ _ (one_text string_bytes c.args.words.now _ c.first-item.result _ items c.as_str.ensures.value) (is_text _ _ c.if-eq.ensures) in
    IfOk-weaker c.parse_scanned_files.result _ _ (λ r p. none_then r p (λ none. asks_none_past _ _ split none)) c.parse_scanned_files.ensures.refused

pub returns-then-eq-clause-memory : goal.returns-then-eq-clause-memory
returns-then-eq-clause-memory c =
    let items = one_and_more c.args.words.now c.first-item.result c.in-len1-up.len_at_least c.first-item.is in
    let split = words_are _ _ _ _ (one_text string_bytes c.args.words.now _ c.first-item.result _ items c.as_str.ensures.value) (is_text _ _ c.if-eq.ensures) in
    IfErr-weaker c.parse_scanned_files.result _ _ (λ e p. (p.0, λ nothing. nothing p.1 (asks_past _ _ p.1 split p.2 p.3))) c.parse_scanned_files.ensures.memory

pub returns-clause-refused : goal.returns-clause-refused
returns-clause-refused c =
    let items = one_and_more c.args.words.now c.first-item.result c.in-len1-up.len_at_least c.first-item.is in
    let texts = one_text string_bytes c.args.words.now _ c.first-item.result _ items c.as_str.ensures.value in
    IfOk-weaker c.parse_scanned_files-2.result _ _
    (λ r p. none_then r p (λ none. asks_none_plain _ (λ named form. no_text _ _ c.if-eq.ensures (begins _ _ named _ _ texts form)) none)) c.parse_scanned_files-2.ensures.refused

pub returns-clause-memory : goal.returns-clause-memory
returns-clause-memory c = IfErr-weaker c.parse_scanned_files-2.result _ _ (λ e p. (p.0, λ nothing. nothing p.1 (asks_plain _ p.1 p.2 p.3))) c.parse_scanned_files-2.ensures.memory
