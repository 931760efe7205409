-- The lines of JSON that are written.
use Rattle.raft_inspect.proofs.Common.{◌≡◌, ℕ, Bool, true, false, List, ◌++◌, codes, decimal, refl, sym, ap, ◌∙◌, append_assoc, None, Some, serde_json_on_literals, string, compact_text, Error, LogQueue, CutTail, reason_text, json_line, queue_data, word_of, cut_data, refused_data}
use Rattle.raft_inspect.proofs.Common.{verdict_data}

-- two pieces in front of what ends a line
in_front : (a x rest end : List ℕ) → end ≡ rest ++ codes "\n" → a ++ (x ++ end) ≡ (a ++ (x ++ rest)) ++ codes "\n"
in_front a x rest end is = ap (λ (t : List ℕ). a ++ (x ++ t)) is ∙ ap (λ (t : List ℕ). a ++ t) (sym (append_assoc x rest (codes "\n"))) ∙ sym (append_assoc a (x ++ rest) (codes "\n"))

pub refused_is : (error : Error) → json_line (refused_data error) ≡ codes "{\"opening\":\"refused\",\"why\":" ++ (compact_text (string (reason_text error)) ++ codes "}\n")
unfolding serde_json_on_literals
refused_is error = sym (in_front (codes "{\"opening\":\"refused\",\"why\":") (compact_text (string (reason_text error))) (codes "}") (codes "}\n") refl)

pub uncut_is : (queue : LogQueue) → json_line (cut_data queue None) ≡ codes "{\"cut\":" ++ (decimal 0 ++ (codes ",\"opening\":\"opens\",\"queue\":" ++ (compact_text (queue_data queue) ++ codes "}\n")))
unfolding serde_json_on_literals
uncut_is queue = sym (in_front (codes "{\"cut\":") (decimal 0) _ _ (in_front (codes ",\"opening\":\"opens\",\"queue\":") (compact_text (queue_data queue)) (codes "}") (codes "}\n") refl))

pub tail_is : (queue : LogQueue) (tail : CutTail) → json_line (cut_data queue (Some tail))
    ≡ codes "{\"cut\":"
    ++ (decimal tail.len
    ++ (codes ",\"file\":"
    ++ (decimal tail.file
    ++ (codes ",\"offset\":" ++ (decimal tail.offset ++ (codes ",\"opening\":\"opens\",\"queue\":" ++ (compact_text (queue_data queue) ++ (codes ",\"why\":" ++ (compact_text (string (reason_text tail.error)) ++ codes "}\n")))))))))
unfolding serde_json_on_literals
tail_is queue tail =
    sym (in_front (codes "{\"cut\":") (decimal tail.len) _ _
    (in_front (codes ",\"file\":") (decimal tail.file) _ _
    (in_front (codes ",\"offset\":") (decimal tail.offset) _ _
    (in_front (codes ",\"opening\":\"opens\",\"queue\":") (compact_text (queue_data queue)) _ _ (in_front (codes ",\"why\":") (compact_text (string (reason_text tail.error))) (codes "}") (codes "}\n") refl)))))

pub verdict_is : (empty sound : Bool) → json_line (verdict_data (word_of empty sound)) ≡ codes "{\"verdict\":\"" ++ (word_of empty sound ++ codes "\"}\n")
unfolding serde_json_on_literals
verdict_is true sound = refl
verdict_is false true = refl
verdict_is false false = refl
