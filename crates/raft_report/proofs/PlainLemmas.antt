-- The text of an object whose members have names that need no escape.
use Rattle.raft_report.proofs.Common.{◌≡◌, ℕ, Bool, true, false, List, [], ◌∷◌, ◌++◌, refl, sym, ◌∙◌, ap, append_assoc, append-nil, codes, Data, null, boolean, number, string, array, object, Members, no_members, member, comma_if, compact_text, members_text, json_line}

-- each name is quoted as it is
abbrev pub ArePlain : Members → Type 0
ArePlain no_members = Unit {0}
ArePlain (member name d ms) = (compact_text (string name) ≡ 34 ∷ (name ++ 34 ∷ [])) × ArePlain ms

-- members with the closing bracket, and what comes behind it
abbrev pub plain_text : Bool → Members → List ℕ → List ℕ
plain_text later no_members end = 125 ∷ end
plain_text later (member name d ms) end = comma_if later ++ (34 ∷ (name ++ (34 ∷ 58 ∷ (compact_text d ++ plain_text true ms end))))

plain_members : (ms : Members) (end : List ℕ) (later : Bool) → ArePlain ms → members_text later ms ++ end ≡ plain_text later ms end
plain_members no_members end later plain = refl
plain_members (member name d ms) end later plain =
    append_assoc (comma_if later) (compact_text (string name) ++ 58 ∷ rest) end
    ∙ ap (λ (t : List ℕ). comma_if later ++ t) (ap (λ (q : List ℕ). (q ++ 58 ∷ rest) ++ end) plain.0 ∙ ap (λ (t : List ℕ). 34 ∷ t) (append_assoc (name ++ 34 ∷ []) (58 ∷ rest) end ∙ append_assoc name (34 ∷ []) (58 ∷ (rest ++ end)) ∙ ap (λ (t : List ℕ). name ++ (34 ∷ 58 ∷ t)) (append_assoc (compact_text d) (members_text true ms) end ∙ ap (λ (t : List ℕ). compact_text d ++ t) (plain_members ms end true plain.1))))
  where
    rest : List ℕ
    rest = compact_text d ++ members_text true ms

-- an object with such names
abbrev pub IsPlain : Data → Type 0
IsPlain null = ⊥
IsPlain (boolean b) = ⊥
IsPlain (number n) = ⊥
IsPlain (string s) = ⊥
IsPlain (array ds) = ⊥
IsPlain (object ms) = ArePlain ms

-- its text, and what comes behind it
abbrev pub object_text : Data → List ℕ → List ℕ
object_text null end = []
object_text (boolean b) end = []
object_text (number n) end = []
object_text (string s) end = []
object_text (array ds) end = []
object_text (object ms) end = 123 ∷ plain_text false ms end

pub plain_line : (d : Data) → IsPlain d → json_line d ≡ object_text d (codes "\n")
plain_line null plain = absurd plain
plain_line (boolean b) plain = absurd plain
plain_line (number n) plain = absurd plain
plain_line (string s) plain = absurd plain
plain_line (array ds) plain = absurd plain
plain_line (object ms) plain = ap (λ (t : List ℕ). 123 ∷ t) (plain_members ms (codes "\n") false plain)

pub plain_object : (d : Data) → IsPlain d → compact_text d ≡ object_text d []
plain_object null plain = absurd plain
plain_object (boolean b) plain = absurd plain
plain_object (number n) plain = absurd plain
plain_object (string s) plain = absurd plain
plain_object (array ds) plain = absurd plain
plain_object (object ms) plain = ap (λ (t : List ℕ). 123 ∷ t) (sym (append-nil (members_text false ms)) ∙ plain_members ms [] false plain)
