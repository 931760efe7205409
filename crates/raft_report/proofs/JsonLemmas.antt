-- The text of lists and objects, piece by piece.
use Rattle.raft_report.proofs.Common.{◌≡◌, ℕ, true, false, List, [], ◌∷◌, ◌++◌, sym, subst, ◌∙◌, ap, append_assoc, Data, string, compact_text, members_text, MemberList, members_of, member_text, trailed}

-- members have this text, with the closing bracket: it is the same behind others, with a comma
pub record HaveText (ms : MemberList) (text : List ℕ) : Type 0 where
  pub alone : members_text false (members_of ms) ≡ text
  pub behind : members_text true (members_of ms) ≡ 44 ∷ text

-- one member
pub last_member : (m : List ℕ × Data) → HaveText (m ∷ []) (member_text m ++ 125 ∷ [])
last_member m = record { alone = same; behind = ap (λ (t : List ℕ). 44 ∷ t) same }
  where
    same : compact_text (string m.0) ++ 58 ∷ (compact_text m.1 ++ 125 ∷ []) ≡ (compact_text (string m.0) ++ 58 ∷ compact_text m.1) ++ 125 ∷ []
    same = sym (append_assoc (compact_text (string m.0)) (58 ∷ compact_text m.1) (125 ∷ []))

-- one in front of others
more_member : (m : List ℕ × Data) (ms : MemberList) (text : List ℕ) → HaveText ms text → HaveText (m ∷ ms) (member_text m ++ 44 ∷ text)
more_member m ms text have = record { alone = same; behind = ap (λ (t : List ℕ). 44 ∷ t) same }
  where
    same : compact_text (string m.0) ++ 58 ∷ (compact_text m.1 ++ members_text true (members_of ms)) ≡ member_text m ++ 44 ∷ text
    same =
        ap (λ (t : List ℕ). compact_text (string m.0) ++ 58 ∷ (compact_text m.1 ++ t)) have.behind ∙ sym (append_assoc (compact_text (string m.0)) (58 ∷ compact_text m.1) (44 ∷ text))

-- members in front of others
pub more_members : (ms rest : MemberList) (text : List ℕ) → HaveText rest text → HaveText (ms ++ rest) (trailed ms ++ text)
more_members [] rest text have = have
more_members (m ∷ ms) rest text have =
    subst (HaveText (m ∷ (ms ++ rest))) (sym (append_assoc (member_text m) (44 ∷ trailed ms) text)) (more_member m (ms ++ rest) (trailed ms ++ text) (more_members ms rest text have))
