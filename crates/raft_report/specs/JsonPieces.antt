-- Pieces of lines of JSON.
use Rattle.std.specs.Prelude.{◌≡◌, ℕ, ◌+◌, false, List, [], ◌∷◌, ◌++◌, codes}
use Rattle.std.specs.Fmt.{decimal}
use Rattle.raft_records.specs.FilePart.{Part}
use Rattle.raft_report.specs.JsonData.{MemberList}
use Rattle.raft_report.specs.JsonLines.{queue_data}
use Rattle.serde_json.specs.Data.{Data, string}
use Rattle.serde_json.specs.View.{items_of}
use Rattle.serde_json.specs.Written.{compact_text, items_text}

-- the text of a member
abbrev pub member_text : List ℕ × Data → List ℕ
member_text m = compact_text (string m.0) ++ 58 ∷ compact_text m.1

-- members, each with a comma behind it
abbrev pub trailed : MemberList → List ℕ
trailed [] = []
trailed (m ∷ ms) = member_text m ++ 44 ∷ trailed ms

-- the text of some data of this kind
abbrev pub IsTextOf : (Data → Type 0) → List ℕ → Type 0
IsTextOf IsData text = (d : Data) × IsData d × (text ≡ compact_text d)

-- members of this kind, each with a comma behind it
abbrev pub AreTrailed : (MemberList → Type 0) → List ℕ → Type 0
AreTrailed AreMembers text = (ms : MemberList) × AreMembers ms × (text ≡ trailed ms)

-- data of this kind, with a comma between each two
abbrev pub AreJoined : (List Data → Type 0) → List ℕ → Type 0
AreJoined AreData text = (ds : List Data) × AreData ds × (text ++ codes "]" ≡ items_text false (items_of ds))

-- the line of an item up to what it says, and from behind that on
abbrev pub item_front : Part → List ℕ
item_front part = codes "{\"file\":" ++ (decimal part.id.seq ++ codes ",\"item\":")

abbrev pub item_back : Part → ℕ → ℕ → List ℕ
item_back part at region =
    codes ",\"offset\":" ++ (decimal (part.offset + at) ++ (codes ",\"queue\":" ++ (compact_text (queue_data part.id.queue) ++ (codes ",\"region\":" ++ (decimal region ++ codes "}\n")))))

-- the beginning of the line of a byte: its file, its offset and its queue
abbrev pub place_front : Part → ℕ → List ℕ
place_front part at =
    codes "{\"file\":" ++ (decimal part.id.seq ++ (codes ",\"offset\":" ++ (decimal (part.offset + at) ++ (codes ",\"queue\":" ++ compact_text (queue_data part.id.queue)))))
