-- The words of lines of JSON: data, and the line that says them.
use Rattle.std.specs.Prelude.{ℕ, List, [], ◌∷◌, ◌++◌, codes, Option, Some, None}
use Rattle.serde_json.specs.Data.{Data, null, number, unsigned, array, object, Members, no_members, member}
use Rattle.serde_json.specs.View.{items_of}
use Rattle.serde_json.specs.Written.{compact_text}

-- members by their names
abbrev pub MemberList : Type 0
MemberList = List (List ℕ × Data)

abbrev pub members_of : MemberList → Members
members_of [] = no_members
members_of (m ∷ ms) = member m.0 m.1 (members_of ms)

-- an object with these members
abbrev pub object_of : MemberList → Data
object_of ms = object (members_of ms)

-- a list of these data
abbrev pub list_of : List Data → Data
list_of ds = array (items_of ds)

-- a number
abbrev pub count : ℕ → Data
count n = number (unsigned n)

-- a number, if there is one
abbrev pub count_if : Option ℕ → Data
count_if None = null
count_if (Some n) = count n

-- the line of some data: its text, without a space
abbrev pub json_line : Data → List ℕ
json_line d = compact_text d ++ codes "\n"
