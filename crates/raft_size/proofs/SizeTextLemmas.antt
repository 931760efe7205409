-- The texts of sizes, as their reader takes them apart.
use Rattle.raft_size.proofs.Common.{◌≡◌, ◌≢◌, ◌≤◌, ℕ, List, [], length, take, drop, ap, subst, ◌∙◌, trim, IsAscii, prefix_len-le-length, is_number_character, number_len, number_text, unit_text, HasUnit, IsUnit}

pub number_len-le : (text : List ℕ) → number_len text ≤ length text
number_len-le text = prefix_len-le-length is_number_character text

pub front_len_is : (text bytes : List ℕ) (n : ℕ) → bytes ≡ text → n ≡ number_len bytes → n ≡ number_len text
front_len_is text bytes n same is = is ∙ ap number_len same

pub number_text_is : (text bytes front : List ℕ) (n : ℕ) → bytes ≡ text → n ≡ number_len bytes → front ≡ take n text → front ≡ number_text text
number_text_is text bytes front n same is cut = cut ∙ ap (λ (k : ℕ). take k text) (front_len_is text bytes n same is)

pub unit_text_is : (text bytes rest unit : List ℕ) (n : ℕ) → bytes ≡ text → n ≡ number_len bytes → rest ≡ drop n text → unit ≡ trim rest → unit ≡ unit_text text
unit_text_is text bytes rest unit n same is cut trimmed = trimmed ∙ ap trim (cut ∙ ap (λ (k : ℕ). drop k text) (front_len_is text bytes n same is))

-- the unit that the reader found is the text's
pub has_unit : (text bytes rest unit : List ℕ) (n factor : ℕ) → text ≢ [] → IsAscii text → bytes ≡ text → n ≡ number_len bytes → rest ≡ drop n text → unit ≡ trim rest → IsUnit unit factor → HasUnit text factor
has_unit text bytes rest unit n factor some ascii same is cut trimmed h = record {
  some_text = some;
  ascii = ascii;
  unit = subst (λ (u : List ℕ). IsUnit u factor) (unit_text_is text bytes rest unit n same is cut trimmed) h;
}
