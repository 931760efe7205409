-- What the words of a command ask for.
use Rattle.std.specs.Prelude.{◌≡◌, ◌⊎◌, ◌-◌, ◌^◌, ◌<◌, ℕ, List, codes, decimal, Option, Some, None, Bool, true, false}
use Rattle.clap.specs.Words.{found_of, one_text}
use Rattle.clap.specs.declared.parser.matches.ArgMatches.{ArgMatches}
use Rattle.raft_base.specs.declared.pipe_log.Version.{Version}
use Rattle.raft_base.specs.declared.pipe_log.Version.TheVariants.{V1, V2}
use Rattle.raft_listing.specs.declared.selection.Selection.{Selection}
use Rattle.raft_report.specs.declared.form.Form.{Form}
use Rattle.raft_report.specs.declared.form.Form.TheVariants.{Text, Json}

-- they name this number, in decimal digits
abbrev pub NameNumber : ArgMatches → List ℕ → ℕ → Type 0
NameNumber words name n = one_text (found_of words) name ≡ Some (decimal n)

-- they name none
abbrev pub NameNone : ArgMatches → List ℕ → Type 0
NameNone words name = one_text (found_of words) name ≡ None

-- they have a flag
abbrev pub HaveFlag : ArgMatches → List ℕ → Type 0
HaveFlag words name = one_text (found_of words) name ≡ Some (codes "true")

-- they don't
abbrev pub LackFlag : ArgMatches → List ℕ → Type 0
LackFlag words name = (one_text (found_of words) name ≡ None) ⊎ (one_text (found_of words) name ≡ Some (codes "false"))

-- a flag is so
pub record IsFlag (words : ArgMatches) (name : List ℕ) (flag : Bool) : Type 0 where
  pub there : HaveFlag words name → flag ≡ true
  pub absent : LackFlag words name → flag ≡ false

-- a number is so, and another one where they name none
pub record IsNumber (words : ArgMatches) (name : List ℕ) (default number : ℕ) : Type 0 where
  pub named : (n : ℕ) → n < 2 ^ 64 → NameNumber words name n → number ≡ n
  pub unnamed : NameNone words name → number ≡ default

-- a number is so, if they name one
pub record IsNumberIfNamed (words : ArgMatches) (name : List ℕ) (number : Option ℕ) : Type 0 where
  pub named : (n : ℕ) → n < 2 ^ 64 → NameNumber words name n → number ≡ Some n
  pub unnamed : NameNone words name → number ≡ None

-- the form that is asked for: JSON by `--json`, else text
pub record IsFormAsked (words : ArgMatches) (form : Form) : Type 0 where
  pub json : HaveFlag words (codes "json") → form ≡ Json
  pub text : LackFlag words (codes "json") → form ≡ Text

-- the format version that is asked for: that of `--format`, else 2
pub record IsVersionAsked (words : ArgMatches) (version : Version) : Type 0 where
  pub first : NameNumber words (codes "format") 1 → version ≡ V1
  pub second : NameNumber words (codes "format") 2 → version ≡ V2
  pub unnamed : NameNone words (codes "format") → version ≡ V2

-- what is selected: by `--region`, from the index of `--from` on, below that of `--to`, and with values by `--values`
pub record IsSelectionAsked (words : ArgMatches) (selection : Selection) : Type 0 where
  pub region : IsNumberIfNamed words (codes "region") selection.region
  pub from : IsNumber words (codes "from") 0 selection.from
  pub to : IsNumber words (codes "to") (2 ^ 64 - 1) selection.to
  pub values : IsFlag words (codes "values") selection.values
