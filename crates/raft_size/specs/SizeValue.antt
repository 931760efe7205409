-- What texts and the values of settings are read as.
use Rattle.std.specs.Prelude.{◌≡◌, ℕ, List, Result, Ok, Err, pos}
use Rattle.serde.specs.Event.{Event, text}
use Rattle.serde.specs.Steps.{Gives}
use Rattle.serde.specs.declared.deserializer.Deserializer.{Deserializer}
use Rattle.toml.specs.Data.{Data, string, integer}
use Rattle.raft_size.specs.declared.readable_size.ReadableSize.{ReadableSize}
use Rattle.raft_size.specs.declared.size_text.SizeError.{SizeError}
use Rattle.raft_size.specs.declared.size_text.SizeError.TheVariants.{Kind}
use Rattle.raft_size.specs.SizeText.{IsSizeText, IsSizeFault}

-- a text is read as the size that it stands for, or refused for its fault
abbrev pub IsReadAs : List ℕ → Result ReadableSize SizeError → Type 0
IsReadAs bytes (Ok size) = IsSizeText bytes size.0
IsReadAs bytes (Err e) = IsSizeFault bytes e

-- a text is read, and a whole number of at least 0 is a size in bytes
abbrev pub IsValueReadAs : Data → Result ReadableSize SizeError → Type 0
IsValueReadAs (string bytes) r = IsReadAs bytes r
IsValueReadAs (integer (pos n)) r = r ≡ Ok (record { 0 = n })
IsValueReadAs _ r = r ≡ Err Kind

-- a format gave a text that stands for the size
abbrev pub ReadsSize : {F E M : Type 0} → (F → List ℕ → Event → F → Type 0) → Deserializer F E M → Deserializer F E M → ReadableSize → Type 0
ReadsSize gives old new size = (bytes : List ℕ) × Gives gives old (text bytes) new × IsSizeText bytes size.0
