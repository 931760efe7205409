-- A tail by where it begins.
use Rattle.std.specs.Prelude.{◌≡◌, ℕ, ◌+◌, length}
use Rattle.raft_base.specs.declared.errors.Error.{Error}
use Rattle.raft_records.specs.FilePart.{Part}
use Rattle.raft_engine.specs.declared.recovered.CutTail.{CutTail}

-- the tail of a part that begins its file, from this byte on, with this reason
pub record IsTailFrom (part : Part) (at : ℕ) (error : Error) (tail : CutTail) : Type 0 where
  pub file : tail.file ≡ part.id.seq
  pub offset : tail.offset ≡ at
  pub len : tail.offset + tail.len ≡ length part.bytes
  pub reason : tail.error ≡ error
