-- What an opening tells of the tails that it cuts off from found files.
use Rattle.std.specs.Prelude.{◌≡◌, ◌≢◌, ◌+◌, List, [], ◌∷◌, ◌++◌, length, drop, Option, Some, None}
use Rattle.raft_base.specs.Signature.{signature_in}
use Rattle.raft_base.specs.declared.errors.Error.TheVariants as errors
use Rattle.raft_base.specs.declared.pipe_log.LogQueue.{LogQueue}
use Rattle.raft_base.specs.declared.pipe_log.LogQueue.TheVariants.{Append, Rewrite}
use Rattle.raft_base.specs.declared.pipe_log.Version.{Version}
use Rattle.raft_records.specs.FilePart.{Part, IsNextFault}
use Rattle.raft_files.specs.Asks.{NumberedBytes}
use Rattle.raft_recover.specs.Files.{whole_file}
use Rattle.raft_engine_prefixes.specs.TornTails.{StopsAt}
use Rattle.raft_engine.specs.FoundFiles.{IsTornFrom}
use Rattle.raft_engine.specs.declared.missing.Missing.{Missing}
use Rattle.raft_engine.specs.declared.missing.Missing.TheVariants.{Nothing, FirstFile, Cut}
use Rattle.raft_engine.specs.declared.recovered.CutTail.{CutTail}
use Rattle.raft_engine.specs.declared.recovered.Recovered.{Recovered}

-- the tail that is missing, if one is
abbrev pub tail_of : Missing → Option CutTail
tail_of Nothing = None
tail_of FirstFile = None
tail_of (Cut tail) = Some tail

-- the tail of a part that begins its file: from where reading stops to the end, with the reason why no batch is read there
pub record IsTailOf (part : Part) (tail : CutTail) : Type 0 where
  pub torn : IsTornFrom part (Some tail.offset)
  pub file : tail.file ≡ part.id.seq
  pub len : tail.offset + tail.len ≡ length part.bytes
  pub why : IsNextFault (signature_in part.version part.id.seq) (drop tail.offset part.bytes) tail.error
  pub not_memory : tail.error ≢ errors.Memory

-- a part ends with its batches, or this is its tail
abbrev pub IsTornAs : Part → Option CutTail → Type 0
IsTornAs part None = IsTornFrom part None
IsTornAs part (Some tail) = IsTailOf part tail

-- the last file of a queue has this tail
pub record IsLastTail (queue : LogQueue) (version : Version) (files : List NumberedBytes) (tail : CutTail) : Type 0 where
  pub closed : List NumberedBytes
  pub last : NumberedBytes
  pub split : files ≡ closed ++ last ∷ []
  pub is : IsTailOf (whole_file queue version last) tail

-- the last file of a queue ends with its batches, if there is one; or it has this tail
abbrev pub IsTailTold : LogQueue → Version → List NumberedBytes → Option CutTail → Type 0
IsTailTold queue version files None =
    (closed : List NumberedBytes) (last : NumberedBytes) → files ≡ closed ++ last ∷ [] → StopsAt (whole_file queue version last) (length last.1)
IsTailTold queue version files (Some tail) = IsLastTail queue version files tail

-- what is told of the found files of both queues is what is cut off from them
pub record IsRecoveredOf (version : Version) (append rewrite : List NumberedBytes) (recovered : Recovered) : Type 0 where
  pub append_told : IsTailTold Append version append recovered.append
  pub rewrite_told : IsTailTold Rewrite version rewrite recovered.rewrite
