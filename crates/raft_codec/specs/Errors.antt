-- What the errors of numbers say.
use Rattle.std.specs.Prelude.{◌≡◌, ⊤}
use Rattle.std.specs.IoError.{error_kind}
use Rattle.std.specs.declared.io.ErrorKind.{ErrorKind}
use Rattle.raft_codec.specs.declared.codec.Error as codec
use Rattle.raft_codec.specs.declared.codec.Error.TheVariants as codec_errors

-- an io error
abbrev pub IsIo : codec.Error → Type 0
IsIo (codec_errors.Io e) = ⊤
IsIo _ = ⊥

-- an io error of this kind
abbrev pub IsIoOf : codec.Error → ErrorKind → Type 0
IsIoOf (codec_errors.Io e) kind = error_kind e ≡ kind
IsIoOf _ kind = ⊥
