-- Errors of io by a name of their own.
use Rattle.std.specs.declared.io.Error.{Error}

-- an error of io
abbrev pub IoError : Type 0
IoError = Error
