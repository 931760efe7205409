-- What outputs hold.
use Rattle.std.specs.Prelude.{ℕ, List, Option}
use Rattle.std.specs.Io.Buffered.{writer_contents}
use Rattle.raftlog.specs.declared.output.Lines.{Lines}

-- the bytes of the output, and behind them those that are kept
abbrev pub lines_contents : {W : Type 0} → (W → Option (List ℕ)) → Lines W → Option (List ℕ)
lines_contents contents lines = writer_contents contents lines.out
