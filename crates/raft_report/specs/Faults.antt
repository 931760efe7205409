-- Why something isn't printed to its end.
use Rattle.raft_report.specs.declared.print_error.PrintError.{PrintError}
use Rattle.raft_report.specs.declared.print_error.PrintError.TheVariants.{Files, Output}

-- the output takes no more
abbrev pub IsOutputFault : PrintError → Type 0
IsOutputFault (Files e) = ⊥
IsOutputFault (Output e) = Unit {0}
