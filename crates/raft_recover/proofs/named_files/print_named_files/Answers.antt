use Rattle.raft_recover.proofs.Common.{asks_for}
use Rattle.raft_recover.proofs.NamedFileLemmas.{recovery_printed, recovery_unprinted}
use Rattle.raft_recover.proofs.named_files.print_named_files.Goals as goal

pub returns-clause-done : goal.returns-clause-done
returns-clause-done g c words asked =
    let may = c.in_ok-check_arguments.ensures.ok in
    recovery_printed _ words (asks_for c.args.ask.now) c.args.sizes.now _ _ asked c.requires.sizes c.print_files.result (may.0, may.1) c.print_files.ensures.ok

pub returns-clause-silent : goal.returns-clause-silent
returns-clause-silent g c words asked =
    recovery_unprinted _ words (asks_for c.args.ask.now) c.args.sizes.now _ _ asked c.requires.sizes _ c.print_files.result c.print_files.ensures.silent
