use Rattle.raft_records.proofs.ContentLemmas.{command_one_front}
use Rattle.raft_records.proofs.EntryLemmas.{entries_one_front}
use Rattle.raft_records.proofs.ItemLemmas.{pair_one}
use Rattle.raft_records.proofs.WrittenLemmas.{pair_spelled}
use Rattle.raft_records.proofs.laws.contents_are_read_again.Goals as goal

pub returns-clause-one_command : goal.returns-clause-one_command
returns-clause-one_command c = command_one_front

pub returns-clause-key_value : goal.returns-clause-key_value
returns-clause-key_value c = λ p w r. pair_spelled p.op_type p.key p.value w r.0 r.1

pub returns-clause-one_key_value : goal.returns-clause-one_key_value
returns-clause-one_key_value c = pair_one

pub returns-clause-one_entries : goal.returns-clause-one_entries
returns-clause-one_entries c = entries_one_front
