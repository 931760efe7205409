use Rattle.raft_size.proofs.SizeLawLemmas.{read_one_way, printed_read_again}
use Rattle.raft_size.proofs.SizePrintLemmas.{printed_is_size}
use Rattle.raft_size.proofs.readable_size.ReadableSize.text_laws.Goals as goal

pub returns-clause-one_way : goal.returns-clause-one_way
returns-clause-one_way c = read_one_way

pub returns-clause-printed : goal.returns-clause-printed
returns-clause-printed c = printed_is_size

pub returns-clause-read_again : goal.returns-clause-read_again
returns-clause-read_again c = printed_read_again
