use Rattle.raft_plain.proofs.Common.{ap, ◌∙◌, without, deleted_of, keys_shown}
use Rattle.std.specs.FinSet as finset
use Rattle.raft_plain.proofs.OverlayLemmas.{without_key_first}
use Rattle.raft_plain.proofs.overlay.remove_deleted_key.Goals as goal

pub returns-in-Del : goal.returns-in-Del
returns-in-Del c steps = rw c.in-Del.is (λ uncleaned. ap (without (deleted_of finset.empty steps)) c.remove_key.ensures ∙ without_key_first c.in-Del.key.items steps (keys_shown c.args.keys) uncleaned)
