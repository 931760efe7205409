use Rattle.raft_listing.proofs.Common.{refl, on_ok_weaker, damage_line}
use Rattle.raft_listing.proofs.text_dump.TextDumpDumpForm.append_damage.Goals as goal

pub returns : goal.returns
returns c = on_ok_weaker c.append_damage_line.result (λ ended. record { text = damage_line c.args.part.now c.args.at c.args.reason.now; is_text = refl; behind = ended }) c.append_damage_line.ensures
