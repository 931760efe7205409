use Rattle.std.proofs.Common.{◌≡◌, Bor, Option, None, Some, refl, sym, ◌∙◌}
use Rattle.std.specs.Option.{option_copied}
use Rattle.std.specs.Prelude.{option_map}
use Rattle.raft_contexts.proofs.SlotMarksLemmas.{get-shown}
use Rattle.raft_contexts.proofs.region_marks.slot.SlotMarks.get.Goals as goal

copied : {A : Type 0} (o : Option (Bor A)) → option_map (λ (m : Bor A). m.now) o ≡ option_copied o
copied None = refl
copied (Some m) = refl

pub returns : goal.returns
returns c = copied c.get.result ∙ c.get.ensures.value ∙ sym (get-shown c.self.inside c.args.self.now c.args.id c.self.view_is)
