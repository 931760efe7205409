-- A region mark as a slot keeps it, as its contracts see it.
use Rattle.std.specs.Prelude.{Some}
use Rattle.raft_table.specs.MarkJoins.{fresh}
use Rattle.raft_table.specs.Marks.{Mark}
use Rattle.raft_contexts.specs.declared.region_marks.small_mark.Form.{Form}
use Rattle.raft_contexts.specs.declared.region_marks.small_mark.Form.TheVariants.{Run, Whole}
use Rattle.raft_contexts.specs.declared.region_marks.small_mark.SmallMark.TheInside.{Inside}

-- the region mark of a run that starts here, or the one that is kept whole
abbrev pub form_shown : Form → Mark
form_shown (Run start) = record fresh { reach = Some start; cut = Some start }
form_shown (Whole mark) = mark.value

-- the region mark that is kept
abbrev pub small_mark_shown : Inside → Mark
small_mark_shown a = form_shown a.form
