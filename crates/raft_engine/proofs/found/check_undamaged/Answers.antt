use Rattle.raft_engine.proofs.Common.{◌∙◌, inl, inr, sym, false≢true}
use Rattle.raft_engine.proofs.FoundLemmas.{elsewhere_stands, nothing_stands, sound_stands}
use Rattle.raft_engine.proofs.found.check_undamaged.Goals as goal

pub returns-in-Some-clause-refused : goal.returns-in-Some-clause-refused
returns-in-Some-clause-refused c =
    let sound = rw c.in-Some.is at c.in_ok-sound.ensures.ok in
    λ other. (
      sound_stands c.args.file.now c.args.at c.in-Some.sound (λ f. let t = c.in_ok-is_broken_off.ensures.ok.1 f in absurd (false≢true (sym c.if-branch.false ∙ t))) sound,
      inl (c.in-Some.sound, sound, c.followed.ensures),
    )

pub returns-in-Some-2-clause-refused : goal.returns-in-Some-2-clause-refused
returns-in-Some-2-clause-refused c =
    let found = rw c.in-Some-2.is at c.in_ok-offset.ensures.ok in
    λ other. (
      elsewhere_stands c.args.file.now c.args.at (c.in-Some-2.offset, c.in-Some-2.seq) (λ f. let t = c.in_ok-is_broken_off.ensures.ok.1 f in absurd (false≢true (sym c.if-branch.false ∙ t))) found,
      inr (rw c.in_default.is at c.in_ok-sound.ensures.ok, (c.in-Some-2.offset, c.in-Some-2.seq), found, c.of_elsewhere.ensures),
    )

pub returns-clause-ok : goal.returns-clause-ok
returns-clause-ok c = nothing_stands c.args.file.now c.args.at (rw c.in_default.is at c.in_ok-sound.ensures.ok) (rw c.in_default-2.is at c.in_ok-offset.ensures.ok)
