use Rattle.raft_opening.proofs.Common.{◌∙◌, sym, subst, IfErr-weaker, AreDamagedTold}
use Rattle.raft_opening.proofs.OnceLemmas.{three_ok}
use Rattle.raft_opening.proofs.opening.open_after_reading.Goals as goal

pub of_found-found-requires : goal.of_found-found-requires
of_found-found-requires g c = c.requires.read

pub note_found-requires-clause-found : goal.note_found-requires-clause-found
note_found-requires-clause-found g c = let f = c.of_found-found.ensures in (f.0, f.1, f.3)

pub of_reading-requires-clause-to_be_told : goal.of_reading-requires-clause-to_be_told
of_reading-requires-clause-to_be_told g c = let f = c.of_found-found.ensures in f.2.read.to_be_told

pub of_reading-requires-clause-found : goal.of_reading-requires-clause-found
of_reading-requires-clause-found g c = let f = c.of_found-found.ensures in (f.0, f.1, c.note_found.ensures ∙ f.3, f.2.read)

pub returns-clause-ok : goal.returns-clause-ok
returns-clause-ok g c =
    let f = c.of_found-found.ensures in
    three_ok c.of_reading.result _ _ _ _
    (λ opened is told named. record {
      append_files = f.0;
      rewrite_files = f.1;
      given = f.2.given;
      accepted = f.2.accepted;
      opened = is;
      told = told;
      damaged = subst (AreDamagedTold c.args.version f.0) (sym named) f.2.damaged;
    })
    (c.of_reading.ensures.ok f.0 f.1 (c.note_found.ensures ∙ f.3) f.2.read) (c.of_reading.ensures.recovered f.0 f.1 f.2.read) c.of_reading.ensures.damaged

pub returns-clause-err : goal.returns-clause-err
returns-clause-err g c =
    let f = c.of_found-found.ensures in
    IfErr-weaker c.of_reading.result _ _
    (λ unopened half. record { append_files = f.0; rewrite_files = f.1; given = f.2.given; accepted = f.2.accepted; half = half })
    (c.of_reading.ensures.err f.0 f.1 (c.note_found.ensures ∙ f.3) f.2.read)
