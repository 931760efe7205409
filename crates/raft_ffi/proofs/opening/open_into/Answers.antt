use Rattle.std.proofs.Common.{◌≡◌, ◌∙◌, List, inl, inr, refl, sym, subst, ap}
use Rattle.std.proofs.lemmas.Result.{err_from_is_err_and}
use Rattle.raft_base.specs.declared.errors.Error.{Error}
use Rattle.raft_base.specs.declared.pipe_log.Version.{Version}
use Rattle.raft_files.specs.Asks.{Ask, NumberedBytes}
use Rattle.raft_orders.specs.Orders.{all_to_do}
use Rattle.raft_orders.specs.Refusals.{HandedFails}
use Rattle.raft_engine.specs.StoredFound.{found_asks}
use Rattle.raft_engine.specs.Unopened.{IsHalfOpened}
use Rattle.raft_ffi.proofs.opening.open_into.Goals as goal

half_so : (version : Version) (append rewrite : List NumberedBytes) (asks : List Ask) (u e : Error) → IsHalfOpened HandedFails version append rewrite asks u → e ≡ u
    → IsHalfOpened HandedFails version append rewrite asks e
half_so version append rewrite asks u e half same = subst (IsHalfOpened HandedFails version append rewrite asks) (sym same) half

pub of_found-found-requires : goal.of_found-found-requires
of_found-found-requires c = c.requires.read

pub found-files-requires : goal.found-files-requires
found-files-requires c = ap all_to_do c.of_found-found.ensures.3

pub of_reading-requires-clause-to_be_told : goal.of_reading-requires-clause-to_be_told
of_reading-requires-clause-to_be_told c = let f = c.of_found-found.ensures in (c.in_ok-reading.ensures.ok f.0 f.1 f.2).to_be_told

pub of_reading-requires-clause-found : goal.of_reading-requires-clause-found
of_reading-requires-clause-found c = let f = c.of_found-found.ensures in (f.0, f.1, c.found-files.ensures.asks ∙ f.3, c.in_ok-reading.ensures.ok f.0 f.1 f.2)

pub returns-in_err-reading-clause-fault : goal.returns-in_err-reading-clause-fault
returns-in_err-reading-clause-fault c =
    let f = c.of_found-found.ensures in
    let p = err_from_is_err_and c.from_residual.result c.from_residual.ensures.1 in
    rw (p.1, p.2)
    (record {
      append_files = f.0;
      rewrite_files = f.1;
      read = f.2;
      asks = found_asks f.0 f.1;
      why = elim (c.in_err-reading.ensures.fault f.0 f.1 f.2) [
        | inl refused ↦ inl (inl (refl, refused))
        | inr on ↦ inr on
      ];
    })

pub returns-in_err-opened-clause-fault : goal.returns-in_err-opened-clause-fault
returns-in_err-opened-clause-fault c =
    let f = c.of_found-found.ensures in
    let read = c.in_ok-reading.ensures.ok f.0 f.1 f.2 in
    let half = c.in_err-opened.ensures.err f.0 f.1 (c.found-files.ensures.asks ∙ f.3) read in
    let p = err_from_is_err_and c.from_residual-in_err-opened.result c.from_residual-in_err-opened.ensures.1 in
    rw (p.1)
    (record {
      append_files = f.0;
      rewrite_files = f.1;
      read = f.2;
      asks = _;
      why = inl (inr (c.in_ok-reading.ensures.accepted f.0 f.1 f.2, half_so c.args.version f.0 f.1 _ _ p.0 half p.2));
    })

pub returns-in_err-put_new-clause-fault : goal.returns-in_err-put_new-clause-fault
returns-in_err-put_new-clause-fault c =
    let f = c.of_found-found.ensures in
    let p = err_from_is_err_and c.from_residual-in_err-put_new.result c.from_residual-in_err-put_new.ensures.1 in
    rw (p.1)
    (record {
      append_files = f.0;
      rewrite_files = f.1;
      read = f.2;
      asks = found_asks f.0 f.1;
      why = inl (inl (refl, λ other. absurd (other (p.2 ∙ c.in_err-put_new.ensures.memory))));
    })

pub returns-clause-ok : goal.returns-clause-ok
returns-clause-ok c =
    let f = c.of_found-found.ensures in
    let read = c.in_ok-reading.ensures.ok f.0 f.1 f.2 in
    rw (c.in_ok-put_new.ensures.ok, c.of_engine.ensures)
    (record {
      append_files = f.0;
      rewrite_files = f.1;
      read = f.2;
      accepted = c.in_ok-reading.ensures.accepted f.0 f.1 f.2;
      opened = c.in_ok-opened.ensures.ok f.0 f.1 (c.found-files.ensures.asks ∙ f.3) read;
      told = c.in_ok-opened.ensures.recovered f.0 f.1 read;
    })
