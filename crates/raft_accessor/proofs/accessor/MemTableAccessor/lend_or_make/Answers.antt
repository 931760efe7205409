use Rattle.raft_accessor.proofs.Common.{IsTrue, refl, sym, ap, subst, ◌∙◌, is_some, table_of, table_in}
use Rattle.std.specs.FinMap as finite
use Rattle.raft_accessor.proofs.MapLemmas.{get_own}
use Rattle.raft_accessor.proofs.accessor.MemTableAccessor.lend_or_make.Goals as goal

pub existing_table-requires : goal.existing_table-requires
existing_table-requires c =
    subst (λ o. IsTrue (is_some o)) (sym (ap (λ m. finite.get m c.args.id) c.in_ok-alloc_if_missing.ensures.ok ∙ get_own c.args.self.now.tables c.args.id (table_in c.args.self.now.tables c.args.id)))
    refl

pub returns : goal.returns
returns c =
    let made = c.in_ok-alloc_if_missing.ensures in (
      (refl, λ _. tt, record { ok = made.ok; err = tt; counts = made.counts; cleaned = made.cleaned }),
      record { ends = tt; table = c.existing_table.ensures ∙ ap (table_of c.args.id) (ap (λ m. finite.get m c.args.id) made.ok ∙ get_own c.args.self.now.tables c.args.id (table_in c.args.self.now.tables c.args.id)) },
    )
