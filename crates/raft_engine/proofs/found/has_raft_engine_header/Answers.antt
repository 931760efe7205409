use Rattle.raft_engine.proofs.Common.{◌∙◌, drop, length, sym, Decides-eqb, starts_is, engine_header}
use Rattle.raft_engine.proofs.found.has_raft_engine_header.Goals as goal

pub returns : goal.returns
returns c =
    let s = starts_is Decides-eqb c.bytes.result.now engine_header c.starts_with.result c.starts_with.ensures.value in (
      λ t. (drop (length engine_header) c.bytes.result.now, sym c.bytes.ensures ∙ s.0 t),
      λ e. s.1 e.0 (c.bytes.ensures ∙ e.1),
    )
