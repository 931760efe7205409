use Rattle.raft_recover.proofs.Common.{◌≡◌, ◌++◌, ◌+◌, map, drop, refl, sym, subst, ◌∙◌, path_shown}
use Rattle.raft_recover.proofs.RequestLemmas.{number_more, numbers_all}
use Rattle.std.proofs.lemmas.Simd.{map-map}
use Rattle.raft_recover.proofs.named_files.sizes_of_files.Goals as goal

pub loop-seq-preserved : goal.loop-seq-preserved
loop-seq-preserved g c =
    subst (λ sizes. map (λ size. size.seq) sizes ++ map (λ file. file.0) (drop (c.loop-seq.seq-index + 1) c.args.paths.now) ≡ map (λ file. file.0) c.args.paths.now) (sym c.in_ok-push.ensures.items)
    (number_more (λ size. size.seq) (λ file. file.0) c.loop-seq.sizes.items _ c.args.paths.now c.loop-seq.seq-index _ c.loop-seq-test.true refl c.loop-seq.invariant)

pub returns-clause-ok : goal.returns-clause-ok
returns-clause-ok g c =
    numbers_all (λ size. size.seq) (λ file. file.0) c.loop-seq.sizes.items c.args.paths.now c.loop-seq.seq-index c.loop-seq-test.false c.loop-seq.invariant
    ∙ sym (map-map (λ file. file.0) path_shown c.args.paths.now)
