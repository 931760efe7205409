use Rattle.raft_recover.proofs.Common.{◌≡◌, ◌++◌, ◌+◌, map, drop, refl, sym, subst, ◌∙◌, path_shown, file_shown}
use Rattle.raft_recover.proofs.RequestLemmas.{number_more, numbers_all}
use Rattle.std.proofs.lemmas.Simd.{map-map}
use Rattle.raft_recover.proofs.request.read_files.Goals as goal

pub loop-seq-preserved : goal.loop-seq-preserved
loop-seq-preserved g c =
    subst (λ files. map (λ file. file.0) files ++ map (λ file. file.0) (drop (c.loop-seq.seq-index + 1) c.args.named.now) ≡ map (λ file. file.0) c.args.named.now) (sym c.in_ok-push.ensures.items)
    (number_more (λ file. file.0) (λ file. file.0) c.loop-seq.files.items _ c.args.named.now c.loop-seq.seq-index _ c.loop-seq-test.true refl c.loop-seq.invariant)

pub returns-clause-ok : goal.returns-clause-ok
returns-clause-ok g c =
    map-map (λ file. file.0) file_shown c.loop-seq.files.items
    ∙ numbers_all (λ file. file.0) (λ file. file.0) c.loop-seq.files.items c.args.named.now c.loop-seq.seq-index c.loop-seq-test.false c.loop-seq.invariant
    ∙ sym (map-map (λ file. file.0) path_shown c.args.named.now)
