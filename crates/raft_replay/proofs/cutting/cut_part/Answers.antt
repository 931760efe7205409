use Rattle.raft_replay.proofs.Common.{◌≡◌, [], ◌∷◌, length, sym, ap, ◌∙◌, subst, arith, length-append, All-append, All-from_recursion, Part}
use Rattle.std.specs.List.{All}
use Rattle.raft_replay.proofs.CutBytesLemmas.{parts_more}
use Rattle.raft_replay.proofs.CutPartLemmas.{cut_again}
use Rattle.raft_replay.proofs.cutting.cut_part.Goals as goal

pub loop-alloc-preserved : goal.loop-alloc-preserved
loop-alloc-preserved c =
    let old = c.loop-alloc.parts.items in
    let new = c.push.new.self.items in
    let front = c.replace.result in
    let front_is = c.replace.ensures.value ∙ c.in_ok-behind.ensures.front in
    let rest_is = c.replace.ensures.after ∙ c.in_ok-behind.ensures.rest in
    let pushed = c.in_ok-push.ensures.items in
    let before = c.loop-alloc.invariant in
    record {
      read = cut_again c.args.part c.loop-alloc.left front c.replace.new.dest old new c.in-Some.at before.read (omega (arith, c.in-Some.ensures.inside)) c.in-Some.ensures.met front_is rest_is pushed;
      bytes = parts_more c.args.part c.loop-alloc.left front c.replace.new.dest old new c.in-Some.at before.bytes (omega (arith, c.in-Some.ensures.inside)) front_is rest_is pushed;
      file = subst (All (λ (p : Part). p.id ≡ c.args.part.id)) (sym pushed)
          (All-append (λ (p : Part). p.id ≡ c.args.part.id) old (front ∷ []) before.file
          (All-from_recursion (λ (p : Part). p.id ≡ c.args.part.id) (front ∷ []) (ap (λ (p : Part). p.id) front_is ∙ before.left_file, tt)));
      left_file = ap (λ (p : Part). p.id) rest_is ∙ before.left_file;
      few = λ some. omega (arith, c.loop-alloc-test.true, c.len.ensures, ap length pushed, length-append old (front ∷ []));
    }
