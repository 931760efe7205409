use Rattle.raft_ffi.proofs.Common.{◌≡◌, ℕ, ◌++◌, List, length, take, drop, min, refl, ap, ◌∙◌, take_min, drop_min, min_comm, copied_over}
use Rattle.raft_ffi.proofs.status.copy_front.Goals as goal

-- as much of what was found as has room
front : {X : Type 0} (found : List X) (room n : ℕ) → n ≡ min (length found) room → take n found ≡ take room found
front found room n e = ap (λ k. take k found) (e ∙ min_comm (length found) room) ∙ take_min room found

copied : {X : Type 0} (found room : List X) (n : ℕ) → n ≡ min (length found) (length room) → take n found ++ drop n room ≡ copied_over found room
copied found room n e =
    let back : drop n room ≡ drop (length found) room = ap (λ k. drop k room) e ∙ drop_min (length found) room in
    rw (front found (length room) n e, back) refl

pub returns : goal.returns
returns g c =
    let front = c.split_at.ensures.front in
    let back = c.split_at_mut-to.ensures.back in
    let after = c.copy_from_slice.ensures.after in
    let all = copied c.args.found.now c.args.room.now c.min-count.result c.min-count.ensures in
    record { counted = refl; copied = cc }
