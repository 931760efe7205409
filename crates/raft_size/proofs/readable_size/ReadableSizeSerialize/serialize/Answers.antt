-- Digits and unit have room.
use Rattle.raft_size.proofs.Common.{◌≡◌, ◌++◌, List, [], ℕ, ◌≤◌, length, refl, sym, ap, ◌∙◌, subst, arith, le-leb, OnOk, cut_to, inline_text, Logs, text, size_text}
use Rattle.raft_size.proofs.readable_size.ReadableSizeSerialize.serialize.Goals as goal

cut_to_fits : (room : ℕ) (bs : List ℕ) → length bs ≤ room → cut_to room bs ≡ bs
unfolding cut_to
cut_to_fits room bs fits = rw (le-leb (length bs) room fits) refl

appended : (room : ℕ) (old part new front : List ℕ) → new ≡ old ++ cut_to room part → old ≡ front → length part ≤ room → new ≡ front ++ part
appended room old part new front is same fits = is ∙ ap (λ xs. xs ++ cut_to room part) same ∙ ap (λ xs. front ++ xs) (cut_to_fits room part fits)

pub returns : goal.returns
returns g c =
    let digits = c.format.result.now in
    let unit = c.count_and_unit-count.result.1.now in
    let none : length (inline_text c.new.result) ≡ 0 = ap length c.new.ensures.text in
    let first : inline_text c.and_str.result ≡ digits =
    appended 20 (inline_text c.new.result) digits (inline_text c.and_str.result) [] (c.and_str.ensures.within (omega arith)) c.new.ensures.text c.format.ensures.fits in
    let fits : length digits ≤ 20 = c.format.ensures.fits in
    let short : length (inline_text c.and_str.result) ≤ 20 = omega (arith, ap length first) in
    let both : inline_text c.and_str-text.result ≡ digits ++ unit =
    appended 3 (inline_text c.and_str.result) unit (inline_text c.and_str-text.result) digits (c.and_str-text.ensures.within (omega arith)) first c.count_and_unit-count.ensures.unit in
    let whole : c.as_str.result.now ≡ size_text c.args.self.now.0 =
    c.as_str.ensures.value ∙ both ∙ ap (λ bs. bs ++ unit) c.format.ensures.text ∙ sym c.count_and_unit-count.ensures.text in
    subst (λ bs. OnOk c.str.result (Logs (g.S.Serializer.written c.args.out.now) (g.S.Serializer.written c.str.new.self) (text bs))) whole c.str.ensures
