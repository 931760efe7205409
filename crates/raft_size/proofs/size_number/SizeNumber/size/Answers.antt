use Rattle.raft_size.proofs.Common.{◌≡◌, ◌*◌, refl, ◌∙◌, arith, digits_value, digits_of, number_shown}
use Rattle.raft_size.proofs.SizeScalingLemmas.{product_small, size_raised, size_lowered}
use Rattle.raft_size.proofs.size_number.SizeNumber.size.Goals as goal

pub returns-then-self-2 : goal.returns-then-self-2
returns-then-self-2 c =
    let n = number_shown c.args.self.now in
    let value : c.args.significand * c.from.result ≡ digits_value 10 (digits_of n) * c.args.factor = rw (c.from.ensures, c.requires.significand) refl in
    c.scale_by_powers.ensures ∙ size_lowered n c.args.factor (c.args.significand * c.from.result) c.value_up_to-exponent.result c.if-self.false c.if-self-2.true value
    (rw c.from.ensures (product_small c.args.significand c.args.factor c.requires.few c.requires.factor)) c.value_up_to-exponent.ensures

pub returns-else-self-2 : goal.returns-else-self-2
returns-else-self-2 c =
    let n = number_shown c.args.self.now in
    let value : c.args.significand * c.from.result ≡ digits_value 10 (digits_of n) * c.args.factor = rw (c.from.ensures, c.requires.significand) refl in
    c.scale_by_powers-else-self-2.ensures ∙ size_raised n c.args.factor (c.args.significand * c.from.result) c.value_up_to-exponent.result c.if-self.false c.if-self-2.false value c.value_up_to-exponent.ensures (omega arith)
