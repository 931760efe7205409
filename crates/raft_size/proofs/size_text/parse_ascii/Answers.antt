use Rattle.raft_size.proofs.Common.{◌≡◌, ℕ, List, subst, ◌∙◌, arith, IsCharBoundary-from_ascii, Number, IsNumber, number_shown, number_text, unit_text, IsUnit}
use Rattle.raft_size.proofs.SizeTextLemmas.{number_len-le, front_len_is, number_text_is, unit_text_is, has_unit}
use Rattle.raft_size.proofs.size_text.parse_ascii.Goals as goal

pub split_at-requires : goal.split_at-requires
split_at-requires c =
    IsCharBoundary-from_ascii c.args.text.now c.number_prefix_len.result c.requires.ascii
    (omega (arith, front_len_is c.args.text.now _ _ c.as_bytes.ensures.value c.number_prefix_len.ensures, number_len-le c.args.text.now))

pub returns-in_default-clause-fault : goal.returns-in_default-clause-fault
returns-in_default-clause-fault c =
    let text = c.args.text.now in
    let unit : c.trim.result.now ≡ unit_text text = unit_text_is text _ _ _ _ c.as_bytes.ensures.value c.number_prefix_len.ensures c.split_at.ensures.back c.trim.ensures.trim in
    record { some_text = c.requires.some_text; ascii = c.requires.ascii; no_unit = subst (λ (u : List ℕ). (factor : ℕ) → IsUnit u factor → ⊥) unit c.in_default.ensures.unknown }

pub returns-in_default-parse-clause-fault : goal.returns-in_default-parse-clause-fault
returns-in_default-parse-clause-fault c =
    let text = c.args.text.now in
    let front : c.as_bytes-2.result.now ≡ number_text text = c.as_bytes-2.ensures.value ∙ number_text_is text _ _ _ c.as_bytes.ensures.value c.number_prefix_len.ensures c.split_at.ensures.front in
    record {
      factor = c.in-Some.factor;
      has_unit = has_unit text _ _ _ _ c.in-Some.factor c.requires.some_text c.requires.ascii c.as_bytes.ensures.value c.number_prefix_len.ensures c.split_at.ensures.back c.trim.ensures.trim c.in-Some.ensures.known;
      no_number = subst (λ (t : List ℕ). (number : Number) → IsNumber t number → ⊥) front c.in_default-parse.ensures.none;
    }

pub returns-in_default-significand-clause-fault : goal.returns-in_default-significand-clause-fault
returns-in_default-significand-clause-fault c =
    let text = c.args.text.now in
    let number = number_shown c.in-Some-parse.number in
    let front : c.as_bytes-2.result.now ≡ number_text text = c.as_bytes-2.ensures.value ∙ number_text_is text _ _ _ c.as_bytes.ensures.value c.number_prefix_len.ensures c.split_at.ensures.front in
    record {
      factor = c.in-Some.factor;
      number = number;
      has_unit = has_unit text _ _ _ _ c.in-Some.factor c.requires.some_text c.requires.ascii c.as_bytes.ensures.value c.number_prefix_len.ensures c.split_at.ensures.back c.trim.ensures.trim c.in-Some.ensures.known;
      is_number = subst (λ (t : List ℕ). IsNumber t number) front c.in-Some-parse.ensures.number;
      many_digits = c.in_default-significand.ensures.many;
    }

pub returns-clause-size : goal.returns-clause-size
returns-clause-size c =
    let text = c.args.text.now in
    let number = number_shown c.in-Some-parse.number in
    let front : c.as_bytes-2.result.now ≡ number_text text = c.as_bytes-2.ensures.value ∙ number_text_is text _ _ _ c.as_bytes.ensures.value c.number_prefix_len.ensures c.split_at.ensures.front in
    record {
      factor = c.in-Some.factor;
      number = number;
      has_unit = has_unit text _ _ _ _ c.in-Some.factor c.requires.some_text c.requires.ascii c.as_bytes.ensures.value c.number_prefix_len.ensures c.split_at.ensures.back c.trim.ensures.trim c.in-Some.ensures.known;
      is_number = subst (λ (t : List ℕ). IsNumber t number) front c.in-Some-parse.ensures.number;
      few_digits = c.in-Some-significand.ensures.few;
      value = c.size.ensures;
    }
