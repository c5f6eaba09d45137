-- A digit takes the value so far to the next.
use Rattle.std.proofs.Common.{arith, ◌≡◌, ◌+◌, ◌≤◌, ◌∷◌, drop, get_or, sym, ◌∙◌, add-one, drop-cons}
use Rattle.std.proofs.lemmas.Grind.{common_steps}
use Rattle.script.proofs.Capped.{value_with_digit, digits_with_digit}
use Rattle.script.proofs.number.number_in.Goals as goal

pub loop-digit-preserved : goal.loop-digit-preserved
loop-digit-preserved c =
    let left : drop c.loop-digit.digit-index c.args.digits.now ≡ get_or c.args.digits.now c.loop-digit.digit-index 0 ∷ drop (c.loop-digit.digit-index + 1) c.args.digits.now =
    rw add-one (drop-cons c.args.digits.now c.loop-digit.digit-index 0 (omega arith)) in
    let low : 48 ≤ get_or c.args.digits.now c.loop-digit.digit-index 0 = grind (arith, common_steps) in
    let high : get_or c.args.digits.now c.loop-digit.digit-index 0 ≤ 57 = grind (arith, common_steps) in
    let more = value_with_digit c.args.most c.loop-digit.value c.min-value.result (get_or c.args.digits.now c.loop-digit.digit-index 0) (drop (c.loop-digit.digit-index + 1) c.args.digits.now) (omega arith) low high (omega arith) in
    record {
      value = more ∙ (rw left at c.loop-digit.invariant.value);
      held = omega arith;
      digits = sym (digits_with_digit (get_or c.args.digits.now c.loop-digit.digit-index 0) (drop (c.loop-digit.digit-index + 1) c.args.digits.now) low high) ∙ (rw left at c.loop-digit.invariant.digits);
    }
