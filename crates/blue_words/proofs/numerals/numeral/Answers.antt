use Rattle.std.proofs.Common.{get_or, refl, sym, ◌∙◌, arith}
use Rattle.std.proofs.lemmas.Grind.{common_steps}
use Rattle.elem_core.proofs.Numerals.{digits_value_with}
use Rattle.blue_words.proofs.numerals.numeral.Goals as goal

-- one digit more is read
pub loop-digit-preserved : goal.loop-digit-preserved
loop-digit-preserved c =
    let digit = get_or c.args.digits.now c.loop-digit.digit-index 0 in
    let more = digits_value_with c.args.digits.now c.loop-digit.digit-index digit c.loop-digit-test.true refl (sym c.is_ascii_digit.ensures.value ∙ c.if-not-is_ascii_digit.false) in
    record {
      digits = grind (arith, common_steps);
      so_far = omega (arith, more, c.saturating_mul.ensures, c.saturating_add-value.ensures, c.from.ensures);
    }
