use Rattle.std.proofs.Common.{arith, sym, ◌∙◌}
use Rattle.lsp_frame.proofs.Digits.{front}
use Rattle.lsp_frame.proofs.cutting.front_digits.Goals as goal

pub overflow_mul-value : goal.overflow_mul-value
overflow_mul-value c =
    let f = front c.args.bytes.now c.digits.count c.digits-test.true c.if-count-lt10.true c.digits.invariant.all (sym c.is_ascii_digit.ensures.value ∙ c.if-is_ascii_digit.true) in
    omega (arith, f.next, f.most, c.digits.invariant.value)

pub overflow_add-value : goal.overflow_add-value
overflow_add-value c =
    let f = front c.args.bytes.now c.digits.count c.digits-test.true c.if-count-lt10.true c.digits.invariant.all (sym c.is_ascii_digit.ensures.value ∙ c.if-is_ascii_digit.true) in
    omega (arith, f.next, f.most, c.digits.invariant.value, c.from.ensures)

pub digits-preserved : goal.digits-preserved
digits-preserved c =
    let f = front c.args.bytes.now c.digits.count c.digits-test.true c.if-count-lt10.true c.digits.invariant.all (sym c.is_ascii_digit.ensures.value ∙ c.if-is_ascii_digit.true) in record {
      within = omega arith;
      ten = omega arith;
      all = f.all;
      value = omega (arith, f.next, c.digits.invariant.value, c.from.ensures);
    }
