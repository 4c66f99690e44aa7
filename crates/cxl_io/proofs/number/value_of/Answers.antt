use Rattle.std.proofs.Common.{◌≡◌, inl, inr, arith}
use Rattle.std.proofs.lemmas.Bool.{cases_lt}
use Rattle.std.proofs.lemmas.List.{take_all}
use Rattle.cxl_io.proofs.Values.{value_more, stays_too_large, all_digits, some_bad}
use Rattle.cxl_io.proofs.number.value_of.Goals as goal

pub returns-then-digit-base : goal.returns-then-digit-base
returns-then-digit-base c =
    let l = c.loop-byte in
    let digit = c.digit_of-digit.ensures in
    let bad = c.if-digit-base.true in
    λ both. some_bad c.args.base c.args.digits.now l.byte-index c.loop-byte-test.true (omega arith) both.0

pub returns-in_err-checked_mul : goal.returns-in_err-checked_mul
returns-in_err-checked_mul c =
    let l = c.loop-byte in
    let large = c.in_err-checked_mul.ensures in
    rw c.from_residual.ensures (λ both. stays_too_large c.args.base l.byte-index l.value c.args.digits.now c.requires c.loop-byte-test.true l.invariant.so_far (omega arith) both.1)

pub returns-in_err-value : goal.returns-in_err-value
returns-in_err-value c =
    let l = c.loop-byte in
    let product = c.in_ok-checked_mul.ensures in
    let large = c.in_err-value.ensures in
    rw c.from_residual-in_err-value.ensures (λ both. stays_too_large c.args.base l.byte-index l.value c.args.digits.now c.requires c.loop-byte-test.true l.invariant.so_far (let digit = c.digit_of-digit.ensures in omega arith) both.1)

pub loop-byte-preserved : goal.loop-byte-preserved
loop-byte-preserved c =
    let l = c.loop-byte in
    let more = value_more c.args.base l.byte-index l.value c.args.digits.now c.loop-byte-test.true l.invariant.so_far in
    let product = c.in_ok-checked_mul.ensures in
    let sum = c.in_ok-value.ensures in
    let digit = c.digit_of-digit.ensures in
    let good = c.if-digit-base.false in
    record {
      so_far = omega arith;
      fits = omega arith;
      digits = λ k below. elim (cases_lt k l.byte-index) [
        | inl before ↦ l.invariant.digits k before
        | inr last ↦ let same : k ≡ l.byte-index = omega arith in rw same (omega arith)
      ];
    }

pub returns : goal.returns
returns c =
    let l = c.loop-byte in
    let all = take_all l.byte-index c.args.digits.now c.loop-byte-test.false in
    let good = all_digits c.args.base c.args.digits.now (λ k below. l.invariant.digits k (omega (arith, c.loop-byte-test.false))) in
    let value = rw all at l.invariant.so_far in
    ((good, omega (arith, value, l.invariant.fits)), value)
