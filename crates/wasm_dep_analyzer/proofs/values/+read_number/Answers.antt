-- Each answer names the case of the number: its last byte, a byte that ends it, or a byte with higher groups.
use Rattle.std.proofs.Common.{◌-◌, refl, arith}
use Rattle.std.proofs.lemmas.Result.{err_from_is_err_and}
use Rattle.wasm_dep_analyzer.proofs.ValuesLemmas.{number_at-none, number_at-last, number_at-overflow, number_at-ends, number_at-high, power_more, power_within, power_positive}
use Rattle.wasm_dep_analyzer.proofs.values.+read_number.Goals as goal

pub returns-then-byte-lt16-clause-value : goal.returns-then-byte-lt16-clause-value
returns-then-byte-lt16-clause-value t c =
    rw c.from.ensures (number_at-last c.args.more c.args.input.now c.in_ok-byte.byte c.in_ok-byte.rest.now
    c.if-more-eq0.true c.if-byte-lt16.true c.in_ok-byte.ensures.value)

pub returns-else-byte-lt16-clause-value : goal.returns-else-byte-lt16-clause-value
returns-else-byte-lt16-clause-value t c =
    number_at-overflow c.args.more c.args.input.now c.in_ok-byte.byte c.in_ok-byte.rest.now c.if-more-eq0.true
    c.if-byte-lt16.false c.in_ok-byte.ensures.value

pub returns-then-byte-lt128-clause-value : goal.returns-then-byte-lt128-clause-value
returns-then-byte-lt128-clause-value t c =
    rw c.from-then-byte-lt128.ensures
    (number_at-ends c.args.more c.args.input.now c.in_ok-byte.byte c.in_ok-byte.rest.now c.if-byte-lt128.true
    c.in_ok-byte.ensures.value (omega arith))

pub returns-in_err-high-clause-value : goal.returns-in_err-high-clause-value
returns-in_err-high-clause-value t c =
    let p = err_from_is_err_and c.from_residual-in_err-high.result c.from_residual-in_err-high.ensures.1 in
    let e = number_at-high (c.args.more - 1) c.args.more c.args.input.now c.in_ok-byte.byte c.in_ok-byte.rest.now
    (omega arith) c.if-byte-lt128.false c.in_ok-byte.ensures.value in
    rw (p.1, p.2, e, c.in_err-high.ensures.value) refl

pub overflow_mul-result : goal.overflow_mul-result
overflow_mul-result t c =
    omega (arith, power_more c.args.more (omega arith), power_within c.args.more c.requires, c.in_ok-high.ensures.fits)

pub overflow_add-result : goal.overflow_add-result
overflow_add-result t c =
    omega (
      arith,
      power_more c.args.more (omega arith),
      power_within c.args.more c.requires,
      c.in_ok-high.ensures.fits,
      c.in_ok-byte.ensures.fits,
      c.from-2.ensures,
    )

pub returns-clause-value : goal.returns-clause-value
returns-clause-value t c =
    let e = number_at-high (c.args.more - 1) c.args.more c.args.input.now c.in_ok-byte.byte c.in_ok-byte.rest.now
    (omega arith) c.if-byte-lt128.false c.in_ok-byte.ensures.value in
    rw (c.from-2.ensures, e, c.in_ok-high.ensures.value) refl

pub returns-in_err-byte-clause-value : goal.returns-in_err-byte-clause-value
returns-in_err-byte-clause-value t c =
    let p = err_from_is_err_and c.from_residual.result c.from_residual.ensures.1 in
    rw (p.1, p.2) (number_at-none c.args.more c.args.input.now c.in_err-byte.field-0.0 c.in_err-byte.ensures.value)

pub returns-then-byte-lt128-clause-fits : goal.returns-then-byte-lt128-clause-fits
returns-then-byte-lt128-clause-fits t c =
    omega (
      arith,
      power_more c.args.more (omega arith),
      power_positive (c.args.more - 1),
      c.from-then-byte-lt128.ensures,
    )

pub returns-clause-fits : goal.returns-clause-fits
returns-clause-fits t c =
    omega (
      arith,
      power_more c.args.more (omega arith),
      c.in_ok-high.ensures.fits,
      c.in_ok-byte.ensures.fits,
      c.from-2.ensures,
    )
