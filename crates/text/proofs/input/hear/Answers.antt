-- Two digits a byte; what is no digit spoils the line.
use Rattle.std.proofs.Common.{arith, refl, ◌∙◌}
use Rattle.numbers.specs.Sizes.{frame_bytes}
use Rattle.text.specs.Text.{line_digits}
use Rattle.text.proofs.TextLaws.{small, spelt-none, spelt-more, all-spelt, too_long}
use Rattle.text.proofs.input.hear.Goals as goal

pub returns-then-line-ne-DIGITS : goal.returns-then-line-ne-DIGITS
unfolding line_digits frame_bytes
returns-then-line-ne-DIGITS c = too_long _ c.if-line-ne-DIGITS.true

pub loop-i-init : goal.loop-i-init
unfolding frame_bytes
loop-i-init c = spelt-none _ _ refl

pub overflow_mul-bytes : goal.overflow_mul-bytes
overflow_mul-bytes c = omega (arith, small _ c.digit-high.ensures c.unwrap_or.ensures)

pub overflow_add-bytes : goal.overflow_add-bytes
overflow_add-bytes c =
    omega (arith, small _ c.digit-high.ensures c.unwrap_or.ensures, small _ c.digit-low.ensures c.unwrap_or-in-loop-i.ensures)

pub loop-i-preserved : goal.loop-i-preserved
unfolding line_digits frame_bytes
loop-i-preserved c =
    spelt-more _ _ _ _ c.if-line-ne-DIGITS.false c.loop-i.invariant c.loop-i-test.true c.digit-high.ensures c.digit-low.ensures
    c.is_some.ensures c.is_some-in-loop-i.ensures c.unwrap_or.ensures c.unwrap_or-in-loop-i.ensures

pub returns : goal.returns
unfolding line_digits frame_bytes
returns c = c.then_some.ensures ∙ all-spelt _ _ _ _ c.if-line-ne-DIGITS.false c.loop-i-test.false c.loop-i.invariant
