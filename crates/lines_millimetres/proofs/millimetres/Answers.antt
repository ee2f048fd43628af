use mathlib.Core.Path.{sym, ◌∙◌}
use lib.Dec.{lit≤}
use Rattle.lines_millimetres.proofs.NearestLaws.{only-nearest}
use Rattle.lines_millimetres.proofs.PatternLaws.{size_number, pattern-small, minus-result, plus-result}
use Rattle.lines_millimetres.proofs.millimetres.Goals as goal

pub float_to_bits-b : goal.float_to_bits-b
float_to_bits-b c = rw c.abs-size.ensures (size_number c.args.x c.requires)

pub times-requires : goal.times-requires
times-requires c = (pattern-small c.args.rounding c.args.x c.abs-size.result c.abs-size.ensures c.abs-size.type_inv c.requires, lit≤ tt)

pub times-requires-else-is_sign_negative : goal.times-requires-else-is_sign_negative
times-requires-else-is_sign_negative c = (pattern-small c.args.rounding c.args.x c.abs-size.result c.abs-size.ensures c.abs-size.type_inv c.requires, lit≤ tt)

pub returns-then-is_sign_negative : goal.returns-then-is_sign_negative
returns-then-is_sign_negative c =
    let x = c.args.x in
    let s = sym c.is_sign_negative.ensures ∙ c.if-is_sign_negative.true in (
      minus-result c.args.rounding x c.abs-size.result c.abs-size.ensures c.abs-size.type_inv c.requires c.times.result s c.times.ensures.0 c.times.ensures.1,
      only-nearest c.args.rounding,
    )

pub returns-else-is_sign_negative : goal.returns-else-is_sign_negative
returns-else-is_sign_negative c =
    let x = c.args.x in
    let s = sym c.is_sign_negative.ensures ∙ c.if-is_sign_negative.false in (
      plus-result c.args.rounding x c.abs-size.result c.abs-size.ensures c.abs-size.type_inv c.requires c.times-else-is_sign_negative.result s c.times-else-is_sign_negative.ensures.0 c.times-else-is_sign_negative.ensures.1,
      only-nearest c.args.rounding,
    )
