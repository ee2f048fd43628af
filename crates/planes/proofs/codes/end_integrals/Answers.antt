use native.Mathlib.Omega.{arith}
use mathlib.Core.Path.{◌≡◌}
use mathlib.Core.List.{[]}
use Rattle.std.specs.Prelude.{Some, None}
use Rattle.std.proofs.lemmas.Result.{err_from_is_err_and}
use Rattle.refusal.specs.declared.Refusal.TheVariants.{InvalidSample}
use Rattle.planes.proofs.ReplyLaws.{integrals-refused, integrals-put, integrals-none}
use Rattle.planes.proofs.codes.end_integrals.Goals as goal

pub returns-in_err-t : goal.returns-in_err-t
returns-in_err-t c =
    let p = err_from_is_err_and c.from_residual.result c.from_residual.ensures.1 in
    let none : c.args.r ≡ None = grind arith in
    let refusal : c.in_err-t.field-0.0 ≡ InvalidSample = grind arith in
    rw (p.1, p.2, refusal) (integrals-none c.args.answers.now [] _ none)

pub returns-then-lacks_integrals : goal.returns-then-lacks_integrals
returns-then-lacks_integrals c =
    let some : c.args.r ≡ Some c.in_ok-t.t = grind arith in
    integrals-refused _ [] _ _ _ some c.lacks_integrals.ensures c.if-lacks_integrals.true

pub returns : goal.returns
returns c =
    let some : c.args.r ≡ Some c.in_ok-t.t = grind arith in
    integrals-put _ _ _ _ _ some c.lacks_integrals.ensures c.if-lacks_integrals.false c.put_integrals.ensures
